-- Whether cells of a list in order lie in other ones, by going over it once for each number of levels between them.
use Rattle.std.specs.Prelude.{ℕ, zero, suc, ◌/◌, ◌^◌, Bool, true, false, not, cond, ltb, eqb, ◌&&◌, ◌||◌, List, [], ◌∷◌}

-- what is left behind the numbers below w at the front
unfoldable pub skip_below : ℕ → List ℕ → List ℕ
skip_below w [] = []
skip_below w (x ∷ xs) = cond (ltb x w) (skip_below w xs) (x ∷ xs)

-- whether the list starts with w
abbrev pub starts : ℕ → List ℕ → Bool
starts w [] = false
starts w (x ∷ xs) = eqb x w

-- whether a number over p is one of the others
unfoldable pub meets : ℕ → List ℕ → List ℕ → Bool
meets p [] rest = false
meets p (k ∷ ks) rest = starts (k / p) (skip_below (k / p) rest) || meets p ks (skip_below (k / p) rest)

-- whether no cell lies 1 to n levels above another one
unfoldable pub none_meet : ℕ → List ℕ → Bool
none_meet zero ks = true
none_meet (suc n) ks = none_meet n ks && not (meets (8 ^ suc n) ks ks)
