-- Lists of numbers: those below one, the greatest and the least.
use Rattle.std.specs.Prelude.{ℕ, zero, suc, List, [], ◌∷◌, ◌++◌, leb, if◌then◌else◌, Option, Some, None}

-- the numbers below n
unfoldable pub numbers_below : ℕ → List ℕ
numbers_below zero = []
numbers_below (suc n) = numbers_below n ++ n ∷ []

-- the greater of a number and another one, if there is one
abbrev pub more_of : ℕ → Option ℕ → ℕ
more_of k None = k
more_of k (Some m) = if leb m k then k else m

-- the smaller of a number and another one, if there is one
abbrev pub less_of : ℕ → Option ℕ → ℕ
less_of k None = k
less_of k (Some m) = if leb k m then k else m

-- the greatest of a list of numbers
unfoldable pub greatest : List ℕ → Option ℕ
greatest [] = None
greatest (k ∷ ks) = Some (more_of k (greatest ks))

-- the least of a list of numbers
unfoldable pub least : List ℕ → Option ℕ
least [] = None
least (k ∷ ks) = Some (less_of k (least ks))
