-- Lists of numbers in ascending order.
use Rattle.std.specs.Prelude.{ℕ, cond, leb, List, [], ◌∷◌}

-- a list with one more number, before the first that is not below it: an equal one stays beside it
unfoldable pub inserted : ℕ → List ℕ → List ℕ
inserted n [] = n ∷ []
inserted n (k ∷ ks) = cond (leb n k) (n ∷ k ∷ ks) (k ∷ inserted n ks)

-- the numbers of a list, ascending, each as often as it stands there
unfoldable pub ascending : List ℕ → List ℕ
ascending [] = []
ascending (n ∷ ns) = inserted n (ascending ns)
