-- What the ranks of a walk find.
use Rattle.std.specs.Prelude.{ℕ, zero, suc, ◌≡◌, ◌↔◌, Bool, List, [], ◌++◌, length, map, sum_by, Contains}
use Rattle.hot_units.specs.Values.{BodyValue, CellValue}
use Rattle.hot_units.specs.Numbers.{numbers_below}
use Rattle.hot_model.specs.Trees.{opened}
use Rattle.rank_model.specs.World.{World, piece}
use Rattle.rank_model.specs.Needs.{needed}
use Rattle.defer_walk.specs.Standing.{VisitOf, fold_in}
use Rattle.rank_set.specs.declared.found.Effort.{Effort}

-- how many pairs of a body of the rank and a cell are opened
abbrev pub opened_of_rank : (BodyValue → CellValue → Bool) → World → ℕ → ℕ
opened_of_rank opens w q = sum_by (λ b. length (opened (opens b) w.leaf w.bodies)) (piece w q)

-- its number, how many bodies it has, how many pairs it opens, and how many cells of other ranks it needs
abbrev pub effort_of : (BodyValue → CellValue → Bool) → World → ℕ → Effort
effort_of opens w q = record { rank = q; bodies = length (piece w q); opened = opened_of_rank opens w q; asks = length (needed opens w q) }

-- the bodies of the first n ranks, in order
unfoldable pub bodies_below : World → ℕ → List BodyValue
bodies_below w zero = []
bodies_below w (suc n) = bodies_below w n ++ piece w n

-- some body of the list opens the cell
abbrev pub IsOpenedBy : (BodyValue → CellValue → Bool) → World → List BodyValue → ℕ → Type 0
IsOpenedBy opens w bodies k = (b : BodyValue) × Contains bodies b × Contains (opened (opens b) w.leaf w.bodies) k

-- what these bodies and ranks find: the fold of each body, what each rank does, and the cells that some body opens
pub record AreFinds {A : Type 0} (v : VisitOf A) (w : World) (bodies : List BodyValue) (ranks : List ℕ) (accs : List A) (efforts : List Effort) (opened : List ℕ) : Type 0 where
  pub accs_are : accs ≡ map (fold_in v w) bodies
  pub efforts_are : efforts ≡ map (effort_of v.opens w) ranks
  pub opened_are : (k : ℕ) → Contains opened k ↔ IsOpenedBy v.opens w bodies k

-- what the first n ranks find
abbrev pub AreFindsTo : {A : Type 0} → VisitOf A → World → ℕ → List A → List Effort → List ℕ → Type 0
AreFindsTo v w n accs efforts opened = AreFinds v w (bodies_below w n) (numbers_below n) accs efforts opened

-- what all ranks find
abbrev pub AreFindsIn : {A : Type 0} → VisitOf A → World → List A → List Effort → List ℕ → Type 0
AreFindsIn v w accs efforts opened = AreFinds v w w.bodies (numbers_below w.ranks) accs efforts opened
