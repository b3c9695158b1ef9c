-- The laws of the visit of neighbours.
use Rattle.std.specs.Prelude.{ℕ, ◌≡◌, ◌≢◌, ◌≤◌, ◌<◌, ◌↔◌, true, false, List, All, Contains}
use Rattle.std.specs.List.Sorted.{IsStrictlyIncreasing}
use Rattle.hot_units.specs.Values.{BodyValue, CellValue, place}
use Rattle.hot_units.specs.Keys.{IsCell, contains}
use Rattle.hot_units.specs.Bodies.{IsBody, mass_of, RowsDiffer}
use Rattle.hot_model.specs.Kernel.{square, distance2}
use Rattle.hot_model.specs.Trees.{fold_of}
use Rattle.near_walk.specs.Near.{near_adds, near_nothing, near_opens, near_rows, near_value}

-- each body of a cell that a visit does not open is beyond the radius
abbrev pub NoneUnopened : Type 0
NoneUnopened =
    (radius : ℕ) (b o : BodyValue) (c : CellValue)
    → IsCell c.key
    → IsBody o
    → contains c.key o ≡ true
    → near_opens radius b c ≡ false
    → square radius < distance2 (place b) (place o)

-- the recursive walk ends with the mass of all bodies and the rows of the filter over the whole list
abbrev pub NeighboursByFilter : Type 0
NeighboursByFilter =
    (radius leaf : ℕ) (bodies : List BodyValue) (b : BodyValue)
    → All IsBody bodies
    → fold_of (near_adds radius b) near_nothing (near_opens radius b) leaf bodies ≡ near_value (mass_of bodies) (near_rows radius bodies b)

-- a body of another row and within the radius, which has this row
abbrev pub IsNeighbourOf : ℕ → BodyValue → ℕ → BodyValue → Type 0
IsNeighbourOf radius b row o = (o.row ≡ row) × (o.row ≢ b.row) × (distance2 (place b) (place o) ≤ square radius)

-- where rows differ, the rows of the neighbours ascend, each below the next, and are exactly those of the bodies of another
-- row within the radius
abbrev pub RowsOfNeighbours : Type 0
RowsOfNeighbours =
    (radius : ℕ) (bodies : List BodyValue) (b : BodyValue)
    → RowsDiffer bodies
    → IsStrictlyIncreasing (near_rows radius bodies b)
    × ((row : ℕ) → Contains (near_rows radius bodies b) row ↔ ((o : BodyValue) × Contains bodies o × IsNeighbourOf radius b row o))
