-- Neighbours of a body: those within a radius, and the cells that may have some.
use Rattle.std.specs.Prelude.{ℕ, ◌+◌, ◌-◌, Bool, eqb, leb, not, ◌&&◌, if◌then◌else◌, List, [], filter, map}
use Rattle.hot_units.specs.Values.{BodyValue, CellValue, Point, place}
use Rattle.hot_units.specs.Keys.{corner, extent}
use Rattle.hot_model.specs.Kernel.{square, distance2}
use Rattle.hot_model.specs.Trees.{Term, Far, Near, mass_of_term}
use Rattle.near_walk.specs.Ascending.{inserted, ascending}

-- how far p is from the numbers k to k + w: k - p below them, p - (k + w) above, and 0 among them
abbrev pub gap_along : ℕ → ℕ → ℕ → ℕ
gap_along p k w = (k - p) + (p - (k + w))

-- the squared distance of a place from the box of a cell: on each axis from the corner to the side less one above it
unfoldable pub box_distance2 : Point → ℕ → ℕ
box_distance2 p c =
    square (gap_along p.x (corner c).x (extent c))
    + square (gap_along p.y (corner c).y (extent c))
    + square (gap_along p.z (corner c).z (extent c))

-- whether a squared distance is at most that of a radius
abbrev pub is_within : ℕ → ℕ → Bool
is_within radius d = leb d (square radius)

-- whether a visit opens a cell for a body: its box comes within the radius
abbrev pub near_opens : ℕ → BodyValue → CellValue → Bool
near_opens radius b c = is_within radius (box_distance2 (place b) c.key)

-- whether a body is a neighbour: it has another row, and is within the radius
abbrev pub is_neighbour : ℕ → BodyValue → BodyValue → Bool
is_neighbour radius b o = not (eqb o.row b.row) && is_within radius (distance2 (place b) (place o))

-- the rows of all neighbours of a body among the bodies of a list, ascending
abbrev pub near_rows : ℕ → List BodyValue → BodyValue → List ℕ
near_rows radius bodies b = ascending (map (λ o. o.row) (filter (is_neighbour radius b) bodies))

-- an accumulator: the mass seen, and the rows of the neighbours so far, ascending
pub record NearValue : Type 0 where
  pub seen : ℕ
  pub rows : List ℕ

-- an accumulator by its parts
abbrev pub near_value : ℕ → List ℕ → NearValue
near_value seen rows = record { seen = seen; rows = rows }

-- the rows after one more term: a body that is a neighbour adds its row, a cell adds none
abbrev pub rows_after : ℕ → BodyValue → List ℕ → Term → List ℕ
rows_after radius b rows (Far c) = rows
rows_after radius b rows (Near o) = if is_neighbour radius b o then inserted o.row rows else rows

-- an accumulator after one more term
abbrev pub near_adds : ℕ → BodyValue → NearValue → Term → NearValue
near_adds radius b a t = near_value (a.seen + mass_of_term t) (rows_after radius b a.rows t)

-- nothing was seen yet
abbrev pub near_nothing : NearValue
near_nothing = near_value 0 []
