-- The laws.
use Rattle.std.specs.Prelude.{ℕ, ◌*◌, ◌≡◌, ◌<◌, ◌≤◌, true, List, Contains, nat_abs}
use Rattle.hot_units.specs.Values.{Point, BodyValue, CellValue, place}
use Rattle.hot_units.specs.Keys.{IsCell, side}
use Rattle.hot_units.specs.declared.cube.Axis.{Axis}
use Rattle.hot_model.specs.Kernel.{square, distance2, soft2, centre, pull, accepts, origin}
use Rattle.hot_model.specs.Trees.{Settings, cell_record, force}
use Rattle.rank_model.specs.World.{World, IsGood, bodies_in}
use Rattle.pull_bound.specs.Exact.{along, component, source, IsNear, Points}
use Rattle.pull_bound.specs.Sums.{side_of, IsNearAlong}

-- each component of a pull is near the exact one
abbrev pub PullsAreNear : Type 0
PullsAreNear = (eps : ℕ) (p c : Point) (m : ℕ) (a : Axis) → 0 < soft2 eps p c → IsNear (source eps a p c m) (nat_abs (component a (pull eps p c m)))

-- and points to the mass
abbrev pub PullsPoint : Type 0
PullsPoint = (eps : ℕ) (p c : Point) (m : ℕ) (a : Axis) → Points (along a p) (along a c) (component a (pull eps p c m))

-- a mass at the place itself, unsoftened, does not pull
abbrev pub PullsVanish : Type 0
PullsVanish = (eps : ℕ) (p c : Point) (m : ℕ) → soft2 eps p c ≡ 0 → pull eps p c m ≡ origin

-- at ratio 0 each component of a force is near the exact sum over all bodies
abbrev pub ForcesAreNear : Type 0
ForcesAreNear =
    (s : Settings) (bodies : List BodyValue) (b : BodyValue) (a : Axis)
    → s.num ≡ 0
    → 1 ≤ s.eps
    → IsNearAlong s.eps a bodies b (component a (force s bodies b))

-- all shares together are at most the sizes over 1,024 times the softening
abbrev pub SharesAreSmall : Type 0
SharesAreSmall =
    (eps : ℕ) (a : Axis) (b : BodyValue) (least most : BodyValue → ℕ) (bodies : List BodyValue)
    → 1024 * eps * (side_of eps a b least most bodies).share ≤ (side_of eps a b least most bodies).most

-- the centre of a cell is off a body of it by less than the diagonal of the cell, and less than the ratio, times the root
-- of 3, of its distance from b
pub record IsNearCentre (num den : ℕ) (b o : BodyValue) (c : CellValue) : Type 0 where
  pub diagonal : distance2 (place o) (centre c) < 3 * square (side c.key)
  pub distance : distance2 (place o) (centre c) * square den < 3 * square num * distance2 (place b) (centre c)

-- it is so of each body of a cell that is taken whole
abbrev pub CellsAreNear : Type 0
CellsAreNear =
    (num den : ℕ) (w : World) (b o : BodyValue) (c : ℕ)
    → IsGood w
    → IsCell c
    → Contains (bodies_in w c) o
    → accepts num den b (cell_record w.bodies c) ≡ true
    → IsNearCentre num den b o (cell_record w.bodies c)
