-- What the numbers of a report count.
use Rattle.std.specs.Prelude.{ℕ, ◌≤◌, Bool, eqb, count_by, Contains, ◌↔◌, ◌⊎◌}
use Rattle.std.specs.List.Sorted.{IsStrictlyIncreasing}
use Rattle.hot_units.specs.Values.{BodyValue, CellValue}
use Rattle.hot_model.specs.Trees.{opened}
use Rattle.rank_model.specs.World.{World, IsGood}
use Rattle.rank_model.specs.Branches.{IsBranch}
use Rattle.rank_model.specs.Needs.{Needs, needed, met_cells}
use Rattle.rank_set.specs.Efforts.{IsOpenedBy}

-- a body opens no cell twice; the cells that a rank asks for are those that it needs, each once; the cells in play are those
-- that some body opens and the branches, each once
pub record AreCounted (opens : BodyValue → CellValue → Bool) (w : World) : Type 0 where
  pub opened_once : (b : BodyValue) (c : ℕ) → count_by (eqb c) (opened (opens b) w.leaf w.bodies) ≤ 1
  pub asks_once : (q : ℕ) → IsStrictlyIncreasing (needed opens w q)
  pub asks : (q c : ℕ) → Contains (needed opens w q) c ↔ Needs opens w q c
  pub cells_once : IsStrictlyIncreasing (met_cells opens w)
  pub cells : (c : ℕ) → Contains (met_cells opens w) c ↔ (IsOpenedBy opens w w.bodies c ⊎ ((q : ℕ) × IsBranch w q c))

-- this holds in every good world
abbrev pub NumbersAreCounts : Type 0
NumbersAreCounts = (opens : BodyValue → CellValue → Bool) (w : World) → IsGood w → AreCounted opens w
