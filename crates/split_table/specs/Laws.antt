-- What the lists of a table are in the words of branches and top cells.
use Rattle.std.specs.Prelude.{ℕ, ◌≡◌, ◌↔◌, Contains}
use Rattle.std.specs.List.Sorted.{IsStrictlyIncreasing}
use Rattle.rank_model.specs.World.{World, IsGood}
use Rattle.rank_model.specs.Branches.{IsBranch, IsTop, tops as top_cells}
use Rattle.split_table.specs.Table.{branch_cells, branch_of}

-- the listed branches ascend strictly and are those of all ranks, each with its rank; the listed top cells ascend strictly and are all top cells
pub record AreShown (w : World) : Type 0 where
  pub branches_ascend : IsStrictlyIncreasing (branch_cells w)
  pub branches : (c : ℕ) → Contains (branch_cells w) c ↔ ((q : ℕ) × IsBranch w q c)
  pub ranks : (q c : ℕ) → IsBranch w q c → (branch_of w c).rank ≡ q
  pub tops_ascend : IsStrictlyIncreasing (top_cells w)
  pub tops : (c : ℕ) → Contains (top_cells w) c ↔ IsTop w c

-- this holds in every good world
abbrev pub CellsAreShown : Type 0
CellsAreShown = (w : World) → IsGood w → AreShown w
