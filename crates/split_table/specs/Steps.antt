-- What the steps to a table stand on.
use Rattle.std.specs.Prelude.{ℕ, ◌≡◌, ◌≤◌, List}
use Rattle.std.specs.List.Sorted.{IsPermutation, IsNonDecreasingBy}
use Rattle.hot_units.specs.Limits.{max_ranks}
use Rattle.hot_units.specs.Values.{CellValue}
use Rattle.rank_model.specs.World.{World, IsGood}
use Rattle.key_order.specs.Ordered.{OrderedValue}
use Rattle.work_split.specs.Values.{PiecesValue}
use Rattle.work_split.specs.Splits.{ranks_of, pieces_of}
use Rattle.branch_merge.specs.declared.listed.Listed.{Listed}
use Rattle.branch_merge.specs.Laws.{branch_lists}

-- the pieces of a set that is split over 1 to 64 ranks
pub record IsSplit (set : OrderedValue) (ranks : ℕ) (pieces : PiecesValue) : Type 0 where
  pub one : 1 ≤ ranks
  pub many : ranks ≤ max_ranks
  pub ranks_are : ranks_of pieces ≡ ranks
  pub pieces_are : pieces ≡ pieces_of set ranks

-- the branch lists of the ranks of a good world
pub record AreLists (w : World) (lists : List (List CellValue)) : Type 0 where
  pub good : IsGood w
  pub many : w.ranks ≤ max_ranks
  pub lists_are : lists ≡ branch_lists w

-- the same records, by ascending key
pub record AreByKey (old new : List Listed) : Type 0 where
  pub same : IsPermutation old new
  pub rising : IsNonDecreasingBy (λ x. x.rec.key) new
