use Rattle.std.proofs.Common.{take}
use Rattle.hot_units.specs.Keys.{IsCell}
use Rattle.branch_merge.specs.Merged.{AreCells, HasAbove}
use Rattle.branch_merge.proofs.Upward.{HasTops}
use Rattle.branch_merge.proofs.above.keys_above.Given as goal

abbrev pub invariant-loop-x : goal.invariant-loop-x
invariant-loop-x l = record {
  before : IsCell l.before;
  added : HasAbove l.keys.items l.before;
  cells : AreCells (take l.x-index l.listed);
  tops : HasTops (take l.x-index l.listed) l.keys.items;
}
