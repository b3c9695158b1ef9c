use Rattle.std.proofs.Common.{ℕ, ◌-◌, ◌<◌, ◌≤◌, length, get_or}
use Rattle.branch_merge.specs.declared.top_cell.TopCell.{TopCell}
use Rattle.branch_merge.proofs.find.find.Given as goal

abbrev pub invariant-loop-low : goal.invariant-loop-low
invariant-loop-low l = record {
  under : (k : ℕ) (d : TopCell) → k < l.low → (get_or l.cells k d).rec.key < l.key;
  over : (k : ℕ) (d : TopCell) → l.high ≤ k → k < length l.cells → l.key ≤ (get_or l.cells k d).rec.key;
  ends : l.low ≤ l.high;
  within : l.high ≤ length l.cells;
}

abbrev pub decreases-loop-low : goal.decreases-loop-low
decreases-loop-low l = l.high - l.low
