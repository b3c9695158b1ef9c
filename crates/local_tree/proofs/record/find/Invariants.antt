use Rattle.std.proofs.Common.{ℕ, ◌-◌, ◌<◌, ◌≤◌, length, get_or}
use Rattle.hot_units.specs.Values.{CellValue}
use Rattle.local_tree.proofs.record.find.Given as goal

abbrev pub invariant-loop-low : goal.invariant-loop-low
invariant-loop-low l = record {
  under : (k : ℕ) (d : CellValue) → k < l.low → l.key < (get_or l.recs k d).key;
  over : (k : ℕ) (d : CellValue) → l.high ≤ k → k < length l.recs → (get_or l.recs k d).key ≤ l.key;
  ends : l.low ≤ l.high;
  within : l.high ≤ length l.recs;
}

abbrev pub decreases-loop-low : goal.decreases-loop-low
decreases-loop-low l = l.high - l.low
