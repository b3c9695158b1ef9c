use Rattle.std.proofs.Common.{ℕ, ◌-◌, ◌<◌, ◌≤◌, length, get_or}
use Rattle.branch_merge.specs.declared.listed.Listed.{Listed}
use Rattle.branch_merge.specs.Merged.{first_of}
use Rattle.branch_merge.proofs.run.count_to.Given as goal

abbrev pub invariant-loop-low : goal.invariant-loop-low
invariant-loop-low l = record {
  under : (k : ℕ) (d : Listed) → k < l.low → first_of (get_or l.listed k d) ≤ l.key;
  over : (k : ℕ) (d : Listed) → l.high ≤ k → k < length l.listed → l.key < first_of (get_or l.listed k d);
  ends : l.low ≤ l.high;
  within : l.high ≤ length l.listed;
}

abbrev pub decreases-loop-low : goal.decreases-loop-low
decreases-loop-low l = l.high - l.low
