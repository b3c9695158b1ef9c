use Rattle.std.proofs.Common.{◌+◌, ◌-◌, ◌≤◌, length}
use Rattle.morton_key.specs.Ranges.{count_below}
use Rattle.local_tree.proofs.places.count_within.Given as goal

abbrev pub invariant-loop-low : goal.invariant-loop-low
invariant-loop-low l = record {
  above : l.low ≤ count_below (l.key + 1) l.bodies;
  under : count_below (l.key + 1) l.bodies ≤ l.high;
  within : l.high ≤ length l.bodies;
}

abbrev pub decreases-loop-low : goal.decreases-loop-low
decreases-loop-low l = l.high - l.low
