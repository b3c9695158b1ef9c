use Rattle.hot_units.specs.Keys.{level}
use Rattle.branch_merge.proofs.Upward.{Climbs}
use Rattle.branch_merge.proofs.above.add_above.Given as goal

abbrev pub invariant-loop-above : goal.invariant-loop-above
invariant-loop-above l = Climbs l.initial.keys.items l.keys.items l.cell l.below

abbrev pub decreases-loop-above : goal.decreases-loop-above
decreases-loop-above l = level l.below
