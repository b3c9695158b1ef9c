use Rattle.std.proofs.Common.{◌-◌}
use Rattle.near_walk.proofs.Picks.{IsAround}
use Rattle.near_walk.proofs.acc.pick.Given as goal

abbrev pub invariant-loop-low : goal.invariant-loop-low
invariant-loop-low l = IsAround l.rows l.i l.low l.high

abbrev pub decreases-loop-low : goal.decreases-loop-low
decreases-loop-low l = l.high - l.low
