use Rattle.std.proofs.Common.{◌≡◌, length, true}
use Rattle.rank_model.specs.World.{World}
use Rattle.wire.specs.declared.wire.Turn.TheVariants.{Used}
use Rattle.protocol.specs.Logs.{taken_since}
use Rattle.protocol.specs.Joint.{AllQuiet}
use Rattle.rank_core.specs.Standing.{StandsIn}
use Rattle.protocol.specs.Ranks.{seats}
use Rattle.round_runner.specs.Running.{numbers, Running, Frame}
use Rattle.round_runner.proofs.rounds.deliver.Given as goal

-- in each world in which the ranks ran they run, and a letter was taken in this round
abbrev pub invariant-loop-wire : goal.invariant-loop-wire
invariant-loop-wire g l = record {
  kept : (v : _) (w : World) → Running g.V.Visit.opens_by (StandsIn g.V.Visit g.V.Acc.Seen) v w l.fn.ranks (g.M.Wire.desk l.fn.wire) 1 → Running g.V.Visit.opens_by (StandsIn g.V.Visit g.V.Acc.Seen) v w l.ranks (g.M.Wire.desk l.wire) 1;
  quiet : AllQuiet (seats l.fn.ranks) → AllQuiet (seats l.ranks);
  places : numbers l.ranks ≡ numbers l.fn.ranks;
  frame : Frame l.fn.ranks (g.M.Wire.desk l.fn.wire) l.ranks (g.M.Wire.desk l.wire);
  used : (g.M.Wire.desk l.wire).turn ≡ Used;
  taken : taken_since (g.M.Wire.desk l.wire).log ≡ true;
}

-- how many letters are pending
abbrev pub decreases-loop-wire : goal.decreases-loop-wire
decreases-loop-wire g l = length (g.M.Wire.desk l.wire).pending
