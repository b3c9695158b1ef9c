use Rattle.std.proofs.Common.{◌≡◌, ℕ, ◌<◌}
use Rattle.rank_model.specs.World.{World}
use Rattle.protocol.specs.Joint.{AllWorked}
use Rattle.rank_core.specs.Standing.{StandsIn}
use Rattle.protocol.specs.Ranks.{seats}
use Rattle.round_runner.specs.Running.{numbers, Running, Frame, QuietAt}
use Rattle.round_runner.proofs.rounds.post_all.Given as goal

-- in each world in which the ranks ran they run, and the outboxes below rank q are empty
abbrev pub invariant-loop-q : goal.invariant-loop-q
invariant-loop-q g l = record {
  kept : (v : _) (w : World) → Running g.V.Visit.opens_by (StandsIn g.V.Visit g.V.Acc.Seen) v w l.initial.ranks (g.M.Wire.desk l.initial.wire) 1 → Running g.V.Visit.opens_by (StandsIn g.V.Visit g.V.Acc.Seen) v w l.ranks (g.M.Wire.desk l.wire) 1;
  worked : AllWorked (seats l.initial.ranks) → AllWorked (seats l.ranks);
  quiet : (p : ℕ) → p < l.q → QuietAt (seats l.ranks) p;
  places : numbers l.ranks ≡ numbers l.initial.ranks;
  frame : Frame l.initial.ranks (g.M.Wire.desk l.initial.wire) l.ranks (g.M.Wire.desk l.wire);
  turn : (g.M.Wire.desk l.wire).turn ≡ (g.M.Wire.desk l.initial.wire).turn;
}
