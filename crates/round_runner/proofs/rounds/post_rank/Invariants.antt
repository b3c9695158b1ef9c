use Rattle.std.proofs.Common.{◌≡◌, ◌≢◌, ℕ, ◌<◌, slice_get, length}
use Rattle.rank_model.specs.World.{World}
use Rattle.protocol.specs.Joint.{AllWorked}
use Rattle.rank_core.specs.Standing.{StandsIn}
use Rattle.protocol.specs.Ranks.{seats}
use Rattle.round_runner.specs.Running.{numbers, Running, Frame, outbox_len}
use Rattle.round_runner.proofs.rounds.post_rank.Given as goal

-- in each world in which the ranks ran they run, and all but q are as they were
abbrev pub invariant-loop-letter : goal.invariant-loop-letter
invariant-loop-letter g l = record {
  within : l.q < length l.ranks;
  kept : (v : _) (w : World) → Running g.V.Visit.opens_by (StandsIn g.V.Visit g.V.Acc.Seen) v w l.initial.ranks (g.M.Wire.desk l.initial.wire) 1 → Running g.V.Visit.opens_by (StandsIn g.V.Visit g.V.Acc.Seen) v w l.ranks (g.M.Wire.desk l.wire) 1;
  worked : AllWorked (seats l.initial.ranks) → AllWorked (seats l.ranks);
  others : (p : ℕ) → p ≢ l.q → slice_get l.ranks p ≡ slice_get l.initial.ranks p;
  places : numbers l.ranks ≡ numbers l.initial.ranks;
  frame : Frame l.initial.ranks (g.M.Wire.desk l.initial.wire) l.ranks (g.M.Wire.desk l.wire);
  turn : (g.M.Wire.desk l.wire).turn ≡ (g.M.Wire.desk l.initial.wire).turn;
}

-- how many letters stand in the outbox of rank q
abbrev pub decreases-loop-letter : goal.decreases-loop-letter
decreases-loop-letter g l = outbox_len (seats l.ranks) l.q
