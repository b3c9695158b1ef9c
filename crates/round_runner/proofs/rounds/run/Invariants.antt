use Rattle.std.proofs.Common.{◌≡◌, ◌-◌, length}
use Rattle.rank_model.specs.World.{World}
use Rattle.wire.specs.Desk.{rounds_in}
use Rattle.wire.specs.declared.wire.Turn.TheVariants.{Free}
use Rattle.protocol.specs.Joint.{AllQuiet, IsStart}
use Rattle.rank_core.specs.Standing.{StandsIn}
use Rattle.protocol.specs.Ranks.{seats, Together}
use Rattle.round_runner.specs.Running.{most_rounds, numbers, SameMail, Running}
use Rattle.round_runner.proofs.rounds.run.Given as goal

-- before each round the ranks run, all outboxes are empty, and the rounds are counted
abbrev pub invariant-loop-last : goal.invariant-loop-last
invariant-loop-last g l = record {
  kept : (v : _) (w : World) → Together (StandsIn g.V.Visit g.V.Acc.Seen) v w l.fn.ranks.items → Running g.V.Visit.opens_by (StandsIn g.V.Visit g.V.Acc.Seen) v w l.ranks.items (g.M.Wire.desk l.wire) 0;
  quiet : AllQuiet (seats l.ranks.items);
  start : IsStart (g.M.Wire.desk l.wire).log;
  free : (g.M.Wire.desk l.wire).turn ≡ Free;
  mail : SameMail (g.M.Wire.desk l.fn.wire) (g.M.Wire.desk l.wire);
  rounds : l.rounds ≡ rounds_in (g.M.Wire.desk l.wire).log;
  places : numbers l.ranks.items ≡ numbers l.fn.ranks.items;
  len : length l.ranks.items ≡ length l.fn.ranks.items;
}

-- how many rounds may still come at most
abbrev pub decreases-loop-last : goal.decreases-loop-last
decreases-loop-last g l = most_rounds - rounds_in (g.M.Wire.desk l.wire).log
