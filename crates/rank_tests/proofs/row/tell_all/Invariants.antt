use Rattle.rank_tests.specs.Worlds.{HasBegun, three}
use Rattle.rank_core.specs.Seats.{seat_of}
use Rattle.rank_core.specs.Standing.{StandsIn}
use Rattle.rank_tests.proofs.row.tell_all.Given as goal

abbrev pub invariant-loop-to : goal.invariant-loop-to
invariant-loop-to g l = record {
  stands : StandsIn g.V.Visit g.V.Acc.Seen three l.rank;
  begun : HasBegun l.me (seat_of l.rank);
}
