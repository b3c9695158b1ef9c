use Rattle.rank_tests.specs.Worlds.{HeardBelow, IsReady, three}
use Rattle.rank_core.specs.Seats.{seat_of}
use Rattle.rank_core.specs.Standing.{StandsIn}
use Rattle.rank_tests.proofs.row.hear_all.Given as goal

abbrev pub invariant-loop-q : goal.invariant-loop-q
invariant-loop-q g l = record {
  stands : StandsIn g.V.Visit g.V.Acc.Seen three l.rank;
  ready : IsReady l.me (seat_of l.rank);
  heard : HeardBelow l.q (seat_of l.rank);
}
