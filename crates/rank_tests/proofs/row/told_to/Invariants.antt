use Rattle.std.proofs.Common.{◌≡◌}
use Rattle.rank_tests.specs.Worlds.{three}
use Rattle.rank_core.specs.Seats.{seat_of}
use Rattle.rank_core.specs.Standing.{StandsIn}
use Rattle.rank_tests.proofs.row.told_to.Given as goal

abbrev pub invariant-loop : goal.invariant-loop
invariant-loop g l = record {
  stands : StandsIn g.V.Visit g.V.Acc.Seen three l.rank;
  me : (seat_of l.rank).me ≡ l.q;
}
