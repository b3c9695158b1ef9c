use Rattle.std.proofs.Common.{◌≡◌}
use Rattle.wire.specs.declared.wire.Turn.TheVariants as turns
use Rattle.rank_tests.proofs.wires.senders_of.Given as goal

-- the turn is free between two rounds
abbrev pub invariant-loop : goal.invariant-loop
invariant-loop g l = l.wire.turn ≡ turns.Free
