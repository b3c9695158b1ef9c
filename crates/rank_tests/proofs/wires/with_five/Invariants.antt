use Rattle.std.proofs.Common.{◌≡◌}
use Rattle.wire.specs.declared.wire.Turn.TheVariants as turns
use Rattle.rank_tests.proofs.wires.with_five.Given as goal

-- the turn is free while the letters are posted
abbrev pub invariant-loop-from : goal.invariant-loop-from
invariant-loop-from g l = l.wire.turn ≡ turns.Free
