use Rattle.std.proofs.Common.{◌≡◌, ◌≤◌, length}
use Rattle.wire.specs.Desk.{letters_in, rounds_in}
use Rattle.wire.specs.declared.wire.Turn.TheVariants as turns
use Rattle.rank_tests.proofs.wires.end_round.Given as goal

-- the turn is free, and the log has no more rounds than letters
abbrev pub invariant-loop-wire : goal.invariant-loop-wire
invariant-loop-wire g l =
    ((g.W.Wire.desk l.wire).turn ≡ turns.Free)
    × (rounds_in (g.W.Wire.desk l.wire).log ≤ letters_in (g.W.Wire.desk l.wire).log)

-- how many letters are pending
abbrev pub decreases-loop-wire : goal.decreases-loop-wire
decreases-loop-wire g l = length (g.W.Wire.desk l.wire).pending
