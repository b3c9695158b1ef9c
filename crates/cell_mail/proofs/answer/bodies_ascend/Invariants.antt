use Rattle.std.proofs.Common.{◌≡◌, drop}
use Rattle.cell_mail.specs.Grammar.{bodies_from, bodies_ascend}
use Rattle.cell_mail.proofs.answer.bodies_ascend.Given as goal

abbrev pub invariant-loop-b : goal.invariant-loop-b
invariant-loop-b l = bodies_from l.last (drop l.b-index l.bodies) ≡ bodies_ascend l.bodies
