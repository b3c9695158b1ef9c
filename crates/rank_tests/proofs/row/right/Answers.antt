use Rattle.std.proofs.Common.{sym}
use Rattle.rank_tests.proofs.Rows.{right_none, right_second, right_third}
use Rattle.rank_tests.proofs.row.right.Goals as goal

pub returns-then-q-lt21 : goal.returns-then-q-lt21
returns-then-q-lt21 c = record { value = sym (right_second c.args.q c.if-q-lt21.true) }

pub returns-then-q-lt42 : goal.returns-then-q-lt42
returns-then-q-lt42 c = record { value = sym (right_third c.args.q c.if-q-lt21.false c.if-q-lt42.true) }

pub returns : goal.returns
returns c = record { value = sym (right_none c.args.q c.if-q-lt42.false) }
