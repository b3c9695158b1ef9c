use Rattle.std.proofs.Common.{sym}
use Rattle.rank_tests.proofs.Rows.{left_none, left_first, left_second, left_third}
use Rattle.rank_tests.proofs.row.left.Goals as goal

pub returns-then-q-eq0 : goal.returns-then-q-eq0
returns-then-q-eq0 c = record { value = sym (left_none c.args.q c.if-q-eq0.true) }

pub returns-then-q-le21 : goal.returns-then-q-le21
returns-then-q-le21 c = record { value = sym (left_first c.args.q c.if-q-eq0.false c.if-q-le21.true) }

pub returns-then-q-le42 : goal.returns-then-q-le42
returns-then-q-le42 c = record { value = sym (left_second c.args.q c.if-q-le21.false c.if-q-le42.true) }

pub returns : goal.returns
returns c = record { value = sym (left_third c.args.q c.if-q-le42.false) }
