use Rattle.std.proofs.Common.{sym, ◌∙◌}
use Rattle.rank_tests.proofs.Rows.{piece_first, piece_second, piece_third, piece_none}
use Rattle.rank_tests.proofs.row.bodies_of.Goals as goal

pub returns-then-q-eq0 : goal.returns-then-q-eq0
returns-then-q-eq0 g c = record { value = c.one_body.ensures.value ∙ sym (piece_first c.args.q c.if-q-eq0.true) }

pub returns-then-q-eq21 : goal.returns-then-q-eq21
returns-then-q-eq21 g c = record { value = c.one_body-then-q-eq21.ensures.value ∙ sym (piece_second c.args.q c.if-q-eq21.true) }

pub returns-then-q-eq42 : goal.returns-then-q-eq42
returns-then-q-eq42 g c = record { value = c.one_body-then-q-eq42.ensures.value ∙ sym (piece_third c.args.q c.if-q-eq42.true) }

pub returns : goal.returns
returns g c = record { value = c.new.ensures.items ∙ sym (piece_none c.args.q c.if-q-eq0.false c.if-q-eq21.false c.if-q-eq42.false) }
