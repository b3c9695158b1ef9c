use Rattle.std.proofs.Common.{sym, ◌∙◌}
use Rattle.sdf_header.proofs.Known.{open_scans, same_closed, told_closed, taken_closed, settled, told_open, taken_open, same_open}
use Rattle.sdf_header.proofs.reader.HeaderReader.feed.Goals as goal

pub scan-taken-requires-clause-scans : goal.scan-taken-requires-clause-scans
scan-taken-requires-clause-scans c =
    open_scans c.self.inside.found _ _ (sym c.is_open.ensures ∙ c.if-not-is_open.false) c.self.invariant.0

pub returns-then-not-is_open-clause-answer : goal.returns-then-not-is_open-clause-answer
returns-then-not-is_open-clause-answer c =
    rw (← c.self.view_is, c.answer_of.ensures) (told_closed c.self.inside.found c.self.inside.kept.items c.args.piece.now c.self.inside.line (sym c.is_open.ensures ∙ c.if-not-is_open.true) c.self.invariant.0)

pub returns-then-not-is_open-clause-taken : goal.returns-then-not-is_open-clause-taken
returns-then-not-is_open-clause-taken c =
    rw (← c.self.view_is, c.answer_of.ensures) (taken_closed c.self.inside.found c.self.inside.kept.items c.args.piece.now (sym c.is_open.ensures ∙ c.if-not-is_open.true))

pub returns-then-not-is_open-clause-settled : goal.returns-then-not-is_open-clause-settled
returns-then-not-is_open-clause-settled c =
    rw (← c.self.view_is, c.answer_of.ensures) (settled c.self.inside.found c.self.inside.kept.items c.self.inside.line 0 c.self.invariant.0)

pub returns-then-not-is_open-clause-same : goal.returns-then-not-is_open-clause-same
returns-then-not-is_open-clause-same c =
    rw (← c.self.view_is) (same_closed c.self.inside.found c.self.inside.kept.items c.args.piece.now c.self.inside.line (sym c.is_open.ensures ∙ c.if-not-is_open.true) c.self.invariant.0)

pub returns-clause-answer : goal.returns-clause-answer
returns-clause-answer c =
    rw (← c.self.view_is, c.answer_of-2.ensures) (told_open c.scan-taken.result.1 c.self.inside.kept.items c.args.piece.now c.scan-taken.new.kept.items c.scan-taken.new.line c.scan-taken.result.0 c.scan-taken.ensures.taken c.scan-taken.ensures.within c.scan-taken.ensures.whole c.scan-taken.ensures.stands)

pub returns-clause-taken : goal.returns-clause-taken
returns-clause-taken c =
    rw (← c.self.view_is, c.answer_of-2.ensures) (taken_open c.scan-taken.result.1 c.self.inside.kept.items c.args.piece.now c.scan-taken.new.kept.items c.scan-taken.result.0 c.scan-taken.ensures.taken c.scan-taken.ensures.whole)

pub returns-clause-settled : goal.returns-clause-settled
returns-clause-settled c =
    rw c.answer_of-2.ensures (settled c.scan-taken.result.1 c.scan-taken.new.kept.items c.scan-taken.new.line c.scan-taken.result.0 c.scan-taken.ensures.stands)

pub returns-clause-same : goal.returns-clause-same
returns-clause-same c =
    rw (← c.self.view_is) (same_open c.scan-taken.result.1 c.self.inside.kept.items c.args.piece.now c.scan-taken.new.kept.items c.scan-taken.new.line c.scan-taken.result.0 c.scan-taken.ensures.taken c.scan-taken.ensures.whole c.scan-taken.ensures.stands)
