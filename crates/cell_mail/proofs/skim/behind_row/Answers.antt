use Rattle.std.proofs.Common.{sym, None, ◌∙◌}
use Rattle.std.proofs.lemmas.Result.{err_from_is_err_and}
use Rattle.cell_mail.specs.Skimming.{row_past}
use Rattle.cell_mail.proofs.Skims.{row-goes_on, row-stops, row-ends, row-is_done}
use Rattle.cell_mail.proofs.skim.behind_row.Goals as goal

pub returns-in_err-item : goal.returns-in_err-item
returns-in_err-item g c =
    let p = err_from_is_err_and c.from_residual.result c.from_residual.ensures.1 in
    rw (p.1, p.2) (row-ends (g.T.Row.stands c.args.cell) g.T.Entry.at c.in_err-item.field-0.0 c.args.count c.loop.counter c.loop.last c.loop.rest.now (row_past (g.T.Row.stands c.args.cell) g.T.Entry.at c.args.count None c.args.bytes.now) c.loop-test.true c.in_err-item.ensures c.loop.invariant)

pub returns-then-not-stands : goal.returns-then-not-stands
returns-then-not-stands g c =
    row-stops (g.T.Row.stands c.args.cell) g.T.Entry.at c.args.count c.loop.counter c.loop.last c.loop.rest.now c.in_ok-item.item c.in_ok-item.after.now (row_past (g.T.Row.stands c.args.cell) g.T.Entry.at c.args.count None c.args.bytes.now) c.loop-test.true c.in_ok-item.ensures (sym c.stands.ensures ∙ c.if-not-stands.true) c.loop.invariant

pub loop-preserved : goal.loop-preserved
loop-preserved g c =
    row-goes_on (g.T.Row.stands c.args.cell) g.T.Entry.at c.args.count c.loop.counter c.loop.last c.loop.rest.now c.in_ok-item.item c.in_ok-item.after.now (row_past (g.T.Row.stands c.args.cell) g.T.Entry.at c.args.count None c.args.bytes.now) c.loop-test.true c.in_ok-item.ensures (sym c.stands.ensures ∙ c.if-not-stands.false) c.loop.invariant

pub returns : goal.returns
returns g c = row-is_done (g.T.Row.stands c.args.cell) g.T.Entry.at c.args.count c.loop.counter c.loop.last c.loop.rest.now (row_past (g.T.Row.stands c.args.cell) g.T.Entry.at c.args.count None c.args.bytes.now) c.loop-test.false c.loop.invariant
