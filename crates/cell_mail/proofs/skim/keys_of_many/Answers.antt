use Rattle.std.proofs.lemmas.Result.{err_from_is_err_and}
use Rattle.cell_mail.specs.Reading.{many}
use Rattle.cell_mail.proofs.Loop.{goes_on, ends, is_done}
use Rattle.cell_mail.proofs.skim.keys_of_many.Goals as goal

pub returns-in_err-key : goal.returns-in_err-key
returns-in_err-key g c =
    let p = err_from_is_err_and c.from_residual-in_err-key.result c.from_residual-in_err-key.ensures.1 in
    rw (p.1, p.2) (ends g.T.Skim.key_at c.in_err-key.field-0.0 c.loop.keys c.args.count c.loop.counter c.loop.rest.now (many g.T.Skim.key_at c.args.count c.args.bytes.now) c.loop-test.true c.in_err-key.ensures c.loop.invariant)

pub loop-preserved : goal.loop-preserved
loop-preserved g c =
    let n = c.in_ok-key.key in
    rw c.in_ok-push.ensures.appended_or_unchanged (goes_on g.T.Skim.key_at c.loop.keys c.args.count c.loop.counter c.loop.rest.now n c.in_ok-key.after.now (many g.T.Skim.key_at c.args.count c.args.bytes.now) c.loop-test.true c.in_ok-key.ensures c.loop.invariant)

pub returns : goal.returns
returns g c = is_done g.T.Skim.key_at c.loop.keys c.args.count c.loop.counter c.loop.rest.now (many g.T.Skim.key_at c.args.count c.args.bytes.now) c.loop-test.false c.loop.invariant
