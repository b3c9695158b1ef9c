use Rattle.std.proofs.Common.{suc, ◌∙◌, drop, drop-cons, sym, add-one}
use Rattle.cell_mail.specs.Grammar.{bodies_ascend}
use Rattle.cell_mail.proofs.Rows.{drop-end, bodies-stop, bodies-go_on, bodies-end}
use Rattle.cell_mail.proofs.answer.bodies_ascend.Goals as goal

pub returns-then-not-follows : goal.returns-then-not-follows
returns-then-not-follows c =
    bodies-stop c.loop-b.last (drop c.loop-b.b-index c.args.bodies.now) (drop (suc c.loop-b.b-index) c.args.bodies.now) c.b-item.result (bodies_ascend c.args.bodies.now)
    (rw c.b-item.is (drop-cons c.args.bodies.now c.loop-b.b-index _ c.loop-b-test.true)) (sym c.follows.ensures ∙ c.if-not-follows.true) c.loop-b.invariant

pub loop-b-preserved : goal.loop-b-preserved
loop-b-preserved c =
    rw add-one (bodies-go_on c.loop-b.last (drop c.loop-b.b-index c.args.bodies.now) (drop (suc c.loop-b.b-index) c.args.bodies.now) c.b-item.result (bodies_ascend c.args.bodies.now)
    (rw c.b-item.is (drop-cons c.args.bodies.now c.loop-b.b-index _ c.loop-b-test.true)) (sym c.follows.ensures ∙ c.if-not-follows.false) c.loop-b.invariant)

pub returns : goal.returns
returns c = bodies-end c.loop-b.last (drop c.loop-b.b-index c.args.bodies.now) (bodies_ascend c.args.bodies.now) (drop-end c.args.bodies.now c.loop-b.b-index c.loop-b-test.false) c.loop-b.invariant
