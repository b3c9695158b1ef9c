use Rattle.std.proofs.Common.{arith, false}
use Rattle.hot_model.specs.Trees.{Settings}
use Rattle.plain_engine.proofs.Answer.{answers-more}
use Rattle.plain_engine.proofs.engine.PlainEngineForceEngine.forces.Goals as goal

-- with one more answer the answers are those for one more body
pub loop-b-preserved : goal.loop-b-preserved
loop-b-preserved c =
    let s : Settings = record { num = c.self.inside.ratio.num; den = c.self.inside.ratio.den; eps = c.self.inside.eps; leaf = c.self.inside.leaf; second = false } in
    answers-more s c.args.self.now c.args.bodies.now c.loop-b.b-index c.b-item.result c.loop-b.answers.items c.push.new.self.items c.in_ok-fold_of.field-0
    c.self.view_is (omega arith) c.b-item.is c.loop-b.invariant (rw c.new-visit.ensures.value at c.in_ok-fold_of.ensures.fold) c.in_ok-push.ensures.items
