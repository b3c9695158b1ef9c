use Rattle.std.proofs.Common.{◌+◌, refl, ◌∙◌, arith}
use Rattle.hot_model.specs.Trees.{force}
use Rattle.leap_frog.proofs.Undo.{steps-undo}
use Rattle.leap_frog.proofs.Runs.{far-none, far-step, far-refused, far-end}
use Rattle.leap_frog.proofs.state.State.steps.Goals as goal

pub loop-done-init : goal.loop-done-init
loop-done-init g c = record { kept = refl; far = far-none g.E.ForceEngine.is_ready g.E.ForceEngine.answers (force (g.E.ForceEngine.settings c.args.engine.now)) c.args.self.now c.args.engine.now c.args.link.now c.requires.link_ready }

pub step-requires : goal.step-requires
step-requires g c = record { link_ready = c.loop-done.invariant.far.ready }

pub returns-in-Err-clause-settings_kept : goal.returns-in-Err-clause-settings_kept
returns-in-Err-clause-settings_kept g c = c.step.ensures.settings_kept ∙ c.loop-done.invariant.kept

pub returns-clause-settings_kept : goal.returns-clause-settings_kept
returns-clause-settings_kept g c = c.loop-done.invariant.kept

pub loop-done-preserved : goal.loop-done-preserved
loop-done-preserved g c = record {
  kept = c.step.ensures.settings_kept ∙ c.loop-done.invariant.kept;
  far = far-step g.E.ForceEngine.is_ready g.E.ForceEngine.answers (g.E.ForceEngine.settings c.args.engine.now) (g.E.ForceEngine.settings c.loop-done.engine) c.loop-done.done c.args.self.now c.loop-done.self c.step.new.self c.args.engine.now c.args.link.now c.loop-done.engine c.loop-done.link c.step.new.engine c.step.new.link c.loop-done.invariant.kept c.loop-done.invariant.far c.in-Ok.ensures.step c.in-Ok.ensures.calls;
}

pub returns-in-Err-clause-steps : goal.returns-in-Err-clause-steps
returns-in-Err-clause-steps g c = rw c.at_step.ensures ((far-refused (record { is_ready = g.E.ForceEngine.is_ready; answers = g.E.ForceEngine.answers; refuses = g.E.ForceEngine.refuses }) (g.E.ForceEngine.settings c.args.engine.now) (g.E.ForceEngine.settings c.loop-done.engine) c.loop-done.done c.args.count (c.loop-done.done + 1) c.args.self.now c.loop-done.self c.step.new.self c.in-Err.refused c.args.engine.now c.args.link.now c.loop-done.engine c.loop-done.link c.step.new.engine c.step.new.link (omega arith) c.loop-done.invariant.kept c.loop-done-test.true c.loop-done.invariant.far c.in-Err.ensures.step c.in-Err.ensures.calls).answer)

pub returns-in-Err-clause-calls : goal.returns-in-Err-clause-calls
returns-in-Err-clause-calls g c = rw c.at_step.ensures ((far-refused (record { is_ready = g.E.ForceEngine.is_ready; answers = g.E.ForceEngine.answers; refuses = g.E.ForceEngine.refuses }) (g.E.ForceEngine.settings c.args.engine.now) (g.E.ForceEngine.settings c.loop-done.engine) c.loop-done.done c.args.count (c.loop-done.done + 1) c.args.self.now c.loop-done.self c.step.new.self c.in-Err.refused c.args.engine.now c.args.link.now c.loop-done.engine c.loop-done.link c.step.new.engine c.step.new.link (omega arith) c.loop-done.invariant.kept c.loop-done-test.true c.loop-done.invariant.far c.in-Err.ensures.step c.in-Err.ensures.calls).leaves)

pub returns-clause-steps : goal.returns-clause-steps
returns-clause-steps g c = (far-end g.E.ForceEngine.is_ready g.E.ForceEngine.answers (force (g.E.ForceEngine.settings c.args.engine.now)) c.loop-done.done c.args.count c.args.self.now c.loop-done.self c.args.engine.now c.args.link.now c.loop-done.engine c.loop-done.link c.loop-done.auto.done-end c.loop-done-test.false c.loop-done.invariant.far).made

pub returns-clause-calls : goal.returns-clause-calls
returns-clause-calls g c =
    let all = far-end g.E.ForceEngine.is_ready g.E.ForceEngine.answers (force (g.E.ForceEngine.settings c.args.engine.now)) c.loop-done.done c.args.count c.args.self.now c.loop-done.self c.args.engine.now c.args.link.now c.loop-done.engine c.loop-done.link c.loop-done.auto.done-end c.loop-done-test.false c.loop-done.invariant.far in
    (all.answered, all.ready)

pub returns-clause-undone : goal.returns-clause-undone
returns-clause-undone g c =
    let all = far-end g.E.ForceEngine.is_ready g.E.ForceEngine.answers (force (g.E.ForceEngine.settings c.args.engine.now)) c.loop-done.done c.args.count c.args.self.now c.loop-done.self c.args.engine.now c.args.link.now c.loop-done.engine c.loop-done.link c.loop-done.auto.done-end c.loop-done-test.false c.loop-done.invariant.far in
    steps-undo (force (g.E.ForceEngine.settings c.args.engine.now)) c.args.count c.args.self.now c.loop-done.self c.facts.ensures.placed all.made
