use Rattle.std.proofs.Common.{◌≡◌, ◌^◌, List, ap, sym, subst, ◌∙◌}
use Rattle.hot_units.specs.Values.{BodyValue}
use Rattle.hot_model.specs.Trees.{force}
use Rattle.leap_frog.specs.Leap.{bodies_of}
use Rattle.leap_frog.specs.States.{moving, max_inside}
use Rattle.leap_frog.proofs.States.{bodies-moving}
use Rattle.leap_frog.proofs.Asking.{after-first, first-refused, second-refused, both-answered}
use Rattle.leap_frog.proofs.Steps.{begun-by, left-by, asked-again, forces-length, long-after, made-by, after-is, after-state, none-left, undone-by}
use Rattle.leap_frog.proofs.state.State.step.Goals as goal

pub returns-in-Err-clause-calls : goal.returns-in-Err-clause-calls
returns-in-Err-clause-calls g c =
    let bs = c.self.inside.bodies.items in
    let vs = c.self.inside.velocities.items in
    let own : c.deref.result.now ≡ bodies_of c.args.self.now = c.deref.ensures.value ∙ (sym (bodies-moving bs vs c.self.invariant.velocities_too) ∙ ap bodies_of c.self.view_is) in
    let P : List BodyValue → Type 0 = λ x. g.E.ForceEngine.refuses c.args.engine.now c.args.link.now x c.forces.new.self c.forces.new.link in
    first-refused (record { is_ready = g.E.ForceEngine.is_ready; answers = g.E.ForceEngine.answers; refuses = g.E.ForceEngine.refuses }) (force (g.E.ForceEngine.settings c.args.engine.now)) c.args.self.now c.args.engine.now c.args.link.now c.forces.new.self c.forces.new.link (subst P own c.in-Err.ensures.link_left)

pub returns-in-Err-halfway-clause-step : goal.returns-in-Err-halfway-clause-step
returns-in-Err-halfway-clause-step g c =
    let bs = c.self.inside.bodies.items in
    let vs = c.self.inside.velocities.items in
    left-by (g.E.ForceEngine.settings c.args.engine.now) bs c.deref.result.now c.deref-2.result.now vs c.deref-3.result.now c.in-Ok.forces.items c.deref-4.result.now c.in-Err-halfway.refused c.args.self.now c.self.view_is c.self.invariant c.deref.ensures.value c.deref-2.ensures.value c.deref-3.ensures.value c.deref-4.ensures.value c.in-Ok.ensures.forces c.in-Err-halfway.ensures.value

pub returns-in-Err-halfway-clause-calls : goal.returns-in-Err-halfway-clause-calls
returns-in-Err-halfway-clause-calls g c =
    let bs = c.self.inside.bodies.items in
    let vs = c.self.inside.velocities.items in
    let own : c.deref.result.now ≡ bodies_of c.args.self.now = c.deref.ensures.value ∙ (sym (bodies-moving bs vs c.self.invariant.velocities_too) ∙ ap bodies_of c.self.view_is) in
    let P : List BodyValue → Type 0 = λ x. g.E.ForceEngine.answers c.args.engine.now c.args.link.now x c.forces.new.self c.forces.new.link in
    after-first (record { is_ready = g.E.ForceEngine.is_ready; answers = g.E.ForceEngine.answers; refuses = g.E.ForceEngine.refuses }) (force (g.E.ForceEngine.settings c.args.engine.now)) c.args.self.now c.in-Err-halfway.refused c.args.engine.now c.args.link.now c.forces.new.self c.forces.new.link
    (left-by (g.E.ForceEngine.settings c.args.engine.now) bs c.deref.result.now c.deref-2.result.now vs c.deref-3.result.now c.in-Ok.forces.items c.deref-4.result.now c.in-Err-halfway.refused c.args.self.now c.self.view_is c.self.invariant c.deref.ensures.value c.deref-2.ensures.value c.deref-3.ensures.value c.deref-4.ensures.value c.in-Ok.ensures.forces c.in-Err-halfway.ensures.value)
    (subst P own c.in-Ok.ensures.link_left.0) c.in-Ok.ensures.link_left.1

pub forces-requires-2-clause-rows_differ : goal.forces-requires-2-clause-rows_differ
forces-requires-2-clause-rows_differ g c =
    let bs = c.self.inside.bodies.items in
    let vs = c.self.inside.velocities.items in
    let b = begun-by (g.E.ForceEngine.settings c.args.engine.now) bs c.deref.result.now c.deref-2.result.now c.in-Ok-halfway.lists.0.items vs c.deref-3.result.now c.in-Ok-halfway.lists.1.items c.in-Ok.forces.items c.deref-4.result.now c.self.invariant c.deref.ensures.value c.deref-2.ensures.value c.deref-3.ensures.value c.deref-4.ensures.value c.in-Ok.ensures.forces c.in-Ok-halfway.ensures.value in
    (asked-again bs c.in-Ok-halfway.lists.0.items c.deref-5.result.now vs c.in-Ok-halfway.lists.1.items c.self.invariant b.halfway c.deref-5.ensures.value).rows_differ

pub forces-requires-2-clause-few : goal.forces-requires-2-clause-few
forces-requires-2-clause-few g c =
    let bs = c.self.inside.bodies.items in
    let vs = c.self.inside.velocities.items in
    let b = begun-by (g.E.ForceEngine.settings c.args.engine.now) bs c.deref.result.now c.deref-2.result.now c.in-Ok-halfway.lists.0.items vs c.deref-3.result.now c.in-Ok-halfway.lists.1.items c.in-Ok.forces.items c.deref-4.result.now c.self.invariant c.deref.ensures.value c.deref-2.ensures.value c.deref-3.ensures.value c.deref-4.ensures.value c.in-Ok.ensures.forces c.in-Ok-halfway.ensures.value in
    (asked-again bs c.in-Ok-halfway.lists.0.items c.deref-5.result.now vs c.in-Ok-halfway.lists.1.items c.self.invariant b.halfway c.deref-5.ensures.value).few

pub forces-requires-2-clause-light : goal.forces-requires-2-clause-light
forces-requires-2-clause-light g c =
    let bs = c.self.inside.bodies.items in
    let vs = c.self.inside.velocities.items in
    let b = begun-by (g.E.ForceEngine.settings c.args.engine.now) bs c.deref.result.now c.deref-2.result.now c.in-Ok-halfway.lists.0.items vs c.deref-3.result.now c.in-Ok-halfway.lists.1.items c.in-Ok.forces.items c.deref-4.result.now c.self.invariant c.deref.ensures.value c.deref-2.ensures.value c.deref-3.ensures.value c.deref-4.ensures.value c.in-Ok.ensures.forces c.in-Ok-halfway.ensures.value in
    (asked-again bs c.in-Ok-halfway.lists.0.items c.deref-5.result.now vs c.in-Ok-halfway.lists.1.items c.self.invariant b.halfway c.deref-5.ensures.value).light

pub returns-in-Err-forces-clause-calls : goal.returns-in-Err-forces-clause-calls
returns-in-Err-forces-clause-calls g c =
    let bs = c.self.inside.bodies.items in
    let vs = c.self.inside.velocities.items in
    let own : c.deref.result.now ≡ bodies_of c.args.self.now = c.deref.ensures.value ∙ (sym (bodies-moving bs vs c.self.invariant.velocities_too) ∙ ap bodies_of c.self.view_is) in
    let b = begun-by (g.E.ForceEngine.settings c.args.engine.now) bs c.deref.result.now c.deref-2.result.now c.in-Ok-halfway.lists.0.items vs c.deref-3.result.now c.in-Ok-halfway.lists.1.items c.in-Ok.forces.items c.deref-4.result.now c.self.invariant c.deref.ensures.value c.deref-2.ensures.value c.deref-3.ensures.value c.deref-4.ensures.value c.in-Ok.ensures.forces c.in-Ok-halfway.ensures.value in
    let P : List BodyValue → Type 0 = λ x. g.E.ForceEngine.answers c.args.engine.now c.args.link.now x c.forces.new.self c.forces.new.link in
    let Q : List BodyValue → Type 0 = λ x. g.E.ForceEngine.refuses c.forces.new.self c.forces.new.link x c.forces-2.new.self c.forces-2.new.link in
    let behind = c.deref-5.ensures.value ∙ sym (after-is (g.E.ForceEngine.settings c.args.engine.now) bs c.in-Ok-halfway.lists.0.items vs c.in-Ok-halfway.lists.1.items c.in-Ok.forces.items c.args.self.now c.self.view_is b) in
    let none = none-left (force (g.E.ForceEngine.settings c.args.engine.now)) bs c.in-Ok-halfway.lists.0.items vs c.in-Ok-halfway.lists.1.items c.in-Ok.forces.items c.args.self.now c.self.view_is b in
    second-refused (record { is_ready = g.E.ForceEngine.is_ready; answers = g.E.ForceEngine.answers; refuses = g.E.ForceEngine.refuses }) (force (g.E.ForceEngine.settings c.args.engine.now)) c.args.self.now c.args.engine.now c.args.link.now c.forces.new.self c.forces.new.link c.forces-2.new.self c.forces-2.new.link none (subst P own c.in-Ok.ensures.link_left.0) (subst Q behind c.in-Err-forces.ensures.link_left)

pub kick_all-requires-clause-forces_too : goal.kick_all-requires-clause-forces_too
kick_all-requires-clause-forces_too g c =
    let bs = c.self.inside.bodies.items in
    let vs = c.self.inside.velocities.items in
    let b = begun-by (g.E.ForceEngine.settings c.args.engine.now) bs c.deref.result.now c.deref-2.result.now c.in-Ok-halfway.lists.0.items vs c.deref-3.result.now c.in-Ok-halfway.lists.1.items c.in-Ok.forces.items c.deref-4.result.now c.self.invariant c.deref.ensures.value c.deref-2.ensures.value c.deref-3.ensures.value c.deref-4.ensures.value c.in-Ok.ensures.forces c.in-Ok-halfway.ensures.value in
    forces-length (g.E.ForceEngine.settings c.forces.new.self) c.deref-5.result.now c.in-Ok-halfway.lists.0.items c.in-Ok-forces.forces.items c.deref-6.result.now c.in-Ok-halfway.lists.1.items c.in-Ok-forces.ensures.forces c.deref-5.ensures.value c.deref-6.ensures.value (long-after bs c.in-Ok-halfway.lists.0.items c.in-Ok-halfway.lists.1.items b.halfway)

pub invariant_of-self : goal.invariant_of-self
invariant_of-self g c =
    let bs = c.self.inside.bodies.items in
    let vs = c.self.inside.velocities.items in
    let b = begun-by (g.E.ForceEngine.settings c.args.engine.now) bs c.deref.result.now c.deref-2.result.now c.in-Ok-halfway.lists.0.items vs c.deref-3.result.now c.in-Ok-halfway.lists.1.items c.in-Ok.forces.items c.deref-4.result.now c.self.invariant c.deref.ensures.value c.deref-2.ensures.value c.deref-3.ensures.value c.deref-4.ensures.value c.in-Ok.ensures.forces c.in-Ok-halfway.ensures.value in
    after-state bs c.in-Ok-halfway.lists.0.items vs c.in-Ok-halfway.lists.1.items c.kick_all.new.velocities.items c.self.invariant b.halfway c.kick_all.ensures.long (c.kick_all.ensures.grown max_inside b.halfway.slow)

pub returns-clause-step : goal.returns-clause-step
returns-clause-step g c =
    let bs = c.self.inside.bodies.items in
    let vs = c.self.inside.velocities.items in
    let b = begun-by (g.E.ForceEngine.settings c.args.engine.now) bs c.deref.result.now c.deref-2.result.now c.in-Ok-halfway.lists.0.items vs c.deref-3.result.now c.in-Ok-halfway.lists.1.items c.in-Ok.forces.items c.deref-4.result.now c.self.invariant c.deref.ensures.value c.deref-2.ensures.value c.deref-3.ensures.value c.deref-4.ensures.value c.in-Ok.ensures.forces c.in-Ok-halfway.ensures.value in
    made-by (g.E.ForceEngine.settings c.args.engine.now) (g.E.ForceEngine.settings c.forces.new.self) bs c.deref-5.result.now c.in-Ok-halfway.lists.0.items vs c.in-Ok-halfway.lists.1.items c.kick_all.new.velocities.items c.in-Ok.forces.items c.in-Ok-forces.forces.items c.deref-6.result.now c.args.self.now c.self.view_is b c.in-Ok.ensures.settings_kept c.deref-5.ensures.value c.deref-6.ensures.value c.in-Ok-forces.ensures.forces c.kick_all.ensures.value

pub returns-clause-undone : goal.returns-clause-undone
returns-clause-undone g c =
    let bs = c.self.inside.bodies.items in
    let vs = c.self.inside.velocities.items in
    let b = begun-by (g.E.ForceEngine.settings c.args.engine.now) bs c.deref.result.now c.deref-2.result.now c.in-Ok-halfway.lists.0.items vs c.deref-3.result.now c.in-Ok-halfway.lists.1.items c.in-Ok.forces.items c.deref-4.result.now c.self.invariant c.deref.ensures.value c.deref-2.ensures.value c.deref-3.ensures.value c.deref-4.ensures.value c.in-Ok.ensures.forces c.in-Ok-halfway.ensures.value in
    undone-by (force (g.E.ForceEngine.settings c.args.engine.now)) bs vs c.args.self.now (moving c.in-Ok-halfway.lists.0.items c.kick_all.new.velocities.items) c.self.view_is c.self.invariant
    (made-by (g.E.ForceEngine.settings c.args.engine.now) (g.E.ForceEngine.settings c.forces.new.self) bs c.deref-5.result.now c.in-Ok-halfway.lists.0.items vs c.in-Ok-halfway.lists.1.items c.kick_all.new.velocities.items c.in-Ok.forces.items c.in-Ok-forces.forces.items c.deref-6.result.now c.args.self.now c.self.view_is b c.in-Ok.ensures.settings_kept c.deref-5.ensures.value c.deref-6.ensures.value c.in-Ok-forces.ensures.forces c.kick_all.ensures.value)

pub returns-clause-calls : goal.returns-clause-calls
returns-clause-calls g c =
    let bs = c.self.inside.bodies.items in
    let vs = c.self.inside.velocities.items in
    let own : c.deref.result.now ≡ bodies_of c.args.self.now = c.deref.ensures.value ∙ (sym (bodies-moving bs vs c.self.invariant.velocities_too) ∙ ap bodies_of c.self.view_is) in
    let b = begun-by (g.E.ForceEngine.settings c.args.engine.now) bs c.deref.result.now c.deref-2.result.now c.in-Ok-halfway.lists.0.items vs c.deref-3.result.now c.in-Ok-halfway.lists.1.items c.in-Ok.forces.items c.deref-4.result.now c.self.invariant c.deref.ensures.value c.deref-2.ensures.value c.deref-3.ensures.value c.deref-4.ensures.value c.in-Ok.ensures.forces c.in-Ok-halfway.ensures.value in
    let P : List BodyValue → Type 0 = λ x. g.E.ForceEngine.answers c.args.engine.now c.args.link.now x c.forces.new.self c.forces.new.link in
    let Q : List BodyValue → Type 0 = λ x. g.E.ForceEngine.answers c.forces.new.self c.forces.new.link x c.forces-2.new.self c.forces-2.new.link in
    let behind = c.deref-5.ensures.value ∙ sym (after-is (g.E.ForceEngine.settings c.args.engine.now) bs c.in-Ok-halfway.lists.0.items vs c.in-Ok-halfway.lists.1.items c.in-Ok.forces.items c.args.self.now c.self.view_is b) in
    let none = none-left (force (g.E.ForceEngine.settings c.args.engine.now)) bs c.in-Ok-halfway.lists.0.items vs c.in-Ok-halfway.lists.1.items c.in-Ok.forces.items c.args.self.now c.self.view_is b in
    (both-answered (record { is_ready = g.E.ForceEngine.is_ready; answers = g.E.ForceEngine.answers; refuses = g.E.ForceEngine.refuses }) (force (g.E.ForceEngine.settings c.args.engine.now)) c.args.self.now c.args.engine.now c.args.link.now c.forces.new.self c.forces.new.link c.forces-2.new.self c.forces-2.new.link none (subst P own c.in-Ok.ensures.link_left.0) (subst Q behind c.in-Ok-forces.ensures.link_left.0), c.in-Ok-forces.ensures.link_left.1)
