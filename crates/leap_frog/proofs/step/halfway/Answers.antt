use Rattle.std.proofs.Common.{◌+◌, ◌^◌, List, length, map, ap, ◌∙◌, sym, subst, arith}
use Rattle.std.specs.Prelude.{All}
use Rattle.hot_units.specs.Values.{Vector}
use Rattle.leap_frog.specs.States.{IsWithin, IsDrifted, moving, sums, force_in, max_speed, max_force, max_kicked}
use Rattle.leap_frog.proofs.Steps.{all-within, half-state}
use Rattle.leap_frog.proofs.step.halfway.Goals as goal

pub drift-requires-clause-velocities_too : goal.drift-requires-clause-velocities_too
drift-requires-clause-velocities_too c = ap length c.deref.ensures.value ∙ (c.kick_all.ensures.long ∙ (ap length c.in_ok-kicked.ensures.items ∙ c.requires.state.velocities_too))

pub drift-requires-clause-slow : goal.drift-requires-clause-slow
drift-requires-clause-slow c =
    let P : List Vector → Type 0 = λ x. All (IsWithin max_speed) x in
    let Q : List Vector → Type 0 = λ x. All (IsWithin max_kicked) x in
    let olds = subst P (sym c.in_ok-kicked.ensures.items) c.requires.state.slow in
    subst Q (sym c.deref.ensures.value) (all-within (max_speed + max_force) max_kicked c.kick_all.new.velocities.items (omega arith) (c.kick_all.ensures.grown max_speed olds))

pub returns-in-Ok : goal.returns-in-Ok
returns-in-Ok c =
    let P : List Vector → Type 0 = λ x. IsDrifted (moving c.args.bodies.now x) c.in-Ok.after.items in
    let long = c.kick_all.ensures.long ∙ (ap length c.in_ok-kicked.ensures.items ∙ c.requires.state.velocities_too) in
    let value = c.kick_all.ensures.value ∙ ap (λ (x : List Vector). sums x (map force_in c.args.forces.now)) c.in_ok-kicked.ensures.items in
    record { value = (value, half-state c.args.bodies.now c.in-Ok.after.items c.kick_all.new.velocities.items c.requires.state.sound long (subst P c.deref.ensures.value c.in-Ok.ensures.value)) }
