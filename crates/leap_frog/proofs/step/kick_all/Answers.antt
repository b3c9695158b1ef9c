use Rattle.std.proofs.Common.{◌+◌, ◌^◌, List, length, map, ap, ◌∙◌, sym, subst}
use Rattle.std.specs.Prelude.{All}
use Rattle.hot_units.specs.Values.{Vector}
use Rattle.leap_frog.specs.States.{sums, force_in, IsWithin, max_force}
use Rattle.leap_frog.proofs.States.{written-back}
use Rattle.leap_frog.proofs.step.kick_all.Goals as goal

pub returns : goal.returns
returns c =
    let olds = c.args.velocities.now.items in
    let at = c.deref_mut.ensures.value in
    let long = c.kick.auto.velocities ∙ ap length at in
    let w = written-back olds c.kick.new.velocities c.args.velocities.now.len long (sym c.deref_mut.ensures.len ∙ ap length at) in
    record {
      value = w ∙ (c.kick.ensures.value ∙ ap (λ (x : List Vector). sums x (map force_in c.args.forces.now)) at);
      long = ap length w ∙ long;
      grown = λ most all.
          let P : List Vector → Type 0 = λ x. All (IsWithin most) x in
          let Q : List Vector → Type 0 = λ x. All (IsWithin (most + max_force)) x in
          subst Q (sym w) (c.kick.ensures.grown most (subst P (sym at) all));
    }
