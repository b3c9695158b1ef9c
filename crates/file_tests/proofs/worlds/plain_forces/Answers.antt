use Rattle.std.proofs.Common.{◌≤◌, sym, subst, arith, List}
use Rattle.hot_units.specs.Limits.{max_all_mass}
use Rattle.hot_units.specs.Values.{BodyValue}
use Rattle.hot_units.specs.Bodies.{mass_of}
use Rattle.work_split.proofs.Cuts.{pieces_make_a_world}
use Rattle.file_tests.proofs.worlds.plain_forces.Goals as goal

-- the bodies of a set have at most the largest mass of all
pub forces-requires-clause-light : goal.forces-requires-clause-light
forces-requires-clause-light g c =
    let light = (pieces_make_a_world c.args.set.now 1 1 c.bodies.ensures.facts (omega arith)).light in
    subst (λ (l : List BodyValue). mass_of l ≤ max_all_mass) (sym c.bodies.ensures.value) light
