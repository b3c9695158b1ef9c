use Rattle.std.proofs.Common.{◌≡◌, arith, ap, sym}
use Rattle.hot_units.specs.Keys.{height}
use Rattle.hot_units.specs.Bodies.{mass_of}
use Rattle.hot_model.proofs.Parts.{inside-root}
use Rattle.hot_model.proofs.Fronts.{root_level}
use Rattle.hot_model.proofs.Heights.{height_is}
use Rattle.plain_engine.proofs.walk.fold_of.Goals as goal

-- the mass of all bodies is within the limit
pub walk-requires-clause-room : goal.walk-requires-clause-room
walk-requires-clause-room g c κs within =
    omega (arith, c.zero-acc.ensures.none, c.requires.light, ap mass_of (inside-root c.args.bodies.now))

-- the answer is the fold of the visit over the bodies
pub returns : goal.returns
returns g c =
    let e : height 1 ≡ 21 = height_is 1 0 (omega arith) root_level in
    let a = c.in_ok-walk.ensures.value in
    record { fold = rw (sym c.zero-acc.ensures.value, sym e) a }
