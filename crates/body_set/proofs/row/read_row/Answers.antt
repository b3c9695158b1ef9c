use Rattle.std.proofs.Common.{◌≡◌, ◌+◌, true, false, refl, rules, arith, SFits}
use Rattle.std.specs.Int.{w128}
use Rattle.std.specs.Prelude.{nat_abs, nat_lt, nat_le}
use Rattle.std.proofs.lemmas.Bool.{lt-ltb, le-leb, lt-leb}
use Rattle.std.proofs.lemmas.Int.{to_z-of_z}
use Rattle.hot_units.specs.Limits.{max_bodies, max_all_mass}
use Rattle.body_set.proofs.FirstFault.{first_by_tests}
use Rattle.body_set.proofs.row.read_row.Goals as goal

-- where x is the first outside the cube, that is the first fault of the row
pub returns-in_default-clause-answer : goal.returns-in_default-clause-answer
returns-in_default-clause-answer c =
    let few : nat_lt c.args.row max_bodies ≡ true = lt-ltb _ _ c.if-row-ge-MAX_BODIES.false in
    let x0 : SFits w128 c.cube.inside.x0 = search rules in
    let at_x : SFits w128 c.args.raw.now.x = search rules in
    let off_x = rw (to_z-of_z w128 c.cube.inside.x0 x0, to_z-of_z w128 c.args.raw.now.x at_x) at c.in_default.ensures.inside in
    rw (first_by_tests c.args.cube c.args.row c.args.before c.args.raw.now, few, ← c.cube.view_is, off_x) refl

-- where y is the first outside the cube, that is the first fault of the row
pub returns-in_default-fine-clause-answer : goal.returns-in_default-fine-clause-answer
returns-in_default-fine-clause-answer c =
    let few : nat_lt c.args.row max_bodies ≡ true = lt-ltb _ _ c.if-row-ge-MAX_BODIES.false in
    let x0 : SFits w128 c.cube.inside.x0 = search rules in
    let at_x : SFits w128 c.args.raw.now.x = search rules in
    let in_x = rw (to_z-of_z w128 c.cube.inside.x0 x0, to_z-of_z w128 c.args.raw.now.x at_x) at c.in-Some.ensures.inside.0 in
    let y0 : SFits w128 c.cube.inside.y0 = search rules in
    let at_y : SFits w128 c.args.raw.now.y = search rules in
    let off_y = rw (to_z-of_z w128 c.cube.inside.y0 y0, to_z-of_z w128 c.args.raw.now.y at_y) at c.in_default-fine.ensures.inside in
    rw (first_by_tests c.args.cube c.args.row c.args.before c.args.raw.now, few, ← c.cube.view_is, in_x, off_y) refl

-- where only z is outside the cube, that is the first fault of the row
pub returns-in_default-fine-2-clause-answer : goal.returns-in_default-fine-2-clause-answer
returns-in_default-fine-2-clause-answer c =
    let few : nat_lt c.args.row max_bodies ≡ true = lt-ltb _ _ c.if-row-ge-MAX_BODIES.false in
    let x0 : SFits w128 c.cube.inside.x0 = search rules in
    let at_x : SFits w128 c.args.raw.now.x = search rules in
    let in_x = rw (to_z-of_z w128 c.cube.inside.x0 x0, to_z-of_z w128 c.args.raw.now.x at_x) at c.in-Some.ensures.inside.0 in
    let y0 : SFits w128 c.cube.inside.y0 = search rules in
    let at_y : SFits w128 c.args.raw.now.y = search rules in
    let in_y = rw (to_z-of_z w128 c.cube.inside.y0 y0, to_z-of_z w128 c.args.raw.now.y at_y) at c.in-Some-fine.ensures.inside.0 in
    let z0 : SFits w128 c.cube.inside.z0 = search rules in
    let at_z : SFits w128 c.args.raw.now.z = search rules in
    let off_z = rw (to_z-of_z w128 c.cube.inside.z0 z0, to_z-of_z w128 c.args.raw.now.z at_z) at c.in_default-fine-2.ensures.inside in
    rw (first_by_tests c.args.cube c.args.row c.args.before c.args.raw.now, few, ← c.cube.view_is, in_x, in_y, off_z) refl

-- a bad mass at a good place is the first fault of the row
pub returns-in_default-in_range-clause-answer : goal.returns-in_default-in_range-clause-answer
returns-in_default-in_range-clause-answer c =
    let few : nat_lt c.args.row max_bodies ≡ true = lt-ltb _ _ c.if-row-ge-MAX_BODIES.false in
    let x0 : SFits w128 c.cube.inside.x0 = search rules in
    let at_x : SFits w128 c.args.raw.now.x = search rules in
    let in_x = rw (to_z-of_z w128 c.cube.inside.x0 x0, to_z-of_z w128 c.args.raw.now.x at_x) at c.in-Some.ensures.inside.0 in
    let y0 : SFits w128 c.cube.inside.y0 = search rules in
    let at_y : SFits w128 c.args.raw.now.y = search rules in
    let in_y = rw (to_z-of_z w128 c.cube.inside.y0 y0, to_z-of_z w128 c.args.raw.now.y at_y) at c.in-Some-fine.ensures.inside.0 in
    let z0 : SFits w128 c.cube.inside.z0 = search rules in
    let at_z : SFits w128 c.args.raw.now.z = search rules in
    let in_z = rw (to_z-of_z w128 c.cube.inside.z0 z0, to_z-of_z w128 c.args.raw.now.z at_z) at c.in-Some-fine-2.ensures.inside.0 in
    let at_mass : SFits w128 c.args.raw.now.mass = search rules in
    let off_mass = rw (to_z-of_z w128 c.args.raw.now.mass at_mass) at c.in_default-in_range.ensures.between in
    rw (first_by_tests c.args.cube c.args.row c.args.before c.args.raw.now, few, ← c.cube.view_is, in_x, in_y, in_z, off_mass) refl

-- a bad work weight alone is the first fault of the row
pub returns-in_default-in_range-2-clause-answer : goal.returns-in_default-in_range-2-clause-answer
returns-in_default-in_range-2-clause-answer c =
    let few : nat_lt c.args.row max_bodies ≡ true = lt-ltb _ _ c.if-row-ge-MAX_BODIES.false in
    let x0 : SFits w128 c.cube.inside.x0 = search rules in
    let at_x : SFits w128 c.args.raw.now.x = search rules in
    let in_x = rw (to_z-of_z w128 c.cube.inside.x0 x0, to_z-of_z w128 c.args.raw.now.x at_x) at c.in-Some.ensures.inside.0 in
    let y0 : SFits w128 c.cube.inside.y0 = search rules in
    let at_y : SFits w128 c.args.raw.now.y = search rules in
    let in_y = rw (to_z-of_z w128 c.cube.inside.y0 y0, to_z-of_z w128 c.args.raw.now.y at_y) at c.in-Some-fine.ensures.inside.0 in
    let z0 : SFits w128 c.cube.inside.z0 = search rules in
    let at_z : SFits w128 c.args.raw.now.z = search rules in
    let in_z = rw (to_z-of_z w128 c.cube.inside.z0 z0, to_z-of_z w128 c.args.raw.now.z at_z) at c.in-Some-fine-2.ensures.inside.0 in
    let at_mass : SFits w128 c.args.raw.now.mass = search rules in
    let in_mass = rw (to_z-of_z w128 c.args.raw.now.mass at_mass) at c.in-Some-in_range.ensures.between.0 in
    let at_work : SFits w128 c.args.raw.now.work = search rules in
    let off_work = rw (to_z-of_z w128 c.args.raw.now.work at_work) at c.in_default-in_range-2.ensures.between in
    rw (first_by_tests c.args.cube c.args.row c.args.before c.args.raw.now, few, ← c.cube.view_is, in_x, in_y, in_z, in_mass, off_work) refl

-- too much mass in all, and nothing else, is the first fault of the row
pub returns-then-before-from-gt-MAX_ALL_MASS-clause-answer : goal.returns-then-before-from-gt-MAX_ALL_MASS-clause-answer
returns-then-before-from-gt-MAX_ALL_MASS-clause-answer c =
    let few : nat_lt c.args.row max_bodies ≡ true = lt-ltb _ _ c.if-row-ge-MAX_BODIES.false in
    let x0 : SFits w128 c.cube.inside.x0 = search rules in
    let at_x : SFits w128 c.args.raw.now.x = search rules in
    let in_x = rw (to_z-of_z w128 c.cube.inside.x0 x0, to_z-of_z w128 c.args.raw.now.x at_x) at c.in-Some.ensures.inside.0 in
    let y0 : SFits w128 c.cube.inside.y0 = search rules in
    let at_y : SFits w128 c.args.raw.now.y = search rules in
    let in_y = rw (to_z-of_z w128 c.cube.inside.y0 y0, to_z-of_z w128 c.args.raw.now.y at_y) at c.in-Some-fine.ensures.inside.0 in
    let z0 : SFits w128 c.cube.inside.z0 = search rules in
    let at_z : SFits w128 c.args.raw.now.z = search rules in
    let in_z = rw (to_z-of_z w128 c.cube.inside.z0 z0, to_z-of_z w128 c.args.raw.now.z at_z) at c.in-Some-fine-2.ensures.inside.0 in
    let at_mass : SFits w128 c.args.raw.now.mass = search rules in
    let in_mass = rw (to_z-of_z w128 c.args.raw.now.mass at_mass) at c.in-Some-in_range.ensures.between.0 in
    let is_mass = rw (to_z-of_z w128 c.args.raw.now.mass at_mass) at c.in-Some-in_range.ensures.between.1 in
    let at_work : SFits w128 c.args.raw.now.work = search rules in
    let in_work = rw (to_z-of_z w128 c.args.raw.now.work at_work) at c.in-Some-in_range-2.ensures.between.0 in
    let heavy : nat_le (c.args.before + nat_abs c.args.raw.now.mass) max_all_mass ≡ false = lt-leb _ _ (omega (arith, c.if-before-from-gt-MAX_ALL_MASS.true, c.from.ensures, is_mass)) in
    rw (first_by_tests c.args.cube c.args.row c.args.before c.args.raw.now, few, ← c.cube.view_is, in_x, in_y, in_z, in_mass, in_work, heavy) refl

-- coordinates and mass are within the limits of a body
pub unwrap-body-requires : goal.unwrap-body-requires
unwrap-body-requires c =
    c.body_of.ensures.in_range.1 (c.in-Some.ensures.within, c.in-Some-fine.ensures.within, c.in-Some-fine-2.ensures.within, c.in-Some-in_range.ensures.within.0)

-- where all tests pass there is no fault, and body and weight are those of the row
pub returns-clause-answer : goal.returns-clause-answer
returns-clause-answer c =
    let few : nat_lt c.args.row max_bodies ≡ true = lt-ltb _ _ c.if-row-ge-MAX_BODIES.false in
    let x0 : SFits w128 c.cube.inside.x0 = search rules in
    let at_x : SFits w128 c.args.raw.now.x = search rules in
    let in_x = rw (to_z-of_z w128 c.cube.inside.x0 x0, to_z-of_z w128 c.args.raw.now.x at_x) at c.in-Some.ensures.inside.0 in
    let is_x = rw (to_z-of_z w128 c.cube.inside.x0 x0, to_z-of_z w128 c.args.raw.now.x at_x) at c.in-Some.ensures.inside.1 in
    let y0 : SFits w128 c.cube.inside.y0 = search rules in
    let at_y : SFits w128 c.args.raw.now.y = search rules in
    let in_y = rw (to_z-of_z w128 c.cube.inside.y0 y0, to_z-of_z w128 c.args.raw.now.y at_y) at c.in-Some-fine.ensures.inside.0 in
    let is_y = rw (to_z-of_z w128 c.cube.inside.y0 y0, to_z-of_z w128 c.args.raw.now.y at_y) at c.in-Some-fine.ensures.inside.1 in
    let z0 : SFits w128 c.cube.inside.z0 = search rules in
    let at_z : SFits w128 c.args.raw.now.z = search rules in
    let in_z = rw (to_z-of_z w128 c.cube.inside.z0 z0, to_z-of_z w128 c.args.raw.now.z at_z) at c.in-Some-fine-2.ensures.inside.0 in
    let is_z = rw (to_z-of_z w128 c.cube.inside.z0 z0, to_z-of_z w128 c.args.raw.now.z at_z) at c.in-Some-fine-2.ensures.inside.1 in
    let at_mass : SFits w128 c.args.raw.now.mass = search rules in
    let in_mass = rw (to_z-of_z w128 c.args.raw.now.mass at_mass) at c.in-Some-in_range.ensures.between.0 in
    let is_mass = rw (to_z-of_z w128 c.args.raw.now.mass at_mass) at c.in-Some-in_range.ensures.between.1 in
    let at_work : SFits w128 c.args.raw.now.work = search rules in
    let in_work = rw (to_z-of_z w128 c.args.raw.now.work at_work) at c.in-Some-in_range-2.ensures.between.0 in
    let is_work = rw (to_z-of_z w128 c.args.raw.now.work at_work) at c.in-Some-in_range-2.ensures.between.1 in
    let body = rw c.unwrap-body.ensures at c.body_of.ensures.value in
    let light : nat_le (c.args.before + nat_abs c.args.raw.now.mass) max_all_mass ≡ true = le-leb _ _ (omega (arith, c.if-before-from-gt-MAX_ALL_MASS.false, c.from.ensures, is_mass)) in
    rw (first_by_tests c.args.cube c.args.row c.args.before c.args.raw.now, few, ← c.cube.view_is, in_x, in_y, in_z, in_mass, in_work, light, body, is_x, is_y, is_z, is_mass, is_work) refl
