use Rattle.std.proofs.Common.{◌≡◌, ℕ, ◌+◌, ◌≤◌, ◌∙◌, ◌∷◌, [], ap, nat_abs, refl, rules, arith, length, length-append, None, SFits}
use Rattle.std.specs.Int.{w128}
use Rattle.std.proofs.lemmas.Int.{to_z-of_z}
use Rattle.hot_units.specs.Limits.{max_all_mass}
use Rattle.hot_units.specs.Values.{BodyValue}
use Rattle.hot_units.specs.Bodies.{mass_of}
use Rattle.body_set.specs.Rows.{first_after, body_of_row, weight_of_row}
use Rattle.body_set.proofs.FirstFault.{accepted, few_of_none, light_of_none}
use Rattle.body_set.proofs.Growing.{grown_set, mass_more}
use Rattle.body_set.proofs.set.BodySet.push.Goals as goal

abbrev body_in : BodyValue × ℕ → BodyValue
body_in p = p.0

abbrev weight_in : BodyValue × ℕ → ℕ
weight_in p = p.1

abbrev mass_in : BodyValue → ℕ
mass_in b = b.mass

abbrev row_of : BodyValue → ℕ
row_of b = b.row

-- the set with the row added is a set
pub invariant_of-self-2 : goal.invariant_of-self-2
invariant_of-self-2 c =
    let raw = c.args.raw.now in
    let cube = c.self.inside.cube in
    let row = c.len-row.result in
    let before = c.self.inside.mass in
    let length_is : row ≡ length c.self.inside.bodies.items = search rules in
    let good = accepted (first_after cube row before raw) (c.in_ok-body.body, c.in_ok-body.weight) (body_of_row cube row raw, weight_of_row raw) c.in_ok-body.ensures.answer in
    let body_is : c.in_ok-body.body ≡ body_of_row cube row raw = ap body_in good.1 in
    let row_is : row_of c.in_ok-body.body ≡ row = ap row_of body_is in
    let few = few_of_none cube row before raw good.0 in
    let mass_is : mass_in c.in_ok-body.body ≡ nat_abs raw.mass = ap mass_in body_is in
    let light : mass_of c.self.inside.bodies.items + mass_in c.in_ok-body.body ≤ max_all_mass = omega (arith, light_of_none cube row before raw good.0, mass_is, c.self.invariant.1) in
    let fits : SFits w128 raw.ident = search rules in
    let idents = rw (to_z-of_z w128 raw.ident fits) at c.in_ok-append.ensures.idents in
    rw (c.in_ok-append.ensures.bodies, idents, c.in_ok-append.ensures.weights, c.in_ok-append.ensures.velocities)
    (grown_set c.self.inside.bodies.items c.self.inside.idents.items c.self.inside.weights.items c.in_ok-body.body raw.ident c.in_ok-body.weight c.self.invariant.0 c.in_ok-body.ensures.body (row_is ∙ length_is) (omega (arith, few, length_is)) light, omega (arith, mass_more c.self.inside.bodies.items c.in_ok-body.body, c.self.invariant.1, c.from.ensures, ap mass_in c.body.view_is), omega (arith, length-append c.self.inside.bodies.items (c.in_ok-body.body ∷ []), length-append c.self.inside.velocities (c.of_row.result ∷ []), c.self.invariant.2))

-- a row that was added has no fault
pub returns-clause-first_fault : goal.returns-clause-first_fault
returns-clause-first_fault c =
    let raw = c.args.raw.now in
    let cube = c.self.inside.cube in
    let row = c.len-row.result in
    let before = c.self.inside.mass in
    let length_is : row ≡ length c.self.inside.bodies.items = search rules in
    let good = accepted (first_after cube row before raw) (c.in_ok-body.body, c.in_ok-body.weight) (body_of_row cube row raw, weight_of_row raw) c.in_ok-body.ensures.answer in
    let none : first_after cube row before raw ≡ None = good.0 in
    rw (← c.self.view_is, ← length_is, ← c.self.invariant.1, none) (search rules)

-- the set is the old one with the row added
pub returns-clause-pushed : goal.returns-clause-pushed
returns-clause-pushed c =
    let raw = c.args.raw.now in
    let cube = c.self.inside.cube in
    let row = c.len-row.result in
    let before = c.self.inside.mass in
    let length_is : row ≡ length c.self.inside.bodies.items = search rules in
    let good = accepted (first_after cube row before raw) (c.in_ok-body.body, c.in_ok-body.weight) (body_of_row cube row raw, weight_of_row raw) c.in_ok-body.ensures.answer in
    let body_is : c.in_ok-body.body ≡ body_of_row cube row raw = ap body_in good.1 in
    let weight_is : c.in_ok-body.weight ≡ weight_of_row raw = ap weight_in good.1 in
    let fits : SFits w128 raw.ident = search rules in
    let idents = rw (to_z-of_z w128 raw.ident fits) at c.in_ok-append.ensures.idents in
    rw (← c.self.view_is, ← length_is, c.in_ok-append.ensures.bodies, idents, c.in_ok-append.ensures.weights, c.in_ok-append.ensures.velocities, c.of_row.ensures, body_is, weight_is) refl
