use Rattle.std.proofs.Common.{◌≡◌, ◌+◌, ◌<◌, ◌≤◌, ◌-◌, length, get_or, rules, arith, subst, sym, ap, ◌∙◌}
use Rattle.hot_units.specs.Limits.{max_bodies, max_all_mass}
use Rattle.hot_units.specs.Values.{BodyValue}
use Rattle.hot_units.specs.Keys.{key_of_body}
use Rattle.hot_units.specs.Bodies.{IsBody, mass_of}
use Rattle.defer_walk.specs.Listing.{IsListing}
use Rattle.tree_tests.proofs.Listings.{listing_more, mass_more}
use Rattle.tree_tests.proofs.samples.push_body.Goals as goal

pub returns : goal.returns
returns g c =
    let xs = c.args.bodies.now.items in
    let b : BodyValue = c.expect-body.result in
    let few : length xs < max_bodies = search rules in
    let row : b.row ≡ length xs = search rules in
    let i : IsBody b = subst (λ (z : BodyValue). IsBody z) c.body.view_is (record { x_in = c.body.invariant.0; y_in = c.body.invariant.1; z_in = c.body.invariant.2; weighs = c.body.invariant.3; light = c.body.invariant.4 }) in
    let key : c.last_key.result ≤ key_of_body b = subst (λ (z : BodyValue). c.last_key.result ≤ key_of_body z) c.body.view_is (rw c.body.invariant.5 at (let k : c.last_key.result ≤ c.body.inside.key = search rules in k)) in
    let last = rw c.deref.ensures.value at c.last_key.ensures.value in
    let after : (d : BodyValue) → 0 < length xs → key_of_body (get_or xs (length xs - 1) d) ≤ key_of_body b = (λ d p. let e = last d p in omega (arith, e, key)) in
    let weight : c.from.result ≡ b.mass = c.from.ensures ∙ ap (λ (z : BodyValue). z.mass) c.body.view_is in
    let most : c.args.mass + c.from.result ≤ max_all_mass = search rules in
    let light : mass_of xs + b.mass ≤ max_all_mass = omega (arith, weight, most, c.requires.mass) in
    let items = sym (rw c.expect.ensures at c.push.ensures.items) in
    record {
      listing = subst (λ z. IsListing z) items (listing_more xs b c.requires.listing i few row light after);
      mass = omega (arith, ap mass_of items, mass_more xs b, weight, c.requires.mass);
    }
