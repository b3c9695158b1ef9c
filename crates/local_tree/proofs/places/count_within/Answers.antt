use Rattle.std.proofs.Common.{◌≡◌, ◌+◌, ◌-◌, ◌/◌, ◌<◌, ◌≤◌, length, sym, ap, ◌∙◌, arith}
use Rattle.hot_units.specs.Keys.{key_of_body}
use Rattle.local_tree.proofs.Searches.{place-low, place-high}
use Rattle.local_tree.proofs.places.count_within.Goals as goal

pub loop-low-preserved-then-b-key : goal.loop-low-preserved-then-b-key
loop-low-preserved-then-b-key c =
    let middle = c.loop-low.low + (c.loop-low.high - c.loop-low.low) / 2 in
    let b = c.index-bodies-middle.result in
    let key : key_of_body b ≡ c.b.inside.key = sym (c.b.invariant.5 ∙ ap key_of_body c.b.view_is) in
    let within : middle < length c.args.bodies.now = omega arith in
    let more : middle + 1 ≤ _ = place-low (c.args.key + 1) middle c.args.bodies.now b c.requires.order within c.index-bodies-middle.is (omega (arith, key)) in
    record { above = omega (arith, more); under = c.loop-low.invariant.under; within = c.loop-low.invariant.within }

pub loop-low-preserved : goal.loop-low-preserved
loop-low-preserved c =
    let middle = c.loop-low.low + (c.loop-low.high - c.loop-low.low) / 2 in
    let b = c.index-bodies-middle.result in
    let key : key_of_body b ≡ c.b.inside.key = sym (c.b.invariant.5 ∙ ap key_of_body c.b.view_is) in
    let within : middle < length c.args.bodies.now = omega arith in
    let less : _ ≤ middle = place-high (c.args.key + 1) middle c.args.bodies.now b c.requires.order within c.index-bodies-middle.is (omega (arith, key)) in
    record { above = c.loop-low.invariant.above; under = less; within = omega (arith, within) }
