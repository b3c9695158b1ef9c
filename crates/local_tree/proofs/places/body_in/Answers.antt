use Rattle.std.proofs.Common.{◌≡◌, ◌+◌, sym, ap, ◌∙◌, Some, arith}
use Rattle.hot_units.specs.Keys.{key_of_body}
use Rattle.morton_key.specs.Ranges.{last_key}
use Rattle.local_tree.proofs.Searches.{count-le, place-past}
use Rattle.local_tree.proofs.Edges.{body-some, body-none}
use Rattle.local_tree.proofs.places.body_in.Goals as goal

pub returns-then-at-bodies : goal.returns-then-at-bodies
returns-then-at-bodies c =
    let xs = c.args.bodies.now in
    record { value = body-none xs c.args.cell c.start_of.result c.args.i c.requires.order c.requires.cell c.start_of.ensures.value (omega (arith, count-le (last_key c.args.cell + 1) xs, c.if-at-bodies.true)) }

pub returns-then-b-last_key : goal.returns-then-b-last_key
returns-then-b-last_key c =
    let xs = c.args.bodies.now in
    let b = c.index-bodies-at.result in
    let key : key_of_body b ≡ c.b.inside.key = sym (c.b.invariant.5 ∙ ap key_of_body c.b.view_is) in
    record { value = ap Some c.b.view_is ∙ body-some xs c.args.cell c.start_of.result c.args.i b c.requires.order c.requires.cell c.start_of.ensures.value (omega (arith, c.if-at-bodies.false)) c.index-bodies-at.is (omega (arith, key, c.if-b-last_key.true, c.last_key.ensures.value)) }

pub returns-else-b-last_key : goal.returns-else-b-last_key
returns-else-b-last_key c =
    let xs = c.args.bodies.now in
    let b = c.index-bodies-at.result in
    let key : key_of_body b ≡ c.b.inside.key = sym (c.b.invariant.5 ∙ ap key_of_body c.b.view_is) in
    let past = place-past xs c.args.cell (c.start_of.result + c.args.i) b c.requires.order (omega (arith, c.if-at-bodies.false)) c.index-bodies-at.is (omega (arith, key, c.if-b-last_key.false, c.last_key.ensures.value)) in
    record { value = body-none xs c.args.cell c.start_of.result c.args.i c.requires.order c.requires.cell c.start_of.ensures.value past }
