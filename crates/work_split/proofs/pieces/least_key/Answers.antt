use Rattle.std.proofs.Common.{◌≡◌, ◌<◌, length, ap, ◌∙◌, arith}
use Rattle.std.proofs.lemmas.Grind.{common_steps}
use Rattle.hot_units.specs.Keys.{key_of_body}
use Rattle.work_split.proofs.Keys.{first-least, no-least}
use Rattle.work_split.proofs.pieces.least_key.Goals as goal

-- an empty list has no least key
pub returns-then-is_empty : goal.returns-then-is_empty
returns-then-is_empty c =
    let none : length c.args.bodies.now ≡ 0 = grind (arith, common_steps, c.is_empty.ensures) in
    record { value = no-least c.args.bodies.now none }

-- in key order the first key is the least
pub returns : goal.returns
returns c =
    let key : c.b.inside.key ≡ key_of_body c.index-bodies-0.result = c.b.invariant.5 ∙ ap key_of_body c.b.view_is in
    let some : 0 < length c.args.bodies.now = grind (arith, common_steps, c.is_empty.ensures) in
    record { value = first-least c.args.bodies.now c.b.inside.key c.index-bodies-0.result c.requires.order some c.index-bodies-0.is key }
