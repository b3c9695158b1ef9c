use Rattle.std.proofs.Common.{◌≡◌, ◌-◌, ◌<◌, length, ap, ◌∙◌, arith}
use Rattle.std.proofs.lemmas.Grind.{common_steps}
use Rattle.hot_units.specs.Keys.{key_of_body}
use Rattle.work_split.proofs.Keys.{last-greatest, no-greatest}
use Rattle.work_split.proofs.pieces.greatest_key.Goals as goal

-- an empty list has no greatest key
pub returns-then-is_empty : goal.returns-then-is_empty
returns-then-is_empty c =
    let none : length c.args.bodies.now ≡ 0 = grind (arith, common_steps, c.is_empty.ensures) in
    record { value = no-greatest c.args.bodies.now none }

-- in key order the last key is the greatest
pub returns : goal.returns
returns c =
    let key : c.b.inside.key ≡ key_of_body c.index-bodies-bodies.result = c.b.invariant.5 ∙ ap key_of_body c.b.view_is in
    let some : 0 < length c.args.bodies.now = grind (arith, common_steps, c.is_empty.ensures) in
    record { value = last-greatest c.args.bodies.now (length c.args.bodies.now - 1) c.b.inside.key c.index-bodies-bodies.result c.requires.order (omega arith) c.index-bodies-bodies.is key }
