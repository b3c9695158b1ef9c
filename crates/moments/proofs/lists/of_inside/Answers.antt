use Rattle.std.proofs.Common.{◌≡◌, true, sym, ◌∙◌}
use Rattle.moments.proofs.Insides.{few-more, light-more, same-covers}
use Rattle.moments.proofs.lists.of_inside.Goals as goal

pub add-requires-clause-contained : goal.add-requires-clause-contained
add-requires-clause-contained c = same-covers c.args.cell c.loop-b.b-index c.args.bodies.now c.b-item.result c.loop-b.rec c.of_body.result c.requires.cell c.loop-b.invariant c.of_body.ensures.value

pub add-requires-clause-few : goal.add-requires-clause-few
add-requires-clause-few c =
    few-more c.args.cell c.args.bodies.now c.loop-b.b-index c.b-item.result c.loop-b.rec c.of_body.result c.requires.few c.loop-b-test.true c.loop-b.invariant c.of_body.ensures.value

pub add-requires-clause-light : goal.add-requires-clause-light
add-requires-clause-light c =
    light-more c.args.cell c.args.bodies.now c.loop-b.b-index c.b-item.result c.loop-b.rec c.of_body.result c.requires.light c.loop-b-test.true c.b-item.is
    (sym c.has.ensures.value ∙ c.if-has.true) c.loop-b.invariant c.of_body.ensures.value
