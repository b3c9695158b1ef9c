use Rattle.std.proofs.Common.{ap}
use Rattle.hot_units.specs.Values.{BodyValue, CellValue, place, coordinates}
use Rattle.well_walk.proofs.Terms.{far-depth}
use Rattle.well_walk.proofs.visit.depth_far.Goals as goal

pub returns-clause-value : goal.returns-clause-value
returns-clause-value c =
    far-depth c.args.eps c.c.inside.mass c.depth.result c.args.b.now c.args.c.now _ c.centre.result
    (ap (λ (v : BodyValue). coordinates (place v)) c.b.view_is)
    c.centre.ensures.value
    (ap (λ (v : CellValue). v.mass) c.c.view_is)
    c.depth.ensures.value
