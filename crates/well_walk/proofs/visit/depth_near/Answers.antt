use Rattle.std.proofs.Common.{ap, sym, ◌∙◌}
use Rattle.hot_units.specs.Values.{BodyValue, place, coordinates}
use Rattle.well_walk.proofs.Terms.{near-depth, own-depth}
use Rattle.well_walk.proofs.visit.depth_near.Goals as goal

pub returns-then-other-b-clause-value : goal.returns-then-other-b-clause-value
returns-then-other-b-clause-value c =
    let other = ap (λ (v : BodyValue). v.row) c.other.view_is in
    let own = ap (λ (v : BodyValue). v.row) c.b.view_is in
    near-depth c.args.eps c.from.result c.depth.result c.args.b.now c.args.other.now _ _
    (λ same. c.if-other-b.true (other ∙ same ∙ sym own))
    (ap (λ (v : BodyValue). coordinates (place v)) c.b.view_is)
    (ap (λ (v : BodyValue). coordinates (place v)) c.other.view_is)
    (c.from.ensures ∙ ap (λ (v : BodyValue). v.mass) c.other.view_is)
    c.depth.ensures.value

pub returns-else-other-b-clause-value : goal.returns-else-other-b-clause-value
returns-else-other-b-clause-value c =
    let other = ap (λ (v : BodyValue). v.row) c.other.view_is in
    let own = ap (λ (v : BodyValue). v.row) c.b.view_is in
    own-depth c.args.eps c.args.b.now c.args.other.now (sym other ∙ c.if-other-b.false ∙ own)
