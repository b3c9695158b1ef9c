use Rattle.std.proofs.Common.{ap, ◌∙◌}
use Rattle.hot_units.specs.Values.{BodyValue, place, coordinates}
use Rattle.fixed_kernel.specs.Visit.{VisitValue}
use Rattle.fixed_kernel.proofs.Adds.{near_adds}
use Rattle.fixed_kernel.proofs.visit.ForceVisitVisit.near.Goals as goal

pub returns-clause-value : goal.returns-clause-value
returns-clause-value c =
    near_adds c.args.self.now.second c.args.self.now.eps c.self.inside.eps c.from-mass.result c.args.b.now c.args.other.now c.args.acc.now _ _ _ _
    (ap (λ (v : VisitValue). v.eps) c.self.view_is)
    (c.from-mass.ensures ∙ ap (λ (v : BodyValue). v.mass) c.other.view_is)
    (ap (λ (v : BodyValue). coordinates (place v)) c.b.view_is)
    (ap (λ (v : BodyValue). coordinates (place v)) c.other.view_is)
    c.pull-by.ensures.value c.pulled.ensures.value
