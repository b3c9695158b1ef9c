use Rattle.std.proofs.Common.{ap}
use Rattle.hot_units.specs.Values.{CellValue}
use Rattle.fixed_kernel.specs.Visit.{VisitValue}
use Rattle.fixed_kernel.proofs.Adds.{far_adds}
use Rattle.fixed_kernel.proofs.visit.ForceVisitVisit.far.Goals as goal

pub returns-clause-value : goal.returns-clause-value
returns-clause-value c =
    far_adds c.args.self.now.second c.self.inside.second c.args.self.now.eps c.self.inside.eps c.c.inside.mass c.args.b.now c.args.c.now c.args.acc.now _ _
    (ap (λ (v : VisitValue). v.second) c.self.view_is)
    (ap (λ (v : VisitValue). v.eps) c.self.view_is)
    (ap (λ (v : CellValue). v.mass) c.c.view_is)
    c.pull_far-by.ensures.value c.pulled.ensures.value
