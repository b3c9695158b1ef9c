use Rattle.std.proofs.Common.{◌≤◌, subst, ap, arith}
use Rattle.hot_units.specs.Values.{CellValue}
use Rattle.hot_model.specs.Facts.{IsCellRecord}
use Rattle.fixed_kernel.proofs.Bending.{sum-small}
use Rattle.fixed_kernel.proofs.visit.pull_far.Goals as goal

pub returns-then-second-clause-within : goal.returns-then-second-clause-within
returns-then-second-clause-within c =
    let one : 1 ≤ c.args.eps = omega arith in
    sum-small c.args.eps c.args.eps c.c.inside.mass _ c.centre-at.result c.args.c.now c.pull_softened-by.result c.quad_softened.result c.sum.result one
    (subst (λ (v : CellValue). IsCellRecord v) c.c.view_is c.c.invariant.0) c.requires.not_empty
    (ap (λ (v : CellValue). v.mass) c.c.view_is)
    c.centre-at.ensures.value c.pull_softened-by.ensures.value c.quad_softened.ensures.value c.sum.ensures.value
