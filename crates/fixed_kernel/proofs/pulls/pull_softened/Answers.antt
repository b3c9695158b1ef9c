use Rattle.std.proofs.Common.{◌≤◌, ◌*◌, ◌^◌, refl, arith}
use Rattle.hot_units.specs.Values.{point_at}
use Rattle.hot_model.specs.Kernel.{root}
use Rattle.fixed_kernel.proofs.Fast.{pull-over, pull-small}
use Rattle.fixed_kernel.proofs.pulls.pull_softened.Goals as goal

pub returns-else-mass-soft-clause-within : goal.returns-else-mass-soft-clause-within
returns-else-mass-soft-clause-within c =
    let e : 1 ≤ c.args.eps = omega arith in
    pull-small c.args.eps c.args.mass (point_at c.args.p) (point_at c.args.c) c.pull_at.result e
    (pull-over c.args.eps c.args.soft (c.args.soft * root (c.args.soft * 2 ^ 20)) c.args.mass (point_at c.args.p) (point_at c.args.c) c.pull_at.result c.requires.softened refl c.pull_at.ensures)
