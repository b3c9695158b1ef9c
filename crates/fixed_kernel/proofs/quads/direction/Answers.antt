use Rattle.std.proofs.Common.{arith}
use Rattle.hot_units.specs.Values.{point_at}
use Rattle.hot_model.proofs.Pulls.{root-below}
use Rattle.hot_model.proofs.Second.{near-x, near-y, near-z}
use Rattle.fixed_kernel.proofs.quads.direction.Goals as goal

pub heading-requires-clause-x_near : goal.heading-requires-clause-x_near
heading-requires-clause-x_near c =
    rw (c.root_by-s.ensures.value, c.from.ensures) (near-x (point_at c.args.p) (point_at c.args.c) c.args.r2 c.requires.beyond)

pub heading-requires-clause-y_near : goal.heading-requires-clause-y_near
heading-requires-clause-y_near c =
    rw (c.root_by-s.ensures.value, c.from.ensures) (near-y (point_at c.args.p) (point_at c.args.c) c.args.r2 c.requires.beyond)

pub heading-requires-clause-z_near : goal.heading-requires-clause-z_near
heading-requires-clause-z_near c =
    rw (c.root_by-s.ensures.value, c.from.ensures) (near-z (point_at c.args.p) (point_at c.args.c) c.args.r2 c.requires.beyond)

pub heading-requires-clause-within : goal.heading-requires-clause-within
heading-requires-clause-within c =
    rw (c.root_by-s.ensures.value, c.from.ensures) (omega (arith, root-below c.args.r2 c.requires.within))
