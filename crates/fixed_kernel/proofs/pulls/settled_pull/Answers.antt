use Rattle.std.proofs.Common.{◌*◌, ◌^◌}
use Rattle.hot_model.specs.Kernel.{root}
use Rattle.fixed_kernel.proofs.Fast.{place-zero}
use Rattle.fixed_kernel.proofs.Certain.{divisor-above}
use Rattle.fixed_kernel.proofs.pulls.settled_pull.Goals as goal

pub returns-then-z-at_z : goal.returns-then-z-at_z
returns-then-z-at_z c =
    let soft = c.args.soft in
    place-zero (soft * root (soft * 2 ^ 20)) c.args.mass (record { x = c.args.x; y = c.args.y; z = c.args.z }) (record { x = c.args.at_x; y = c.args.at_y; z = c.args.at_z })
    (divisor-above soft c.requires.above) c.if-x-at_x.true c.if-y-at_y.true c.if-z-at_z.true
