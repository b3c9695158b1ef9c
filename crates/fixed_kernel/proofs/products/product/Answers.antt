use Rattle.std.proofs.Common.{◌*◌, ◌≤◌, ◌^◌, ◌*ℤ◌, nat_abs, arith}
use Rattle.hot_model.proofs.Second.{abs-times}
use Rattle.fixed_kernel.proofs.Signs.{times-stored}
use Rattle.fixed_kernel.proofs.products.product.Goals as goal

pub returns-clause-value : goal.returns-clause-value
returns-clause-value c = times-stored c.args.a c.args.n (2 ^ 84) (2 ^ 20) c.ranges.a c.ranges.n c.requires.a_in c.requires.n_in (omega arith)

pub returns-clause-within : goal.returns-clause-within
returns-clause-within c =
    let e = times-stored c.args.a c.args.n (2 ^ 84) (2 ^ 20) c.ranges.a c.ranges.n c.requires.a_in c.requires.n_in (omega arith) in
    let s : nat_abs (c.args.a *ℤ c.args.n) ≤ 2 ^ 84 * 2 ^ 20 = abs-times c.args.a c.args.n (2 ^ 84) (2 ^ 20) c.requires.a_in c.requires.n_in in
    rw e (omega (arith, s))
