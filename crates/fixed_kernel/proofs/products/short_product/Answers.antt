use Rattle.std.proofs.Common.{◌≡◌, ◌*◌, ◌≤◌, ◌^◌, ◌*ℤ◌, nat_abs, arith, rules}
use Rattle.hot_model.proofs.Second.{abs-times}
use Rattle.fixed_kernel.proofs.Signs.{times-stored}
use Rattle.fixed_kernel.proofs.products.short_product.Goals as goal

pub returns-clause-value : goal.returns-clause-value
returns-clause-value c =
    let d : c.from.result ≡ c.args.a = search rules in
    let e : c.from-2.result ≡ c.args.n = search rules in
    rw (d, e) (times-stored c.args.a c.args.n (2 ^ 62) (2 ^ 20) c.ranges.a c.ranges.n c.requires.a_in c.requires.n_in (omega arith))

pub returns-clause-within : goal.returns-clause-within
returns-clause-within c =
    let e = returns-clause-value c in
    let s : nat_abs (c.args.a *ℤ c.args.n) ≤ 2 ^ 62 * 2 ^ 20 = abs-times c.args.a c.args.n (2 ^ 62) (2 ^ 20) c.requires.a_in c.requires.n_in in
    rw e (omega (arith, s))
