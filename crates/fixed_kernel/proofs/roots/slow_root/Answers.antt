use Rattle.std.proofs.Common.{◌≡◌, ◌+◌, ◌*◌, ◌/◌, ◌%◌, ◌^◌, ◌<◌, ◌≤◌, arith, refl}
use Rattle.std.proofs.Math.Nat.{pow-le-pow_right}
use Rattle.std.proofs.lemmas.Nat.{one_shl, pow_pos}
use Rattle.hot_model.proofs.Roots.{root_unique, newton-first}
use Rattle.fixed_kernel.proofs.roots.slow_root.Goals as goal

pub returns-then-n-eq0-clause-value : goal.returns-then-n-eq0-clause-value
returns-then-n-eq0-clause-value c = root_unique c.args.n 0 (omega arith) (omega arith)

pub loop-other-init : goal.loop-other-init
loop-other-init c =
    let h = (c.ilog2.result + 2) / 2 in
    let k : c.ilog2.result < 128 = c.ilog2.ensures.bound in
    let e : (1 * 2 ^ h) % 2 ^ 128 ≡ 2 ^ h = one_shl h 128 (omega arith) in
    let first : c.args.n < 2 ^ h * 2 ^ h = newton-first c.args.n c.ilog2.result c.ilog2.ensures.next_power_gt in
    let most : h ≤ 64 = omega arith in
    let two : 0 < 2 = omega arith in
    let small : 2 ^ h ≤ 2 ^ 64 = pow-le-pow_right two most in
    rw e (record { quotient = refl; positive = pow_pos h; within = small; above = omega arith })
