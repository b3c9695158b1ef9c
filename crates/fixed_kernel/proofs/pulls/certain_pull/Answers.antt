use Rattle.std.proofs.Common.{ℕ, ℤ, ◌≡◌, ◌*◌, ◌^◌, ◌<◌, slice_index, rules, arith}
use mir.Syntax.{w128}
use mir.Val.{SFits, of_z, to_z}
use Rattle.hot_units.proofs.Signed.{stored}
use Rattle.hot_model.specs.Kernel.{root, apart, toward, pull_along}
use Rattle.fixed_kernel.proofs.Fast.{three}
use Rattle.fixed_kernel.proofs.Certain.{same-quotients, component-is, divisor-above}
use Rattle.fixed_kernel.proofs.pulls.certain_pull.Goals as goal

axis : (r : ℤ) (p c n m by : ℕ) → SFits w128 r → r ≡ toward p c n → toward p c n ≡ pull_along p c m by → to_z w128 (of_z w128 r) ≡ pull_along p c m by
axis r p c n m by f e g = stored r (pull_along p c m by) f (rw e g)

pub returns : goal.returns
returns c =
    let of = c.in_ok-of.of in
    let soft = c.args.soft in
    let by = soft * root (soft * 2 ^ 20) in
    let above : 0 < by = divisor-above soft c.requires.above in
    let x : c.from-dx.result ≡ apart (slice_index c.args.p 0) (slice_index c.args.c 0) = omega arith in
    let y : c.from-dy.result ≡ apart (slice_index c.args.p 1) (slice_index c.args.c 1) = omega arith in
    let z : c.from-dz.result ≡ apart (slice_index c.args.p 2) (slice_index c.args.c 2) = omega arith in
    let same = same-quotients (of.low * c.from-dx.result) (of.high * c.from-dx.result) (of.low * c.from-dy.result) (of.high * c.from-dy.result) (of.low * c.from-dz.result) (of.high * c.from-dz.result) of.shift c.if-differ-of-ne0.false in
    let fx : SFits w128 c.toward.result = search rules in
    let fy : SFits w128 c.toward-2.result = search rules in
    let fz : SFits w128 c.toward-3.result = search rules in
    three
    (axis _ _ _ _ _ _ fx c.toward.ensures (component-is _ _ of.low of.high of.shift c.args.mass by c.from-dx.result above c.in_ok-of.ensures x same.0))
    (axis _ _ _ _ _ _ fy c.toward-2.ensures (component-is _ _ of.low of.high of.shift c.args.mass by c.from-dy.result above c.in_ok-of.ensures y same.1))
    (axis _ _ _ _ _ _ fz c.toward-3.ensures (component-is _ _ of.low of.high of.shift c.args.mass by c.from-dz.result above c.in_ok-of.ensures z same.2))
