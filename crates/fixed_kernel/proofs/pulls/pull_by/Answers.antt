use Rattle.std.proofs.Common.{ℕ, ℤ, ◌≡◌, ◌*◌, ◌/◌, ◌^◌, rules}
use mir.Syntax.{w128}
use mir.Val.{SFits, of_z, to_z}
use Rattle.hot_units.proofs.Signed.{stored}
use Rattle.hot_model.specs.Kernel.{apart, toward, pull_along}
use Rattle.fixed_kernel.proofs.Fast.{three, along-is}
use Rattle.fixed_kernel.proofs.pulls.pull_by.Goals as goal

axis : (r : ℤ) (p c m by q n : ℕ) → SFits w128 r → r ≡ toward p c q → n ≡ m * apart p c * 2 ^ 50 → q ≡ n / by → to_z w128 (of_z w128 r) ≡ pull_along p c m by
axis r p c m by q n f e g h = stored r (pull_along p c m by) f (rw e (along-is p c m by q n g h))

pub returns-then-is_quotient-3 : goal.returns-then-is_quotient-3
returns-then-is_quotient-3 c =
    let fx : SFits w128 c.toward.result = search rules in
    let fy : SFits w128 c.toward-then-is_quotient-3.result = search rules in
    let fz : SFits w128 c.toward-then-is_quotient-3-2.result = search rules in
    let qx : c.args.hints.x ≡ c.dividend.result / c.args.by = search rules in
    let qy : c.args.hints.y ≡ c.dividend-then-is_quotient.result / c.args.by = search rules in
    let qz : c.args.hints.z ≡ c.dividend-then-is_quotient-2.result / c.args.by = search rules in
    three
    (axis _ _ _ _ _ _ _ fx c.toward.ensures c.dividend.ensures.value qx)
    (axis _ _ _ _ _ _ _ fy c.toward-then-is_quotient-3.ensures c.dividend-then-is_quotient.ensures.value qy)
    (axis _ _ _ _ _ _ _ fz c.toward-then-is_quotient-3-2.ensures c.dividend-then-is_quotient-2.ensures.value qz)
