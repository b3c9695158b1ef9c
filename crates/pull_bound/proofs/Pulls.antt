-- One pull against the exact one.
use Rattle.std.proofs.Common.{ℕ, ◌≡◌, ◌+◌, ◌*◌, ◌/◌, ◌^◌, ◌<◌, ◌≤◌, ◌↔◌, Bool, leb, cond, true, false, ℤ, pos, neg_ℤ, nat_abs, inl, inr, refl, sym, subst, ap, arith, ◌∙◌}
use Rattle.std.proofs.lemmas.Bool.{cases_lt, le-leb, lt-leb}
use Rattle.std.proofs.lemmas.Int.{ints}
use Rattle.std.proofs.lemmas.Nat.{mul-le}
use Rattle.std.proofs.Math.Nat.{lt-div-mul-add, div-mul-le_self, zero-div, div-zero, div-eq_of_lt}
use Rattle.hot_units.specs.Values.{Point}
use Rattle.hot_units.specs.declared.cube.Axis.{Axis}
use Rattle.hot_units.specs.declared.cube.Axis.TheVariants as axes
use Rattle.hot_model.specs.Kernel.{soft2, divisor, toward, pull_along, pull, origin}
use Rattle.hot_model.proofs.Roots.{root_is}
use Rattle.hot_model.proofs.Pulls.{root-above, nat_abs-toward}
use Rattle.hot_model.proofs.Ties.{same_vector}
use Rattle.fixed_kernel.specs.Softened.{scaled_root, divisor_of}
use Rattle.pull_bound.specs.Exact.{along, component, Source, source, IsNear, Points}
use Rattle.pull_bound.proofs.Sizes.{quotient-lacks, quotient-exceeds}

-- the size of a component of a pull
abbrev pub size_of : Source → ℕ
size_of s = s.mass * s.gap * 2 ^ 50 / divisor_of s.soft

-- the scaled root of a number above 0
pub root-some : (r : ℕ) → 0 < r → 0 < scaled_root r
root-some r h = omega (arith, root-above r 1 (omega arith))

-- the divisor of a number above 0
pub divisor-some : (r : ℕ) → 0 < r → 0 < divisor_of r
divisor-some r h = omega (arith, mul-le 1 1 r (scaled_root r) h (root-some r h))

none-below : (n by : ℕ) → 0 < by → (n / by ≡ 0) ↔ (n < by)
none-below n by h = (λ e. one e, λ l. no l)
  where
    one : n / by ≡ 0 → n < by
    one e = let t : n < n / by * by + by = lt-div-mul-add h in let u : n < 0 * by + by = rw e at t in omega arith

    no : n < by → n / by ≡ 0
    no l = div-eq_of_lt l

-- a size is near the exact one
pub size-near : (s : Source) → 0 < s.soft → IsNear s (size_of s)
size-near s h =
    let by = divisor_of s.soft in
    let n = s.mass * s.gap * 2 ^ 50 in
    let some : 0 < by = divisor-some s.soft h in
    let over : n < n / by * by + by = lt-div-mul-add some in
    let under : n / by * by ≤ n = div-mul-le_self n by in
    record {
      lacks = quotient-lacks (s.mass * s.gap) s.soft (scaled_root s.soft) (n / by) (omega arith) (root_is (s.soft * 2 ^ 20)).0;
      exceeds = quotient-exceeds (s.mass * s.gap) s.soft (scaled_root s.soft) (n / by) under (root_is (s.soft * 2 ^ 20)).1;
      none = none-below n by some;
    }

-- a component by its size
pub component-is : (eps : ℕ) (p c : Point) (m : ℕ) (a : Axis) → component a (pull eps p c m) ≡ toward (along a p) (along a c) (size_of (source eps a p c m))
unfolding pull pull_along divisor
component-is eps p c m axes.X = refl
component-is eps p c m axes.Y = refl
component-is eps p c m axes.Z = refl

-- each component of a pull is near the exact one
pub pull-near : (eps : ℕ) (p c : Point) (m : ℕ) (a : Axis) → 0 < soft2 eps p c → IsNear (source eps a p c m) (nat_abs (component a (pull eps p c m)))
pull-near eps p c m a h =
    let n = size_of (source eps a p c m) in
    let e : nat_abs (component a (pull eps p c m)) ≡ n = ap nat_abs (component-is eps p c m a) ∙ nat_abs-toward (along a p) (along a c) n in
    subst (λ (k : ℕ). IsNear (source eps a p c m) k) (sym e) (size-near (source eps a p c m) h)

-- nothing is felt along an axis where both places are alike
pub size-none : (s : Source) → s.gap ≡ 0 → size_of s ≡ 0
size-none s e = let z : s.mass * s.gap * 2 ^ 50 ≡ 0 = rw e (omega arith) in rw z (zero-div (divisor_of s.soft))

toward-points : (p c n : ℕ) → (p ≡ c → n ≡ 0) → Points p c (toward p c n)
toward-points p c n h =
    elim (cases_lt c p) [
      | inl less ↦ let t : leb p c ≡ false = lt-leb p c less in rw t (record { up = λ k. absurd (omega arith); down = λ k. omega (arith, ints) })
      | inr more ↦ let t : leb p c ≡ true = le-leb p c more in rw t (record { up = λ k. omega (arith, ints); down = λ k. (let e : n ≡ 0 = h (omega arith) in omega (arith, ints, e)) })
    ]

-- each component points to the mass
pub pull-points : (eps : ℕ) (p c : Point) (m : ℕ) (a : Axis) → Points (along a p) (along a c) (component a (pull eps p c m))
pull-points eps p c m a =
    let s = source eps a p c m in
    subst (λ (z : ℤ). Points (along a p) (along a c) z) (sym (component-is eps p c m a)) (toward-points (along a p) (along a c) (size_of s) (λ e. size-none s (omega (arith, e))))

at-rest : (p c by : ℕ) (m : ℕ) → by ≡ 0 → toward p c (m / by) ≡ pos 0
at-rest p c by m e =
    let z : m / by ≡ 0 = rw (e, div-zero m) refl in
    rw z (no-size p c)
  where
    no-size : (p c : ℕ) → toward p c 0 ≡ pos 0
    no-size p c = elim (leb p c) as (λ (t : Bool). cond t (pos 0) (neg_ℤ (pos 0)) ≡ pos 0) [ true ↦ refl | false ↦ refl ]

-- unsoftened, a mass at the place itself does not pull
pub pull-vanishes : (eps : ℕ) (p c : Point) (m : ℕ) → soft2 eps p c ≡ 0 → pull eps p c m ≡ origin
unfolding pull pull_along divisor
pull-vanishes eps p c m e =
    let by : soft2 eps p c * scaled_root (soft2 eps p c) ≡ 0 = rw e (omega arith) in
    same_vector _ _ (at-rest p.x c.x _ _ by) (at-rest p.y c.y _ _ by) (at-rest p.z c.z _ _ by)
