-- Brackets that are one apart.
use Rattle.std.proofs.Common.{ℕ, ◌+◌, ◌*◌, ◌/◌, ◌<◌, ◌≤◌, List, arith}
use Rattle.std.proofs.lemmas.Nat.{mul-le}
use Rattle.std.proofs.Math.Nat.{lt-div-mul-add, div-mul-le_self}
use Rattle.hot_units.specs.Values.{BodyValue, place}
use Rattle.hot_units.specs.declared.cube.Axis.{Axis}
use Rattle.hot_model.specs.Kernel.{square, root, IsRoot}
use Rattle.hot_model.proofs.Roots.{root_is}
use Rattle.hot_model.proofs.Pulls.{soft2-above}
use Rattle.pull_bound.specs.Exact.{Source, exact, IsAtMost, IsAtLeast}
use Rattle.pull_bound.specs.Sums.{felt, Brackets}
use Rattle.pull_bound.specs.Brackets.{rounded}
use Rattle.pull_bound.proofs.Sizes.{cube-above}

below-fraction : (n c g : ℕ) → g * g ≤ n / c → g * g * c ≤ n
below-fraction n c g h = omega (arith, mul-le (g * g) c (n / c) c h (omega arith), div-mul-le_self n c)

above-fraction : (n c g : ℕ) → 0 < c → n / c < (g + 1) * (g + 1) → n ≤ (g + 1) * (g + 1) * c
above-fraction n c g pos h =
    let t : n < n / c * c + c = lt-div-mul-add pos in
    let m : (n / c + 1) * c ≤ (g + 1) * (g + 1) * c = mul-le (n / c + 1) c ((g + 1) * (g + 1)) c (omega arith) (omega arith) in
    omega arith

-- the exact size is from the whole number of units to the next
rounded-below : (q : ℕ) (s : Source) → IsAtMost q s (rounded q s)
rounded-below q s = below-fraction (square q * exact s) (s.soft * s.soft * s.soft) (rounded q s) (root_is (square q * exact s / (s.soft * s.soft * s.soft))).0

rounded-above : (q : ℕ) (s : Source) → 0 < s.soft → IsAtLeast q s (rounded q s + 1)
rounded-above q s h = above-fraction (square q * exact s) (s.soft * s.soft * s.soft) (rounded q s) (cube-above s.soft h) (root_is (square q * exact s / (s.soft * s.soft * s.soft))).1

-- of each body
pub brackets-narrow : (q eps : ℕ) (a : Axis) (b : BodyValue) (bodies : List BodyValue) → 1 ≤ eps → Brackets q eps a b (λ o. rounded q (felt eps a b o)) (λ o. rounded q (felt eps a b o) + 1) bodies
brackets-narrow q eps a b bodies h = record {
  below = λ k d l. rounded-below q _;
  above = λ k d l. rounded-above q _ (soft2-above eps _ _ h);
}
