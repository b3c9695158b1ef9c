-- Quotients by a root, and their bound.
use Rattle.std.proofs.Common.{ℕ, ◌*◌, ◌/◌, ◌^◌, ◌<◌, ◌≤◌, arith}
use Rattle.std.proofs.lemmas.Nat.{mul-le}
use Rattle.std.proofs.Math.Nat.{div-le_of_le-mul}
use Rattle.hot_units.specs.Values.{Point}
use Rattle.hot_model.specs.Kernel.{soft2}
use Rattle.hot_model.proofs.Pulls.{root-above, soft2-above}
use Rattle.fixed_kernel.specs.Softened.{scaled_root}
use Rattle.well_walk.specs.Wells.{depth}

-- a scaled root is at least that of a squared distance of 1
pub root-least : (soft : ℕ) → 0 < soft → 2 ^ 10 ≤ scaled_root soft
root-least soft h = let e : 1024 * 1 ≤ scaled_root soft = root-above soft 1 (omega arith) in omega arith

-- a mass times 2^50 by a root of at least 2^10 is at most the mass times 2^40
pub quotient-small : (m s : ℕ) → 2 ^ 10 ≤ s → m * 2 ^ 50 / s ≤ m * 2 ^ 40
quotient-small m s h =
    let e : m * 2 ^ 40 * 2 ^ 10 ≤ m * 2 ^ 40 * s = mul-le (m * 2 ^ 40) (2 ^ 10) (m * 2 ^ 40) s (omega arith) h in
    div-le_of_le-mul s (omega arith)

-- softened by one fine unit or more, a depth is at most the mass times 2^40
pub depth-small : (eps : ℕ) (p c : Point) (m : ℕ) → 1 ≤ eps → depth eps p c m ≤ m * 2 ^ 40
unfolding depth
depth-small eps p c m h = quotient-small m (scaled_root (soft2 eps p c)) (root-least (soft2 eps p c) (soft2-above eps p c h))
