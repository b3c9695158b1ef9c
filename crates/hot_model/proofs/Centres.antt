-- The lemmas that the coordinates of a centre name.
use Rattle.std.proofs.Common.{ℕ, ◌≡◌, ◌*◌, ◌/◌, ◌-◌, ◌^◌, ◌<◌, ◌≤◌, arith, sym}
use Rattle.std.proofs.Math.Nat.{div-le_of_le-mul, zero-div}

-- a coordinate of a centre is in the cube
pub part-in : (sum mass : ℕ) → sum ≤ mass * (2 ^ 29 - 1) → sum / mass < 2 ^ 29
part-in sum mass h = let d : sum / mass ≤ 2 ^ 29 - 1 = div-le_of_le-mul mass h in omega arith

-- without mass a coordinate of a centre is 0
pub part-none : (sum : ℕ) → sum ≤ 0 * (2 ^ 29 - 1) → 0 ≡ sum / 0
part-none sum h = let e : sum ≡ 0 = omega arith in rw e (sym (zero-div 0))

-- of a coordinate of a centre: with mass and without
pub ruleset on_parts = (part-in, part-none)
