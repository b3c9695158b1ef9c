-- Quotients and their exact values, by squares: w is the mass times the distance, r the softened squared distance, s its
-- scaled root, p the quotient, x and c the sides of the equation of the exact size.
use Rattle.std.proofs.Common.{ℕ, ◌+◌, ◌*◌, ◌/◌, ◌^◌, ◌<◌, ◌≤◌, inl, inr, arith}
use Rattle.std.proofs.lemmas.Bool.{cases_lt}
use Rattle.std.proofs.lemmas.Nat.{mul-le}
use Rattle.std.proofs.Math.Nat.{lt-div-mul-add, le_of_mul-le-mul_right}

-- sides are ordered as their squares
side-le : (a b : ℕ) → a * a ≤ b * b → a ≤ b
side-le a b h =
    elim (cases_lt b a) [
      | inl less ↦ let m : (b + 1) * (b + 1) ≤ a * a = mul-le (b + 1) (b + 1) a a (omega arith) (omega arith) in absurd (omega arith)
      | inr more ↦ more
    ]

-- the cube of a number above 0
pub cube-above : (r : ℕ) → 0 < r → 0 < r * r * r
cube-above r h = omega (arith, mul-le 1 1 r r h h, mul-le 1 1 (r * r) r (mul-le 1 1 r r h h) h)

-- less than one is missing
pub quotient-lacks : (w r s p : ℕ) → w * 2 ^ 50 < (p + 1) * (r * s) → s * s ≤ r * 2 ^ 20 → w * w * 2 ^ 80 < (p + 1) * (p + 1) * (r * r * r)
quotient-lacks w r s p h k =
    let a : (w * 2 ^ 50 + 1) * (w * 2 ^ 50 + 1) ≤ (p + 1) * (r * s) * ((p + 1) * (r * s)) = mul-le (w * 2 ^ 50 + 1) (w * 2 ^ 50 + 1) ((p + 1) * (r * s)) ((p + 1) * (r * s)) (omega arith) (omega arith) in
    let b : (p + 1) * (p + 1) * (r * r) * (s * s) ≤ (p + 1) * (p + 1) * (r * r) * (r * 2 ^ 20) = mul-le ((p + 1) * (p + 1) * (r * r)) (s * s) ((p + 1) * (p + 1) * (r * r)) (r * 2 ^ 20) (omega arith) k in
    omega arith

-- and one part of the scaled root is too much at most
pub quotient-exceeds : (w r s p : ℕ) → p * (r * s) ≤ w * 2 ^ 50 → r * 2 ^ 20 < (s + 1) * (s + 1) → p * s * (p * s) * (r * r * r) ≤ w * w * 2 ^ 80 * ((s + 1) * (s + 1))
quotient-exceeds w r s p h k =
    let a : p * (r * s) * (p * (r * s)) ≤ w * 2 ^ 50 * (w * 2 ^ 50) = mul-le (p * (r * s)) (p * (r * s)) (w * 2 ^ 50) (w * 2 ^ 50) h h in
    let b : p * (r * s) * (p * (r * s)) * r ≤ w * 2 ^ 50 * (w * 2 ^ 50) * r = mul-le (p * (r * s) * (p * (r * s))) r (w * 2 ^ 50 * (w * 2 ^ 50)) r a (omega arith) in
    let d : w * w * 2 ^ 80 * (r * 2 ^ 20) ≤ w * w * 2 ^ 80 * ((s + 1) * (s + 1)) = mul-le (w * w * 2 ^ 80) (r * 2 ^ 20) (w * w * 2 ^ 80) ((s + 1) * (s + 1)) (omega arith) (omega arith) in
    omega arith

-- what is at least the exact size is, with its share, at least the quotient
pub most-above : (q x c p s n : ℕ) → 0 < c → 0 < s → p * s * (p * s) * c ≤ x * ((s + 1) * (s + 1)) → q * q * x ≤ n * n * c → q * p ≤ n + n / s
most-above q x c p s n pos some h k =
    let a : q * q * (p * s * (p * s) * c) ≤ q * q * (x * ((s + 1) * (s + 1))) = mul-le (q * q) (p * s * (p * s) * c) (q * q) (x * ((s + 1) * (s + 1))) (omega arith) h in
    let b : q * q * x * ((s + 1) * (s + 1)) ≤ n * n * c * ((s + 1) * (s + 1)) = mul-le (q * q * x) ((s + 1) * (s + 1)) (n * n * c) ((s + 1) * (s + 1)) k (omega arith) in
    let d : q * p * s * (q * p * s) * c ≤ n * (s + 1) * (n * (s + 1)) * c = omega arith in
    let e : q * p * s ≤ n * (s + 1) = side-le (q * p * s) (n * (s + 1)) (le_of_mul-le-mul_right d pos) in
    let f : n < n / s * s + s = lt-div-mul-add some in
    elim (cases_lt (n + n / s) (q * p)) [
      | inl less ↦ let m : (n + n / s + 1) * s ≤ q * p * s = mul-le (n + n / s + 1) s (q * p) s (omega arith) (omega arith) in absurd (omega arith)
      | inr more ↦ more
    ]

-- what is at most the exact size is at most one unit more than the quotient
pub least-below : (q x c p n : ℕ) → 0 < c → x < (p + 1) * (p + 1) * c → n * n * c ≤ q * q * x → n ≤ q * p + q
least-below q x c p n pos h k =
    let a : q * q * x ≤ q * q * ((p + 1) * (p + 1) * c) = mul-le (q * q) x (q * q) ((p + 1) * (p + 1) * c) (omega arith) (omega arith) in
    let b : n * n * c ≤ (q * p + q) * (q * p + q) * c = omega arith in
    side-le n (q * p + q) (le_of_mul-le-mul_right b pos)
