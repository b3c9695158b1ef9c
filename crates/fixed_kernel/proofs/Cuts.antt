-- Quotients of signed numbers by their sizes.
use Rattle.std.proofs.Common.{ℕ, ◌≡◌, ◌/◌, ◌<◌, ◌≤◌, ℤ, pos, negsuc, neg_ℤ, ◌<ℤ◌, ◌≤ℤ◌, nat_abs, refl, arith}
use Rattle.std.proofs.lemmas.Int.{ints}
use Rattle.std.proofs.lemmas.Nat.{mul-le}
use Rattle.std.proofs.Math.Nat.{div-le_of_le-mul}
use Rattle.hot_model.specs.Second.{trunc}

-- a quotient is at most the number
pub quotient-small : (a n q m : ℕ) → 0 < n → q ≡ a / n → a ≤ m → q ≤ m
quotient-small a n q m some e h = rw e (div-le_of_le-mul n (omega (arith, mul-le 1 m n m (omega arith) (omega arith), h)))

-- the quotient of a number from 0 on
pub trunc-above : (a : ℤ) (n q : ℕ) → pos 0 ≤ℤ a → q ≡ nat_abs a / n → pos q ≡ trunc a n
trunc-above (pos k) n q h e = rw e refl
trunc-above (negsuc k) n q h e = absurd (omega (arith, ints, h))

-- the quotient of a number below 0
pub trunc-below : (a : ℤ) (n q : ℕ) → a <ℤ pos 0 → q ≡ nat_abs a / n → neg_ℤ (pos q) ≡ trunc a n
trunc-below (pos k) n q h e = absurd (omega (arith, ints, h))
trunc-below (negsuc k) n q h e = rw e refl
