-- The two halves of a value.
use Rattle.std.proofs.Common.{◌≡◌, ◌<◌, ◌+◌, ◌-◌, ◌*◌, ◌/◌, ◌%◌, ◌^◌, ◌↔◌, ◌+ℤ◌, ◌*ℤ◌, ℕ, suc, ℤ, pos, negsuc, sym, ap, ◌∙◌, subst, arith, FitsSigned}
use lib.IntN.{neg_ℤ, sub_ℕ}
use mir.Syntax.{w64, w128}
use Rattle.std.specs.Int.{cast_unsigned}
use Rattle.std.proofs.lemmas.Bool.Decides.{nat_tests}
use Rattle.byteorder.specs.Endian.{twos_complement}
use Rattle.force_out.specs.ForcesSdf.{AreHalves, high_half, low_half}

-- a difference below zero
below-zero : (lo k : ℕ) → lo < suc k → sub_ℕ lo (suc k) ≡ negsuc (suc k - suc lo)
below-zero lo k h = grind (arith, nat_tests)

-- a low half joined to a high half below zero
join-negsuc : (a lo : ℕ) → lo < 2 ^ 64 → (negsuc a *ℤ pos (2 ^ 64)) +ℤ pos lo ≡ negsuc (a * 2 ^ 64 + (2 ^ 64 - 1 - lo))
join-negsuc a lo h =
    let units : suc a * 2 ^ 64 ≡ suc (a * 2 ^ 64 + (2 ^ 64 - 1)) = omega arith in
    let less : lo < suc (a * 2 ^ 64 + (2 ^ 64 - 1)) = omega arith in
    ap (λ (n : ℕ). neg_ℤ (pos n) +ℤ pos lo) units ∙ below-zero lo (a * 2 ^ 64 + (2 ^ 64 - 1)) less ∙ ap negsuc (omega arith)

-- the halves of a value join to it
pub halves-join : (value : ℤ) → AreHalves value (high_half value) (low_half value)
halves-join (pos n) = record { joined = ap pos (omega arith); below = omega arith }
halves-join (negsuc n) = record {
  joined = sym (join-negsuc (n / 2 ^ 64) (2 ^ 64 - 1 - n % 2 ^ 64) (omega arith) ∙ ap negsuc (omega arith));
  below = omega arith;
}

-- and no others do
halves-of-pos : (a lo : ℕ) → lo < 2 ^ 64 → (pos a ≡ high_half (pos (a * 2 ^ 64 + lo))) × (lo ≡ low_half (pos (a * 2 ^ 64 + lo)))
halves-of-pos a lo h = (ap pos (omega arith), omega arith)

halves-of-negsuc : (a lo : ℕ) → lo < 2 ^ 64 → (negsuc a ≡ high_half (negsuc (a * 2 ^ 64 + (2 ^ 64 - 1 - lo)))) × (lo ≡ low_half (negsuc (a * 2 ^ 64 + (2 ^ 64 - 1 - lo))))
halves-of-negsuc a lo h = (ap negsuc (omega arith), omega arith)

halves-only : (value hi : ℤ) (lo : ℕ) → AreHalves value hi lo → (hi ≡ high_half value) × (lo ≡ low_half value)
halves-only value (pos a) lo h = subst (λ (v : ℤ). (pos a ≡ high_half v) × (lo ≡ low_half v)) (sym h.joined) (halves-of-pos a lo h.below)
halves-only value (negsuc a) lo h =
    subst (λ (v : ℤ). (negsuc a ≡ high_half v) × (lo ≡ low_half v)) (sym (h.joined ∙ join-negsuc a lo h.below)) (halves-of-negsuc a lo h.below)

-- a value has one high and one low half, and these are they
pub one-parting : (value hi : ℤ) (lo : ℕ) → AreHalves value hi lo ↔ ((hi ≡ high_half value) × (lo ≡ low_half value))
one-parting value hi lo = (
  halves-only value hi lo,
  (λ e. subst (λ (h : ℤ). AreHalves value h lo) (sym e.0) (subst (λ (l : ℕ). AreHalves value (high_half value) l) (sym e.1) (halves-join value))),
)

-- the high half of a number of 128 bits has 64
pub high_half-fits : (value : ℤ) → FitsSigned w128 value → FitsSigned w64 (high_half value)
high_half-fits (pos n) f = let h = f.sfits in record { sfits = omega arith }
high_half-fits (negsuc n) f = let h = f.sfits in record { sfits = omega arith }

-- two's complement and back
pub twos_complement-back : (hi : ℤ) → FitsSigned w64 hi → twos_complement 8 (cast_unsigned w64 hi) ≡ hi
twos_complement-back (pos n) f = let h : n < 2 ^ 63 = f.sfits in grind (arith, nat_tests)
twos_complement-back (negsuc n) f = let h : n < 2 ^ 63 = f.sfits in grind (arith, nat_tests)

-- a signed number of 64 bits, taken as an unsigned one, is below 2^64
pub unsigned-fits : (hi : ℤ) → FitsSigned w64 hi → cast_unsigned w64 hi < 2 ^ 64
unsigned-fits (pos n) f = let h : n < 2 ^ 63 = f.sfits in omega arith
unsigned-fits (negsuc n) f = omega arith
