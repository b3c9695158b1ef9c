-- The opening test by a distance.
use Rattle.std.proofs.Common.{ℕ, zero, suc, ◌≡◌, ◌+◌, ◌-◌, ◌*◌, ◌/◌, ◌^◌, ◌<◌, ◌≤◌, false, ltb, eqb, refl, sym, arith, inl, inr, ◌∙◌}
use Rattle.std.proofs.lemmas.Bool.{ne_eqb, cases_lt, lt-ltb, le-ltb}
use Rattle.std.proofs.lemmas.Nat.{mul-le, pow-add, pow_pos}
use Rattle.std.proofs.Math.Nat.{div-div-eq-div-mul, mul-div-mul_right, le-div_iff_mul-le, lt-div-mul-add, pow-le-pow_right}
use Rattle.hot_model.specs.Kernel.{square}
use Rattle.fixed_kernel.specs.Ratio.{reach_of}

-- two tests that hold together
same-test : (a b c d : ℕ) → (a < b → c < d) → (b ≤ a → d ≤ c) → ltb a b ≡ ltb c d
same-test a b c d f g =
    elim (cases_lt a b) [
      | inl p ↦ lt-ltb a b p ∙ sym (lt-ltb c d (f p))
      | inr p ↦ le-ltb a b p ∙ sym (le-ltb c d (g p))
    ]

below-quotient : (a b d : ℕ) → 0 < b → a / b < d → a < b * d
below-quotient a b d h p =
    let high : a < a / b * b + b = lt-div-mul-add h in
    let m : (a / b + 1) * b ≤ d * b = mul-le (a / b + 1) b d b (omega arith) (omega arith) in
    omega arith

above-quotient : (a b d : ℕ) → 0 < b → d ≤ a / b → b * d ≤ a
above-quotient a b d h p = let m : d * b ≤ a = (le-div_iff_mul-le h).0 p in omega arith

regroup : (d s p q : ℕ) → s ≡ p * p * q → d * d * s ≡ p * p * (d * d) * q
regroup d s p q h = rw h (omega arith)

side-scaled : (l den : ℕ) → l ≤ 21 → den * den * 2 ^ 58 ≡ square (2 ^ (29 - l)) * square den * 2 ^ (2 * l)
side-scaled l den h =
    let k = 29 - l in
    let e : 2 ^ (k + k + 2 * l) ≡ 2 ^ k * 2 ^ k * 2 ^ (2 * l) = rw (pow-add 2 (k + k) (2 * l), pow-add 2 k k) refl in
    let s : k + k + 2 * l ≡ 58 = omega arith in
    regroup den (2 ^ 58) (2 ^ k) (2 ^ (2 * l)) (rw s at e)

reach-some : (n den : ℕ) → reach_of (suc n) den ≡ den * den * 2 ^ 58 / (suc n * suc n)
unfolding reach_of
reach-some n den = let t : eqb (suc n) 0 ≡ false = ne_eqb _ _ (λ e. omega (arith, e)) in rw t refl

-- the opening test by a distance is the one by its formula
pub reach-test : (num den l d : ℕ) → l ≤ 21 → d ≤ 3 * 2 ^ 58 → ltb (reach_of num den / 2 ^ (2 * l)) d ≡ ltb (square (2 ^ (29 - l)) * square den) (square num * d)
unfolding reach_of
reach-test zero den l d h k =
    let two : 0 < 2 = omega arith in
    let most : 2 * l ≤ 42 = omega arith in
    let p : 2 ^ (2 * l) ≤ 2 ^ 42 = pow-le-pow_right two most in
    let m : d * 2 ^ (2 * l) ≤ 3 * 2 ^ 58 * 2 ^ 42 = mul-le d (2 ^ (2 * l)) (3 * 2 ^ 58) (2 ^ 42) k p in
    let far : d ≤ 2 ^ 104 / 2 ^ (2 * l) = (le-div_iff_mul-le (pow_pos (2 * l))).1 (omega arith) in
    le-ltb _ _ far ∙ sym (le-ltb (square (2 ^ (29 - l)) * square den) (square 0 * d) (omega arith))
reach-test (suc n) den l d h k =
    let a = square (2 ^ (29 - l)) * square den in
    let b = suc n * suc n in
    let e : den * den * 2 ^ 58 / b / 2 ^ (2 * l) ≡ a / b = rw (div-div-eq-div-mul, side-scaled l den h) (mul-div-mul_right a b (pow_pos (2 * l))) in
    rw (reach-some n den, e) (same-test (a / b) d a (b * d) (below-quotient a b d (omega arith)) (above-quotient a b d (omega arith)))
