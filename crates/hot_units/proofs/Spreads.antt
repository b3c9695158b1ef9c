-- Bits set apart: of a byte, of several bytes, of the coordinates of a key.
use Rattle.std.proofs.Common.{ℕ, zero, suc, ◌≡◌, ◌+◌, ◌-◌, ◌*◌, ◌/◌, ◌%◌, ◌^◌, ◌<◌, ◌≤◌, Bool, true, ◌&&◌, T, eqb, List, get_or, sym, refl, inl, inr, arith, ap, ◌∙◌, eqb→eq}
use Rattle.std.proofs.lemmas.Bool.{cases_eq}
use lib.Ieee.Fits.{and_l, and_r}
use Rattle.std.proofs.Math.Nat.{pow-succ', div-div-eq-div-mul, div-one, mul_assoc}
use Rattle.hot_units.specs.Keys.{bit, key_to}
use Rattle.hot_units.specs.Spread.{spread}
use Rattle.hot_units.proofs.Digits.{two_pow_three, bit-le}

-- the first n entries are those of the definition
abbrev pub are_spread : List ℕ → ℕ → Bool
are_spread entries zero = true
are_spread entries (suc n) = eqb (get_or entries n 0) (spread 8 n) && are_spread entries n

-- so each of them is that of the definition
pub spread_at : (entries : List ℕ) (n : ℕ) → T (are_spread entries n) → (i : ℕ) → i < n → get_or entries i 0 ≡ spread 8 i
spread_at entries zero t i h = absurd (omega arith)
spread_at entries (suc n) t i h =
    elim (cases_eq i n) [
      | inl same ↦ rw same (eqb→eq _ _ (and_l _ (are_spread entries n) t))
      | inr other ↦ spread_at entries n (and_r _ (are_spread entries n) t) i (omega arith)
    ]

eight_more : (k : ℕ) → 2 ^ (3 * suc k) ≡ 8 * 2 ^ (3 * k)
eight_more k = omega (arith, two_pow_three (suc k), two_pow_three k, pow-succ' 8 k)

bit-zero : (n : ℕ) → bit n 0 ≡ n % 2
bit-zero n = ap (λ (m : ℕ). m % 2) (div-one n)

bit-suc : (n k : ℕ) → bit n (suc k) ≡ bit (n / 2) k
bit-suc n k = ap (λ (m : ℕ). n / m % 2) (pow-succ' 2 k) ∙ ap (λ (m : ℕ). m % 2) (sym (div-div-eq-div-mul n 2 (2 ^ k)))

-- a bit is 0 or 1, so its product with a number is linear
bit_times : (b p q : ℕ) → b ≤ 1 → q ≡ 8 * p → b * q ≡ 8 * (b * p)
bit_times zero p q h e = omega arith
bit_times (suc zero) p q h e = omega arith
bit_times (suc (suc b)) p q h e = absurd (omega arith)

spread-zero : (n : ℕ) → spread 0 n ≡ 0
unfolding spread
spread-zero n = refl

spread-suc : (k n : ℕ) → spread (suc k) n ≡ spread k n + bit n k * 2 ^ (3 * k)
unfolding spread
spread-suc k n = refl

-- the lowest bit, and the others an eighth as high
pub spread-low : (k n : ℕ) → spread (suc k) n ≡ n % 2 + 8 * spread k (n / 2)
spread-low zero n = omega (arith, spread-suc 0 n, spread-zero n, spread-zero (n / 2), bit-zero n)
spread-low (suc k) n =
    let b : bit n (suc k) ≡ bit (n / 2) k = bit-suc n k in
    let p : bit (n / 2) k * 2 ^ (3 * suc k) ≡ 8 * (bit (n / 2) k * 2 ^ (3 * k)) = bit_times (bit (n / 2) k) (2 ^ (3 * k)) (2 ^ (3 * suc k)) (bit-le (n / 2) k) (eight_more k) in
    let q : bit n (suc k) * 2 ^ (3 * suc k) ≡ 8 * (bit (n / 2) k * 2 ^ (3 * k)) = rw b p in
    omega (arith, spread-suc (suc k) n, spread-suc k (n / 2), spread-low k n)

-- seven times the bits set apart leave room for the leading 1
pub spread-below : (k n : ℕ) → 7 * spread k n < 2 ^ (3 * k)
spread-below zero n = omega (arith, spread-zero n)
spread-below (suc k) n = omega (arith, spread-low k n, spread-below k (n / 2), eight_more k)

spread-none : (k : ℕ) → spread k 0 ≡ 0
spread-none zero = spread-zero 0
spread-none (suc k) = omega (arith, spread-low k 0, spread-none k)

-- higher bits do not matter
spread-rest : (k m q n : ℕ) → n ≡ m + 2 ^ k * q → spread k n ≡ spread k m
spread-rest zero m q n e = omega (arith, spread-zero m, spread-zero n)
spread-rest (suc k) m q n e =
    let t : 2 ^ suc k * q ≡ 2 * (2 ^ k * q) = rw (pow-succ' 2 k) (mul_assoc 2 (2 ^ k) q) in
    omega (arith, spread-low k n, spread-low k m, spread-rest k (m / 2) q (n / 2) (omega arith))

-- the lowest a bits, and behind them the b others
spread-parts : (a b c n : ℕ) → c ≡ a + b → spread c n ≡ spread a n + 2 ^ (3 * a) * spread b (n / 2 ^ a)
spread-parts zero b c n e =
    let same : c ≡ b = omega arith in
    rw (same, div-one n) (omega (arith, spread-zero n))
spread-parts (suc a) b zero n e = absurd (omega arith)
spread-parts (suc a) b (suc c) n e =
    let rest = spread b (n / 2 / 2 ^ a) in
    let same : n / 2 ^ suc a ≡ n / 2 / 2 ^ a = ap (λ (m : ℕ). n / m) (pow-succ' 2 a) ∙ sym (div-div-eq-div-mul n 2 (2 ^ a)) in
    let t : 2 ^ (3 * suc a) * rest ≡ 8 * (2 ^ (3 * a) * rest) = rw (eight_more a) (mul_assoc 8 (2 ^ (3 * a)) rest) in
    rw same (omega (arith, t, spread-low c n, spread-low a n, spread-parts a b c (n / 2) (omega arith)))

-- 21 bits set apart, from the entries of their three bytes
pub spread_of_bytes : (n : ℕ) → n < 2 ^ 21 → (spread 8 (n / 2 ^ 16) < 2 ^ 15) × (spread 8 (n % 256) + spread 8 (n / 2 ^ 8 % 256) * 2 ^ 24 + spread 8 (n / 2 ^ 16) * 2 ^ 48 ≡ spread 21 n)
spread_of_bytes n h =
    let top : n / 2 ^ 8 / 2 ^ 8 ≡ n / 2 ^ 16 = omega arith in
    let none : n / 2 ^ 16 / 2 ^ 5 ≡ 0 = omega arith in
    let low : spread 8 n ≡ spread 8 (n % 256) = spread-rest 8 (n % 256) (n / 256) n (omega arith) in
    let middle : spread 8 (n / 2 ^ 8) ≡ spread 8 (n / 2 ^ 8 % 256) = spread-rest 8 (n / 2 ^ 8 % 256) (n / 2 ^ 8 / 256) (n / 2 ^ 8) (omega arith) in
    let one : spread 21 n ≡ spread 8 n + 2 ^ 24 * spread 13 (n / 2 ^ 8) = spread-parts 8 13 21 n refl in
    let two : spread 13 (n / 2 ^ 8) ≡ spread 8 (n / 2 ^ 8) + 2 ^ 24 * spread 5 (n / 2 ^ 16) = rw (← top) (spread-parts 8 5 13 (n / 2 ^ 8) refl) in
    let three : spread 8 (n / 2 ^ 16) ≡ spread 5 (n / 2 ^ 16) + 2 ^ 15 * spread 3 0 = rw (← none) (spread-parts 5 3 8 (n / 2 ^ 16) refl) in
    let small : spread 8 (n / 2 ^ 16) ≡ spread 5 (n / 2 ^ 16) = omega (arith, three, spread-none 3) in
    (omega (arith, small, spread-below 5 (n / 2 ^ 16)), omega (arith, low, middle, one, two, small))

-- what one more level adds
halved : (l m x : ℕ) → spread (suc l) (x / 2 ^ m) ≡ bit x m + 8 * spread l (x / 2 ^ suc m)
halved l m x =
    let half : x / 2 ^ m / 2 ≡ x / 2 ^ suc m = div-div-eq-div-mul x (2 ^ m) 2 ∙ ap (λ (t : ℕ). x / t) (omega (arith, pow-succ' 2 m)) in
    rw (← half) (spread-low l (x / 2 ^ m))

-- the digits of the levels 1 to l, from the coordinates' bits set apart
key_to-spreads : (l x y z : ℕ) → l ≤ 29 → key_to l x y z ≡ 8 ^ l + 4 * spread l (x / 2 ^ (29 - l)) + 2 * spread l (y / 2 ^ (29 - l)) + spread l (z / 2 ^ (29 - l))
unfolding key_to
key_to-spreads zero x y z h = omega (arith, spread-zero (x / 2 ^ 29), spread-zero (y / 2 ^ 29), spread-zero (z / 2 ^ 29))
key_to-spreads (suc l) x y z h =
    let m = 29 - suc l in
    let above : 29 - l ≡ suc m = omega arith in
    let front = rw above at (key_to-spreads l x y z (omega arith)) in
    omega (arith, pow-succ' 8 l, front, halved l m x, halved l m y, halved l m z)

-- a key is 2^63 and the highest 21 bits of each coordinate set apart, x by 4 and y by 2
pub key_of_spreads : (x y z : ℕ) → key_to 21 x y z ≡ 2 ^ 63 + 4 * spread 21 (x / 2 ^ 8) + 2 * spread 21 (y / 2 ^ 8) + spread 21 (z / 2 ^ 8)
key_of_spreads x y z = key_to-spreads 21 x y z (omega arith)

-- seven times 21 bits set apart are below 2^63
pub spread_fits : (n : ℕ) → 7 * spread 21 n < 2 ^ 63
spread_fits n = spread-below 21 n

-- of a key made of bits set apart: its value, and that it fits
pub ruleset on_keys = (key_of_spreads, spread_fits)

-- of 21 bits set apart: their three bytes
pub ruleset on_bytes = (spread_of_bytes)
