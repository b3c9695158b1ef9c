-- Bounds of a pull, by a hint of an inverse root that was tested: with the mass n, the softened squared distance m and its
-- root j, each times a power of two, w is at most n * 2^73 / (m * j), and w + w * h / 2^40 + 2 at least. Here h is what the
-- root may be short of.
use Rattle.std.proofs.Common.{ℕ, ◌≡◌, ◌+◌, ◌-◌, ◌*◌, ◌/◌, ◌%◌, ◌^◌, ◌<◌, ◌≤◌, bit_or, bit_xor, inl, inr, ap, refl, arith}
use Rattle.std.proofs.lemmas.Bool.{cases_lt}
use Rattle.std.proofs.lemmas.Nat.{mul-le, pow-add, pow_pos, le_or_l, le_or_r, xor_shr, or_shr, and_le_l, and_le_r}
use Rattle.std.specs.Int.Bits.{xor_add_and}
use Rattle.std.proofs.Math.Nat.{lt-div-mul-add, le-div_iff_mul-le, pow-le-pow_right}
use Rattle.hot_model.specs.Kernel.{root, apart, toward, pull_along}
use Rattle.hot_model.proofs.Roots.{root_is}
use Rattle.hot_model.proofs.Pulls.{root-above}
use Rattle.fixed_kernel.specs.Between.{IsBetween}
use Rattle.fixed_kernel.proofs.Fast.{quotient-is}

-- sides are ordered as their squares
side-le : (a b : ℕ) → a * a ≤ b * b → a ≤ b
side-le a b h =
    elim (cases_lt b a) [
      | inl less ↦ let m : (b + 1) * (b + 1) ≤ a * a = mul-le (b + 1) (b + 1) a a (omega arith) (omega arith) in absurd (omega arith)
      | inr more ↦ more
    ]

-- products that were cut are below what they stand for
cube-above : (n y a v u w : ℕ) → a * 2 ^ 64 ≤ y * y → v * 2 ^ 64 ≤ a * y → u * 2 ^ 64 ≤ n * v → w * 2 ^ 27 ≤ u → w * 2 ^ 219 ≤ n * (y * y * y)
cube-above n y a v u w p q r s =
    let b : a * 2 ^ 64 * y ≤ y * y * y = mul-le (a * 2 ^ 64) y (y * y) y p (omega arith) in
    let c : n * (v * 2 ^ 128) ≤ n * (y * y * y) = mul-le n (v * 2 ^ 128) n (y * y * y) (omega arith) (omega arith) in
    omega arith

-- and not far below
cube-below : (n y a v u w : ℕ) → y * y < (a + 1) * 2 ^ 64 → a * y < (v + 1) * 2 ^ 64 → n * v < (u + 1) * 2 ^ 64 → u < (w + 1) * 2 ^ 27 → n < 2 ^ 64 → y ≤ 2 ^ 63 → n * (y * y * y) ≤ ((w + 1) * 2 ^ 27 + 2) * 2 ^ 192
cube-below n y a v u w p q r s f g =
    let b : y * y * y ≤ (a + 1) * 2 ^ 64 * y = mul-le (y * y) y ((a + 1) * 2 ^ 64) y (omega arith) (omega arith) in
    let c : n * (y * y * y) ≤ n * ((a + 1) * 2 ^ 64 * y) = mul-le n (y * y * y) n ((a + 1) * 2 ^ 64 * y) (omega arith) b in
    let d : n * (a * y) ≤ n * ((v + 1) * 2 ^ 64) = mul-le n (a * y) n ((v + 1) * 2 ^ 64) (omega arith) (omega arith) in
    let e : n * y ≤ 2 ^ 64 * 2 ^ 63 = mul-le n y (2 ^ 64) (2 ^ 63) (omega arith) (omega arith) in
    omega arith

-- the hint is below
hint-below : (y m a t : ℕ) → y * y < (a + 1) * 2 ^ 64 → a * m < (t + 1) * 2 ^ 64 → m < 2 ^ 64 → t + 2 ≤ 2 ^ 60 → y * y * m ≤ 2 ^ 188
hint-below y m a t p q f h =
    let b : y * y * m ≤ (a + 1) * 2 ^ 64 * m = mul-le (y * y) m ((a + 1) * 2 ^ 64) m (omega arith) (omega arith) in
    omega arith

-- and not far below
hint-above : (y m a t : ℕ) → a * 2 ^ 64 ≤ y * y → t * 2 ^ 64 ≤ a * m → 2 ^ 60 - 16386 ≤ t → (2 ^ 60 - 16386) * 2 ^ 128 ≤ y * y * m
hint-above y m a t p q h =
    let b : a * 2 ^ 64 * m ≤ y * y * m = mul-le (a * 2 ^ 64) m (y * y) m p (omega arith) in
    omega arith

hint-root-below : (y m j : ℕ) → y * y * m ≤ 2 ^ 188 → j * j ≤ m * 2 ^ 20 → y * j ≤ 2 ^ 104
hint-root-below y m j p q =
    let b : y * y * (j * j) ≤ y * y * (m * 2 ^ 20) = mul-le (y * y) (j * j) (y * y) (m * 2 ^ 20) (omega arith) q in
    side-le (y * j) (2 ^ 104) (omega arith)

hint-root-above : (y m k : ℕ) → (2 ^ 60 - 16386) * 2 ^ 128 ≤ y * y * m → m * 2 ^ 20 ≤ k * k → (2 ^ 50 - 9) * 2 ^ 54 ≤ y * k
hint-root-above y m k p q =
    let b : y * y * (m * 2 ^ 20) ≤ y * y * (k * k) = mul-le (y * y) (m * 2 ^ 20) (y * y) (k * k) (omega arith) q in
    side-le ((2 ^ 50 - 9) * 2 ^ 54) (y * k) (omega arith)

-- the lower bound
low-bound : (n m j y w : ℕ) → w * 2 ^ 219 ≤ n * (y * y * y) → y * y * m ≤ 2 ^ 188 → y * j ≤ 2 ^ 104 → w * (m * j) ≤ n * 2 ^ 73
low-bound n m j y w p q r =
    let b : w * 2 ^ 219 * (m * j) ≤ n * (y * y * y) * (m * j) = mul-le (w * 2 ^ 219) (m * j) (n * (y * y * y)) (m * j) p (omega arith) in
    let c : y * y * m * (y * j) ≤ 2 ^ 188 * 2 ^ 104 = mul-le (y * y * m) (y * j) (2 ^ 188) (2 ^ 104) q r in
    let d : n * (y * y * m * (y * j)) ≤ n * (2 ^ 188 * 2 ^ 104) = mul-le n (y * y * m * (y * j)) n (2 ^ 188 * 2 ^ 104) (omega arith) c in
    omega arith

-- what the root may be short of is made up for
spare : (w h f j : ℕ) → w < 2 ^ 34 → h ≤ 2 ^ 28 → w * h < (f + 1) * 2 ^ 40 → 2 ^ 41 ≤ j + h → ((w + 1) * 2 ^ 27 + 2) * 2 ^ 23 * (j + h) ≤ (2 ^ 50 - 26) * ((w + f + 2) * j)
spare w h f j p q r s =
    let b : f * (2 ^ 41 - 2 ^ 28) ≤ f * j = mul-le f (2 ^ 41 - 2 ^ 28) f j (omega arith) (omega arith) in
    let c : w * j ≤ 2 ^ 34 * j = mul-le w j (2 ^ 34) j (omega arith) (omega arith) in
    omega arith

-- the upper bound
high-bound : (n m j h f y w : ℕ) → n * (y * y * y) ≤ ((w + 1) * 2 ^ 27 + 2) * 2 ^ 192 → (2 ^ 60 - 16386) * 2 ^ 128 ≤ y * y * m → (2 ^ 50 - 9) * 2 ^ 54 ≤ y * (j + h) → ((w + 1) * 2 ^ 27 + 2) * 2 ^ 23 * (j + h) ≤ (2 ^ 50 - 26) * ((w + f + 2) * j) → n * 2 ^ 73 ≤ (w + f + 2) * (m * j)
high-bound n m j h f y w p q r s =
    let x = (w + 1) * 2 ^ 27 + 2 in
    let k = j + h in
    let b : (2 ^ 60 - 16386) * 2 ^ 128 * ((2 ^ 50 - 9) * 2 ^ 54) ≤ y * y * m * (y * k) = mul-le ((2 ^ 60 - 16386) * 2 ^ 128) ((2 ^ 50 - 9) * 2 ^ 54) (y * y * m) (y * k) q r in
    let c : n * ((2 ^ 50 - 26) * 2 ^ 242) ≤ n * (y * y * m * (y * k)) = mul-le n ((2 ^ 50 - 26) * 2 ^ 242) n (y * y * m * (y * k)) (omega arith) (omega arith) in
    let d : n * (y * y * y) * (m * k) ≤ x * 2 ^ 192 * (m * k) = mul-le (n * (y * y * y)) (m * k) (x * 2 ^ 192) (m * k) p (omega arith) in
    let e : x * 2 ^ 23 * k * m ≤ (2 ^ 50 - 26) * ((w + f + 2) * j) * m = mul-le (x * 2 ^ 23 * k) m ((2 ^ 50 - 26) * ((w + f + 2) * j)) m s (omega arith) in
    omega arith

cancel-le : (a b c : ℕ) → 0 < c → a * c ≤ b * c → a ≤ b
cancel-le a b c h k =
    elim (cases_lt b a) [
      | inl less ↦ let m : (b + 1) * c ≤ a * c = mul-le (b + 1) c a c (omega arith) (omega arith) in absurd (omega arith)
      | inr more ↦ more
    ]

cancel-lt : (a b c : ℕ) → a * c < b * c → a < b
cancel-lt a b c k =
    elim (cases_lt a b) [
      | inl less ↦ less
      | inr more ↦ let m : b * c ≤ a * c = mul-le b c a c more (omega arith) in absurd (omega arith)
    ]

-- the root, scaled, is below
scaled-root-below : (r s h : ℕ) → s * s ≤ r * 2 ^ 20 → s * h * (s * h) ≤ r * (h * h) * 2 ^ 20
scaled-root-below r s h p = let b : s * s * (h * h) ≤ r * 2 ^ 20 * (h * h) = mul-le (s * s) (h * h) (r * 2 ^ 20) (h * h) p (omega arith) in omega arith

-- and not far below
scaled-root-above : (r s h : ℕ) → r * 2 ^ 20 < (s + 1) * (s + 1) → r * (h * h) * 2 ^ 20 ≤ (s * h + h) * (s * h + h)
scaled-root-above r s h p = let b : r * 2 ^ 20 * (h * h) ≤ (s + 1) * (s + 1) * (h * h) = mul-le (r * 2 ^ 20) (h * h) ((s + 1) * (s + 1)) (h * h) (omega arith) (omega arith) in omega arith

-- the scales go out
unscaled-low : (w r s m h l k : ℕ) → 0 < h * h * h → k * (h * h * h) ≡ l * 2 ^ 23 → w * (r * (h * h) * (s * h)) ≤ m * l * 2 ^ 73 → w * (r * s) ≤ m * 2 ^ 50 * k
unscaled-low w r s m h l k p e q =
    let f : m * (k * (h * h * h)) ≡ m * (l * 2 ^ 23) = ap (λ (x : ℕ). m * x) e in
    cancel-le (w * (r * s)) (m * 2 ^ 50 * k) (h * h * h) p (omega arith)

unscaled-high : (w r s m h l k : ℕ) → 0 < h * h * h → k * (h * h * h) ≡ l * 2 ^ 23 → m * l * 2 ^ 73 ≤ w * (r * (h * h) * (s * h)) → m * 2 ^ 50 * k ≤ w * (r * s)
unscaled-high w r s m h l k p e q =
    let f : m * (k * (h * h * h)) ≡ m * (l * 2 ^ 23) = ap (λ (x : ℕ). m * x) e in
    cancel-le (m * 2 ^ 50 * k) (w * (r * s)) (h * h * h) p (omega arith)

-- a hint that is below is at most 2^63
hint-small : (y m : ℕ) → 2 ^ 62 ≤ m → y * y * m ≤ 2 ^ 188 → y ≤ 2 ^ 63
hint-small y m h p =
    let b : y * y * 2 ^ 62 ≤ y * y * m = mul-le (y * y) (2 ^ 62) (y * y) m (omega arith) h in
    side-le y (2 ^ 63) (omega arith)

low-small : (n y a v u w : ℕ) → y ≤ 2 ^ 63 → n < 2 ^ 64 → a * 2 ^ 64 ≤ y * y → v * 2 ^ 64 ≤ a * y → u * 2 ^ 64 ≤ n * v → w * 2 ^ 27 ≤ u → w < 2 ^ 34
low-small n y a v u w p q r s f g =
    let b : y * y ≤ 2 ^ 63 * 2 ^ 63 = mul-le y y (2 ^ 63) (2 ^ 63) p p in
    let c : a * y ≤ 2 ^ 62 * 2 ^ 63 = mul-le a y (2 ^ 62) (2 ^ 63) (omega arith) p in
    let d : n * v ≤ (2 ^ 64 - 1) * 2 ^ 61 = mul-le n v (2 ^ 64 - 1) (2 ^ 61) (omega arith) (omega arith) in
    omega arith

-- what was cut: the bounds, at scales of any kind
between : (r s m h l k y a t v u w f : ℕ) → s * s ≤ r * 2 ^ 20 → r * 2 ^ 20 < (s + 1) * (s + 1) → k * (h * h * h) ≡ l * 2 ^ 23 → 0 < h → h ≤ 2 ^ 28 → 2 ^ 62 ≤ r * (h * h) → r * (h * h) < 2 ^ 64 → m * l < 2 ^ 64 → a ≡ y * y / 2 ^ 64 → t ≡ a * (r * (h * h)) / 2 ^ 64 → v ≡ a * y / 2 ^ 64 → u ≡ m * l * v / 2 ^ 64 → w ≡ u / 2 ^ 27 → f ≡ w * h / 2 ^ 40 → 2 ^ 60 - 16386 ≤ t → t + 2 ≤ 2 ^ 60 → (w * (r * s) ≤ m * 2 ^ 50 * k) × (m * 2 ^ 50 * k ≤ (w + f + 2) * (r * s)) × (w < 2 ^ 34)
between r s m h l k y a t v u w f low high scale pos small above within fits is-a is-t is-v is-u is-w is-f near below =
    let cube : 0 < h * h * h = omega (arith, mul-le 1 1 h h (omega arith) (omega arith), mul-le (1 * 1) 1 (h * h) h (mul-le 1 1 h h (omega arith) (omega arith)) (omega arith)) in
    let y-below : y * y * (r * (h * h)) ≤ 2 ^ 188 = hint-below y (r * (h * h)) a t (omega arith) (omega arith) within below in
    let hint : y ≤ 2 ^ 63 = hint-small y (r * (h * h)) above y-below in
    let is-small : w < 2 ^ 34 = low-small (m * l) y a v u w hint fits (omega arith) (omega arith) (omega arith) (omega arith) in
    let j-below : s * h * (s * h) ≤ r * (h * h) * 2 ^ 20 = scaled-root-below r s h low in
    let j-above : r * (h * h) * 2 ^ 20 ≤ (s * h + h) * (s * h + h) = scaled-root-above r s h high in
    let y-above : (2 ^ 60 - 16386) * 2 ^ 128 ≤ y * y * (r * (h * h)) = hint-above y (r * (h * h)) a t (omega arith) (omega arith) near in
    let far : 2 ^ 41 ≤ s * h + h = side-le (2 ^ 41) (s * h + h) (omega arith) in (
      unscaled-low w r s m h l k cube scale (low-bound (m * l) (r * (h * h)) (s * h) y w (cube-above (m * l) y a v u w (omega arith) (omega arith) (omega arith) (omega arith)) y-below (hint-root-below y (r * (h * h)) (s * h) y-below j-below)),
      unscaled-high (w + f + 2) r s m h l k cube scale (high-bound (m * l) (r * (h * h)) (s * h) h f y w (cube-below (m * l) y a v u w (omega arith) (omega arith) (omega arith) (omega arith) fits hint) y-above (hint-root-above y (r * (h * h)) (s * h + h) y-above j-above) (spare w h f (s * h) is-small small (omega arith) far)),
      is-small,
    )

power-twice : (h : ℕ) → 2 ^ (2 * h) ≡ 2 ^ h * 2 ^ h
power-twice h = let e : 2 * h ≡ h + h = omega arith in rw e (pow-add 2 h h)

power-scale : (t h l : ℕ) → t + 3 * h ≡ l + 23 → 2 ^ t * (2 ^ h * 2 ^ h * 2 ^ h) ≡ 2 ^ l * 2 ^ 23
power-scale t h l e =
    let f : t + 3 * h ≡ t + (h + h + h) = omega arith in
    let a : 2 ^ (t + (h + h + h)) ≡ 2 ^ t * (2 ^ h * 2 ^ h * 2 ^ h) = rw (pow-add 2 t (h + h + h), pow-add 2 (h + h) h, pow-add 2 h h) refl in
    let b : 2 ^ (l + 23) ≡ 2 ^ l * 2 ^ 23 = pow-add 2 l 23 in
    rw (← a, ← f, e) b

-- the bounds of a pull
pub is-between : (r m h l shift y a t v u w f : ℕ) → shift + 3 * h ≡ l + 23 → l < 64 → 0 < shift → shift < 64 → 2 ^ 62 ≤ r * 2 ^ (2 * h) → r * 2 ^ (2 * h) < 2 ^ 64 → m * 2 ^ l < 2 ^ 64 → a ≡ y * y / 2 ^ 64 → t ≡ a * (r * 2 ^ (2 * h)) / 2 ^ 64 → v ≡ a * y / 2 ^ 64 → u ≡ m * 2 ^ l * v / 2 ^ 64 → w ≡ u / 2 ^ 27 → f ≡ w * 2 ^ h / 2 ^ 40 → 2 ^ 60 - 16386 ≤ t → t + 2 ≤ 2 ^ 60 → IsBetween w (w + f + 2) shift m (r * root (r * 2 ^ 20))
is-between r m h l shift y a t v u w f e lead pos below near within fits is-a is-t is-v is-u is-w is-f above under =
    let two : 0 < 2 = omega arith in
    let half : h ≤ 28 = omega arith in
    let small : 2 ^ h ≤ 2 ^ 28 = pow-le-pow_right two half in
    let p = power-twice h in
    let all = between r (root (r * 2 ^ 20)) m (2 ^ h) (2 ^ l) (2 ^ shift) y a t v u w f (root_is (r * 2 ^ 20)).0 (root_is (r * 2 ^ 20)).1 (power-scale shift h l e) (pow_pos h) small (rw p at near) (rw p at within) fits is-a (rw p at is-t) is-v is-u is-w is-f above under in
    let more : w * 2 ^ h ≤ 2 ^ 34 * 2 ^ 28 = mul-le w (2 ^ h) (2 ^ 34) (2 ^ 28) (omega arith) small in
    (all.0, all.1, all.2, omega arith, pos, below)

-- the same by what the code computes, whose shifts and differences may wrap
pub is-certain : (r m h l y a t v u : ℕ) → h < 32 → l < 64 → 0 < (l + 23 + (2 ^ 32 - 3 * h)) % 2 ^ 32 → (l + 23 + (2 ^ 32 - 3 * h)) % 2 ^ 32 < 64 → 2 ^ 62 ≤ r * 2 ^ (2 * h) → r * 2 ^ (2 * h) < 2 ^ 64 → m * 2 ^ l < 2 ^ 64 → a ≡ y * y / 2 ^ 64 → t ≡ a * (r * 2 ^ (2 * h) % 2 ^ 64) / 2 ^ 64 → v ≡ a * y / 2 ^ 64 → u ≡ m * 2 ^ l % 2 ^ 64 * v / 2 ^ 64 → 2 ^ 60 - 16386 ≤ t → t ≤ 2 ^ 60 - 2 → IsBetween (u / 2 ^ 27) (u / 2 ^ 27 + u / 2 ^ 27 * 2 ^ h % 2 ^ 64 / 2 ^ 40 + 2) ((l + 23 + (2 ^ 32 - 3 * h)) % 2 ^ 32) m (r * root (r * 2 ^ 20))
is-certain r m h l y a t v u fours twos pos below near within fits is-a is-t is-v is-u above under =
    let shift = (l + 23 + (2 ^ 32 - 3 * h)) % 2 ^ 32 in
    let w = u / 2 ^ 27 in
    let full : r * 2 ^ (2 * h) % 2 ^ 64 ≡ r * 2 ^ (2 * h) = omega arith in
    let heavy : m * 2 ^ l % 2 ^ 64 ≡ m * 2 ^ l = omega arith in
    let two : 0 < 2 = omega arith in
    let half : h ≤ 28 = omega arith in
    let small : 2 ^ h ≤ 2 ^ 28 = pow-le-pow_right two half in
    let all = is-between r m h l shift y a t v u w (w * 2 ^ h / 2 ^ 40) (omega arith) twos pos below near within fits is-a (rw full at is-t) is-v (rw heavy at is-u) refl refl above (omega arith) in
    let more : w * 2 ^ h ≤ 2 ^ 34 * 2 ^ 28 = mul-le w (2 ^ h) (2 ^ 34) (2 ^ 28) (omega arith) small in
    let whole : w * 2 ^ h % 2 ^ 64 ≡ w * 2 ^ h = omega arith in
    rw whole all

-- how often a number may be made four times as large
pub fours-room : (n i : ℕ) → i < 64 → 2 ^ i ≤ n → n < 2 * 2 ^ i → (2 ^ 62 ≤ n * 2 ^ (2 * ((63 - i) / 2))) × (n * 2 ^ (2 * ((63 - i) / 2)) < 2 ^ 64)
fours-room n i h p q =
    let k = 2 * ((63 - i) / 2) in
    let two : 0 < 2 = omega arith in
    let least : 62 ≤ i + k = omega arith in
    let most : i + k ≤ 63 = omega arith in
    let e : 2 ^ (i + k) ≡ 2 ^ i * 2 ^ k = pow-add 2 i k in
    let a : 2 ^ 62 ≤ 2 ^ (i + k) = pow-le-pow_right two least in
    let b : 2 ^ (i + k) ≤ 2 ^ 63 = pow-le-pow_right two most in
    let c : 2 ^ i * 2 ^ k ≤ n * 2 ^ k = mul-le (2 ^ i) (2 ^ k) n (2 ^ k) p (omega arith) in
    let d : (n + 1) * 2 ^ k ≤ 2 * 2 ^ i * 2 ^ k = mul-le (n + 1) (2 ^ k) (2 * 2 ^ i) (2 ^ k) (omega arith) (omega arith) in
    let f : 0 < 2 ^ k = pow_pos k in
    (omega arith, omega arith)

-- how often a number may be doubled
pub twos-room : (n i : ℕ) → i < 64 → bit_or n 1 < 2 * 2 ^ i → n * 2 ^ (63 - i) < 2 ^ 64
twos-room n i h q =
    let k = 63 - i in
    let most : i + k ≡ 63 = omega arith in
    let e : 2 ^ (i + k) ≡ 2 ^ i * 2 ^ k = pow-add 2 i k in
    let b : 2 ^ 63 ≡ 2 ^ i * 2 ^ k = rw most at e in
    let c : n ≤ bit_or n 1 = le_or_l n 1 in
    let d : (n + 1) * 2 ^ k ≤ 2 * 2 ^ i * 2 ^ k = mul-le (n + 1) (2 ^ k) (2 * 2 ^ i) (2 ^ k) (omega arith) (omega arith) in
    let f : 0 < 2 ^ k = pow_pos k in
    omega arith

-- a number with its last bit set is not 0
pub or-one : (n : ℕ) → 0 < bit_or n 1
or-one n = let c : 1 ≤ bit_or n 1 = le_or_r n 1 in omega arith

-- how often a number may be doubled
pub ruleset on_room = (fours-room, twos-room, or-one)

-- both bounds have one quotient
pub quotient-between : (low high k m d by : ℕ) → 0 < k → 0 < by → low * by ≤ m * 2 ^ 50 * k → m * 2 ^ 50 * k ≤ high * by → low * d / k ≡ high * d / k → low * d / k ≡ m * d * 2 ^ 50 / by
quotient-between low high k m d by pos above p q e =
    let n = low * d / k in
    let a : n * k ≤ low * d = (le-div_iff_mul-le pos).0 (omega arith) in
    let top : high * d < high * d / k * k + k = lt-div-mul-add pos in
    let b : high * d < n * k + k = rw (← e) at top in
    let c : n * k * by ≤ low * d * by = mul-le (n * k) by (low * d) by a (omega arith) in
    let f : (high * d + 1) * by ≤ (n * k + k) * by = mul-le (high * d + 1) by (n * k + k) by (omega arith) (omega arith) in
    let g : low * by * d ≤ m * 2 ^ 50 * k * d = mul-le (low * by) d (m * 2 ^ 50 * k) d p (omega arith) in
    let h : m * 2 ^ 50 * k * d ≤ high * by * d = mul-le (m * 2 ^ 50 * k) d (high * by) d q (omega arith) in
    let i : n * by ≤ m * d * 2 ^ 50 = cancel-le (n * by) (m * d * 2 ^ 50) k pos (omega arith) in
    let j : m * d * 2 ^ 50 < (n + 1) * by = cancel-lt (m * d * 2 ^ 50) ((n + 1) * by) k (omega arith) in
    quotient-is (m * d * 2 ^ 50) by n i (omega arith)

-- two numbers with the same bits
same-bits : (a b : ℕ) → bit_xor a b ≡ 0 → a ≡ b
same-bits a b e = let s = xor_add_and a b in let p = and_le_l a b in let q = and_le_r a b in omega arith

-- numbers whose bits differ only below a place have one quotient
pub same-quotients : (x a y b z c k : ℕ) → bit_or (bit_or (bit_xor x a) (bit_xor y b)) (bit_xor z c) / 2 ^ k ≡ 0 → (x / 2 ^ k ≡ a / 2 ^ k) × (y / 2 ^ k ≡ b / 2 ^ k) × (z / 2 ^ k ≡ c / 2 ^ k)
same-quotients x a y b z c k h =
    let dx = bit_xor (x / 2 ^ k) (a / 2 ^ k) in
    let dy = bit_xor (y / 2 ^ k) (b / 2 ^ k) in
    let dz = bit_xor (z / 2 ^ k) (c / 2 ^ k) in
    let e : bit_or (bit_or dx dy) dz ≡ 0 = simp (or_shr, xor_shr) at h in
    let p : bit_or dx dy ≤ bit_or (bit_or dx dy) dz = le_or_l (bit_or dx dy) dz in
    let q : dz ≤ bit_or (bit_or dx dy) dz = le_or_r (bit_or dx dy) dz in
    let r : dx ≤ bit_or dx dy = le_or_l dx dy in
    let s : dy ≤ bit_or dx dy = le_or_r dx dy in
    (same-bits _ _ (omega arith), same-bits _ _ (omega arith), same-bits _ _ (omega arith))

-- one component by its bounds
pub component-is : (p c low high shift m by d : ℕ) → 0 < by → IsBetween low high shift m by → d ≡ apart p c → low * d / 2 ^ shift ≡ high * d / 2 ^ shift → toward p c (low * d / 2 ^ shift) ≡ pull_along p c m by
unfolding pull_along
component-is p c low high shift m by d above between e f =
    let q : low * d / 2 ^ shift ≡ m * d * 2 ^ 50 / by = quotient-between low high (2 ^ shift) m d by (pow_pos shift) above between.0 between.1 f in
    rw (q, e) refl

-- the divisor of a pull is not 0
pub divisor-above : (r : ℕ) → 0 < r → 0 < r * root (r * 2 ^ 20)
divisor-above r h =
    let s : 1024 * 1 ≤ root (r * 2 ^ 20) = root-above r 1 (omega arith) in
    omega (arith, mul-le 1 1 r (root (r * 2 ^ 20)) h (omega arith))
