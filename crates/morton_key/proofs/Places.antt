-- Each body key is the key of a place.
use Rattle.std.proofs.Common.{ℕ, zero, suc, ◌≡◌, ◌+◌, ◌-◌, ◌*◌, ◌/◌, ◌%◌, ◌^◌, ◌<◌, ◌≤◌, sym, refl, ap, ◌∙◌, arith}
use Rattle.std.proofs.Math.Nat.{pow-succ', div-div-eq-div-mul}
use Rattle.hot_units.specs.Values.{Point}
use Rattle.hot_units.specs.Keys.{HasLevel, key_to}
use Rattle.hot_units.proofs.Digits.{key_to-low, key_to-high}
use Rattle.hot_model.proofs.Fronts.{drop_digits}
use Rattle.morton_key.specs.Ranges.{IsBodyKey, IsPlaceOf}
use Rattle.morton_key.specs.Laws as laws

-- the key of l digits made of numbers of l bits, from the lowest bit on
woven : ℕ → ℕ → ℕ → ℕ → ℕ
woven zero x y z = 1
woven (suc l) x y z = 8 * woven l (x / 2) (y / 2) (z / 2) + (4 * (x % 2) + 2 * (y % 2) + z % 2)

-- the highest bits of a coordinate
abbrev high : ℕ → ℕ → ℕ
high l x = x / 2 ^ (29 - l)

half : (l x : ℕ) → l < 29 → high (suc l) x / 2 ≡ high l x
half l x h =
    let s : 29 - l ≡ suc (29 - suc l) = omega arith in
    let e : 2 ^ (29 - suc l) * 2 ≡ 2 ^ (29 - l) = rw (s, pow-succ' 2 (29 - suc l)) (omega arith) in
    div-div-eq-div-mul x (2 ^ (29 - suc l)) 2 ∙ ap (λ (n : ℕ). x / n) e

key_is_woven : (l x y z : ℕ) → l ≤ 29 → key_to l x y z ≡ woven l (high l x) (high l y) (high l z)
unfolding key_to woven
key_is_woven zero x y z h = refl
key_is_woven (suc l) x y z h = rw (half l x h, half l y h, half l z h, key_is_woven l x y z (omega (arith, h))) refl

record IsWoven (l k : ℕ) : Type 0 where
  x : ℕ
  y : ℕ
  z : ℕ
  x_in : x < 2 ^ l
  y_in : y < 2 ^ l
  z_in : z < 2 ^ l
  key : woven l x y z ≡ k

every_key : (l k : ℕ) → HasLevel k l → IsWoven l k
unfolding woven
every_key zero k h = record { x = 0; y = 0; z = 0; x_in = omega arith; y_in = omega arith; z_in = omega arith; key = omega (arith, h.0, h.1) }
every_key (suc l) k h =
    let up = every_key l (k / 8) (drop_digits k l 1 (let s : l + 1 ≡ suc l = omega arith in rw s h)) in
    let d = k % 8 in
    let a : (2 * up.x + d / 4) / 2 ≡ up.x = omega arith in
    let b : (2 * up.y + d / 2 % 2) / 2 ≡ up.y = omega arith in
    let e : (2 * up.z + d % 2) / 2 ≡ up.z = omega arith in
    record {
      x = 2 * up.x + d / 4;
      y = 2 * up.y + d / 2 % 2;
      z = 2 * up.z + d % 2;
      x_in = rw (pow-succ' 2 l) (omega (arith, up.x_in));
      y_in = rw (pow-succ' 2 l) (omega (arith, up.y_in));
      z_in = rw (pow-succ' 2 l) (omega (arith, up.z_in));
      key = rw (a, b, e, up.key) (omega arith);
    }

place_of : (k : ℕ) → IsBodyKey k → (p : Point) × IsPlaceOf k p
place_of k h =
    let w = every_key 21 k h in
    let a : high 21 (w.x * 256) ≡ w.x = omega arith in
    let b : high 21 (w.y * 256) ≡ w.y = omega arith in
    let c : high 21 (w.z * 256) ≡ w.z = omega arith in (
      record { x = w.x * 256; y = w.y * 256; z = w.z * 256 },
      record {
        x_in = omega (arith, w.x_in);
        y_in = omega (arith, w.y_in);
        z_in = omega (arith, w.z_in);
        key = key_is_woven 21 (w.x * 256) (w.y * 256) (w.z * 256) (omega arith) ∙ rw (a, b, c) w.key;
      },
    )

key_of_place : (k : ℕ) → (p : Point) × IsPlaceOf k p → IsBodyKey k
key_of_place k q =
    let low = key_to-low 21 q.0.x q.0.y q.0.z in
    let top = key_to-high 21 q.0.x q.0.y q.0.z in
    rw (sym q.1.key) (low, top)

-- the body keys are the keys of the places in the cube
pub body_keys_are_of_places : laws.BodyKeysAreOfPlaces
body_keys_are_of_places k = (place_of k, key_of_place k)
