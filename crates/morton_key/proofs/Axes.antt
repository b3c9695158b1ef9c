-- Cells as boxes: the corner by code, and the bodies of a box.
use Rattle.std.proofs.Common.{ℕ, zero, suc, ◌≡◌, ◌+◌, ◌-◌, ◌*◌, ◌/◌, ◌%◌, ◌^◌, ◌<◌, ◌≤◌, add-one, sym, refl, ap, ◌∙◌, arith}
use Rattle.std.proofs.Math.Nat.{pow-succ', div-div-eq-div-mul, pow-le-pow_right}
use Rattle.std.proofs.lemmas.Nat.{shl_whole, shl_below, pow_pos}
use Rattle.hot_units.specs.Keys.{IsCell, level, bit, bits_along, corner_along}
use Rattle.hot_units.proofs.Digits.{two_pow_three, level-le}
use Rattle.hot_model.proofs.Corners.{bits-small, x_within, y_within, z_within, box-contains}
use Rattle.morton_key.specs.Laws as laws

-- of no digits the bits along an axis make 0
pub bits-none : (k axis : ℕ) → 0 ≡ bits_along 0 k axis
unfolding bits_along
bits-none k axis = refl

-- of one digit more the bits are twice those of the digits before it, and its own
pub bits-more : (n k axis : ℕ) → bits_along (n + 1) k axis ≡ 2 * bits_along n (k / 8) axis + bit k axis
unfolding bits_along
bits-more n k axis = rw add-one refl

-- one more digit
pub bits-next : (key digits done axis : ℕ) → done < digits → 2 * bits_along done (key / 8 ^ (digits - done)) axis + key / 2 ^ (3 * (digits - 1 - done)) / 2 ^ axis % 2 ≡ bits_along (done + 1) (key / 8 ^ (digits - (done + 1))) axis
bits-next key digits done axis h =
    let s : digits - 1 - done ≡ digits - (done + 1) = omega arith in
    let t : digits - done ≡ suc (digits - (done + 1)) = omega arith in
    let p : 8 ^ suc (digits - (done + 1)) ≡ 8 ^ (digits - (done + 1)) * 8 = pow-succ' 8 (digits - (done + 1)) ∙ omega arith in
    rw (s, t, p, two_pow_three (digits - (done + 1)), ← div-div-eq-div-mul key (8 ^ (digits - (done + 1))) 8) (sym (bits-more done (key / 8 ^ (digits - (done + 1))) axis))

-- when all digits are done, none is dropped from the key
pub bits-all : (key digits axis : ℕ) → bits_along digits (key / 8 ^ (digits - digits)) axis ≡ bits_along digits key axis
bits-all key digits axis =
    let e : digits - digits ≡ 0 = omega arith in
    let f : key / 8 ^ 0 ≡ key = omega arith in
    rw (e, f) refl

-- the bits of at most 21 digits make a number below 2^21
pub bits-below : (n k axis : ℕ) → n ≤ 21 → bits_along n k axis < 2 ^ 21
bits-below n k axis h =
    let two : 0 < 2 = omega arith in
    let p : 2 ^ n ≤ 2 ^ 21 = pow-le-pow_right two h in
    omega (arith, p, bits-small n k axis)

-- of bits along an axis: those of none, of one more and of all, and how large they are
pub ruleset on_bits = (bits-none, bits-next, bits-all, bits-below, bits-small)

-- the corner by a shift
pub corner-shifted : (c axis d r : ℕ) → IsCell c → d ≡ level c → r ≡ bits_along d c axis → (r * 2 ^ (29 - d) % 2 ^ 32 ≡ corner_along c axis) × (r * 2 ^ (29 - d) % 2 ^ 32 < 2 ^ 29)
corner-shifted c axis d r i e f =
    let h : d ≤ 21 = omega (arith, e, level-le c i) in
    let b : r < 2 ^ d = rw f (bits-small d c axis) in
    let s : d + (29 - d) ≡ 29 = omega arith in
    let w : d + (29 - d) ≤ 32 = omega arith in
    let m : r * 2 ^ (29 - d) % 2 ^ 32 ≡ r * 2 ^ (29 - d) = shl_whole r d (29 - d) 32 b w in
    let k : r * 2 ^ (29 - d) < 2 ^ (d + (29 - d)) = shl_below r d (29 - d) b in
    let v : bits_along d c axis ≡ bits_along (level c) c axis = ap (λ (n : ℕ). bits_along n c axis) e in
    let u : 2 ^ (29 - d) ≡ 2 ^ (29 - level c) = ap (λ (n : ℕ). 2 ^ (29 - n)) e in
    let x : r * 2 ^ (29 - d) ≡ 2 ^ (29 - level c) * bits_along (level c) c axis = rw (u, f, v) (omega arith) in
    (m ∙ x, rw m (rw s at k))

-- a cell contains exactly the bodies in its box
pub box_of_a_cell : laws.BoxOfACell
box_of_a_cell c b i s = (
  λ e. (let x = x_within c b i s.x_in e in
      let y = y_within c b i s.y_in e in
      let z = z_within c b i s.z_in e in
      let p = pow_pos (29 - level c) in
      record {
        x_from = x.0;
        y_from = y.0;
        z_from = z.0;
        x_to = omega (arith, x.1, p);
        y_to = omega (arith, y.1, p);
        z_to = omega (arith, z.1, p);
      }),
  λ h. box-contains c b i s.x_in s.y_in s.z_in (h.x_from, omega (arith, h.x_to)) (h.y_from, omega (arith, h.y_to)) (h.z_from, omega (arith, h.z_to)),
)
