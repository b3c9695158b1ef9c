-- Coordinates of a file in fine units.
use Rattle.std.proofs.Common.{ℕ, ◌≡◌, ◌+◌, ◌-◌, ◌*◌, ◌%◌, ◌^◌, ◌<◌, ◌≤◌, ℤ, ◌-ℤ◌, ◌≤ℤ◌, true, arith, refl}
use Rattle.std.specs.Prelude.{unsigned_abs}
use Rattle.std.proofs.lemmas.Int.{ints}
use Rattle.std.proofs.lemmas.Nat.{shl_below, one_shl}
use Rattle.body_set.specs.Rows.{is_inside, fine}

-- a coordinate above the corner by less than the edge of the cube is in the cube
pub near_is_inside : (bits : ℕ) (corner at : ℤ) (above : ℕ) → corner ≤ℤ at → above ≡ unsigned_abs (at -ℤ corner) → above < 2 ^ bits → is_inside bits corner at ≡ true
near_is_inside bits corner at above h e p = grind (arith, ints)

-- a distance below the edge of the cube is below 2^29 in fine units
pub scaled_within : (bits above : ℕ) → bits ≤ 29 → above < 2 ^ bits → above * 2 ^ (29 - bits) < 2 ^ 29
scaled_within bits above h p =
    let s : bits + (29 - bits) ≡ 29 = omega arith in
    let q = shl_below above bits (29 - bits) p in
    rw s at q

-- such a distance, scaled within 32 bits, is the coordinate in fine units
pub scaled_is : (bits : ℕ) (corner at : ℤ) (above : ℕ) → bits ≤ 29 → above ≡ unsigned_abs (at -ℤ corner) → above < 2 ^ bits → above * 2 ^ (29 - bits) % 2 ^ 32 ≡ fine bits corner at
scaled_is bits corner at above h e p =
    let q = scaled_within bits above h p in
    let r : above * 2 ^ (29 - bits) % 2 ^ 32 ≡ above * 2 ^ (29 - bits) = omega (arith, q) in
    rw (r, e) refl

-- such a distance, scaled within 32 bits, is below 2^29
pub scaled_small : (bits above : ℕ) → bits ≤ 29 → above < 2 ^ bits → above * 2 ^ (29 - bits) % 2 ^ 32 < 2 ^ 29
scaled_small bits above h p =
    let q = scaled_within bits above h p in
    let r : above * 2 ^ (29 - bits) % 2 ^ 32 ≡ above * 2 ^ (29 - bits) = omega (arith, q) in
    rw r q

-- a distance below 1 shifted within 128 bits is below the edge
pub one_shifted : (bits above : ℕ) → bits ≤ 29 → above < 1 * 2 ^ bits % 2 ^ 128 → above < 2 ^ bits
one_shifted bits above h p = rw (one_shl bits 128 (omega arith)) at p
