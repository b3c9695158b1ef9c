-- Numbers as bytes, the least first, and back.
use Rattle.std.proofs.Common.{◌≡◌, ℕ, suc, ◌-◌, ◌^◌, ◌<◌, ◌≤◌, List, ◌++◌, ℤ, pos, negsuc, refl, arith}
use Rattle.std.proofs.lemmas.Bool.{lt-ltb, le-ltb}
use Rattle.std.proofs.lemmas.Int.{ints}
use Rattle.byteorder.specs.Endian.{little_bytes, little_number, twos_complement}
use Rattle.byteorder.specs.Numbers.{little_number-reads_back}
use Rattle.state_file.specs.Texts.{bits_of, IsSigned, IsUnsigned}

-- the bytes of a number that fits them are read back
pub number-back : (k n : ℕ) (rest : List ℕ) → n < 256 ^ k → little_number k (little_bytes k n ++ rest) ≡ n
number-back k n rest h = little_number-reads_back k n rest h

-- a signed number of 8 bytes fits them
pub bits-below : (z : ℤ) → IsSigned z → bits_of z < 256 ^ 8
bits-below (pos n) h = let a = h.1 in omega (arith, ints)
bits-below (negsuc n) h = let a = h.0 in omega (arith, ints)

-- a signed number of 8 bytes is read back
pub signed-back : (z : ℤ) → IsSigned z → twos_complement 8 (bits_of z) ≡ z
signed-back (pos n) h = let a = h.1 in let lt : n < 2 ^ 63 = omega (arith, ints) in rw (lt-ltb n (2 ^ 63) lt) refl
signed-back (negsuc n) h =
    let a = h.0 in
    let lt : n < 2 ^ 63 = omega (arith, ints) in
    let high : 2 ^ 63 ≤ 2 ^ 64 - suc n = omega arith in
    rw (le-ltb (2 ^ 64 - suc n) (2 ^ 63) high) (omega (arith, ints))

-- an unsigned number of 8 bytes fits them
pub unsigned-below : (z : ℤ) → IsUnsigned z → bits_of z < 256 ^ 8
unsigned-below (pos n) h = let a = h.1 in omega (arith, ints)
unsigned-below (negsuc n) h = let a = h.0 in absurd (omega (arith, ints))

-- an unsigned number of 8 bytes is read back
pub unsigned-back : (z : ℤ) → IsUnsigned z → pos (bits_of z) ≡ z
unsigned-back (pos n) h = refl
unsigned-back (negsuc n) h = let a = h.0 in absurd (omega (arith, ints))

-- a number below 2^31 is read back from 4 signed bytes
pub small-back : (n : ℕ) → n < 2 ^ 31 → twos_complement 4 n ≡ pos n
small-back n h = rw (lt-ltb n (2 ^ 31) h) refl
