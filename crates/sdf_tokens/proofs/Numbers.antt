-- The value of digits, as far as it is below 2^64.
use Rattle.std.proofs.Common.{◌≡◌, ℕ, ◌+◌, ◌*◌, ◌^◌, ◌<◌, ◌≤◌, Some, None, List, length, get_or, take, refl, arith}
use Rattle.std.specs.Str.Parse.{digits_value}
use Rattle.std.specs.Char.{digit_value}
use Rattle.std.proofs.lemmas.Bool.{le-ltb, lt-ltb}
use Rattle.std.proofs.lemmas.Int.Digits.{digits_value_more}
use Rattle.std.proofs.lemmas.Str.Parse.{digits_value-take-le}
use Rattle.sdf_tokens.specs.Numbers.{magnitude}

-- digits whose front is too large are no number
pub too_large : (radix : ℕ) (ds : List ℕ) (i : ℕ) → 1 ≤ radix → 2 ^ 64 ≤ digits_value radix (take i ds) → magnitude radix ds ≡ None
unfolding magnitude
too_large radix ds i some h =
    let over : 2 ^ 64 ≤ digits_value radix ds = omega (arith, digits_value-take-le radix ds i some) in
    rw (le-ltb _ _ over) refl

-- digits whose value is small enough are that number
pub fits : (radix : ℕ) (ds : List ℕ) (v : ℕ) → v < 2 ^ 64 → v ≡ digits_value radix ds → magnitude radix ds ≡ Some v
unfolding magnitude
fits radix ds v lt e = rw (← e, lt-ltb v (2 ^ 64) lt) refl

-- one digit more
pub step : (radix : ℕ) (ds : List ℕ) (i v r d : ℕ) → i < length ds → v ≡ digits_value radix (take i ds) → r ≡ radix → d ≡ digit_value (get_or ds i 0) → v * r + d ≡ digits_value radix (take (i + 1) ds)
step radix ds i v r d lt e er ed = rw (digits_value_more radix ds i lt, e, er, ed) refl
