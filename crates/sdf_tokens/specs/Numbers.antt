-- The numbers of a text. Each function takes the text from a place on, and gives what stands there and the
-- text behind it, or None where no good number stands there.
use Rattle.std.specs.Prelude.{ℕ, ◌^◌, Bool, true, false, not, ◌&&◌, ◌||◌, List, [], ◌∷◌, length, take, drop, Option, Some, None, option_and_then, ℤ, pos, neg_ℤ, nat_lt, ◌==◌, if◌then◌else◌}
use Rattle.std.specs.List.{prefix_len}
use Rattle.std.specs.Char.{is_ascii_digit, is_ascii_hexdigit, is_ascii_alphanumeric}
use Rattle.std.specs.Str.Parse.{digits_value}
use Rattle.std.specs.Borrow.{Bor}
use Rattle.sdf_tokens.specs.declared.number.Class.{Class}
use Rattle.sdf_tokens.specs.declared.number.Class.TheVariants.{Digit, HexDigit, Word, Line, Text}

-- what a step finds is handed to the next step
infixl 10 ◌>>=◌
abbrev pub ◌>>=◌ : {A B : Type 0} → Option A → (A → Option B) → Option B
o >>= f = option_and_then f o

-- the first byte is this one
abbrev pub begins_with : ℕ → List ℕ → Bool
begins_with b [] = false
begins_with b (c ∷ bytes) = c == b

-- a letter, a digit or _
abbrev pub goes_on_word : ℕ → Bool
goes_on_word b = is_ascii_alphanumeric b || b == 95

-- all bytes but the newline
abbrev pub in_line : ℕ → Bool
in_line b = not (b == 10)

-- all bytes but the quote
abbrev pub in_text : ℕ → Bool
in_text b = not (b == 34)

-- the bytes at the front that pass, and those behind them
abbrev pub run : (ℕ → Bool) → List ℕ → List ℕ × List ℕ
run p bytes = (take (prefix_len p bytes) bytes, drop (prefix_len p bytes) bytes)

-- the number that digits spell, below 2^64
unfoldable pub magnitude : ℕ → List ℕ → Option ℕ
magnitude radix ds = if nat_lt (digits_value radix ds) (2 ^ 64) then Some (digits_value radix ds) else None

-- no byte is there
abbrev pub is_empty : List ℕ → Bool
is_empty bytes = length bytes == 0

-- one or more hexadecimal digits
unfoldable pub hexadecimal : List ℕ → Option (Option ℕ × List ℕ)
hexadecimal bytes = do
  let parts = run is_ascii_hexdigit bytes
  value ← magnitude 16 parts.0
  if is_empty parts.0 then None else Some (Some value, parts.1)

-- behind a sign, if there is one
abbrev pub behind_sign : List ℕ → List ℕ
behind_sign bytes = if begins_with 43 bytes || begins_with 45 bytes then drop 1 bytes else bytes

-- behind an exponent, if there is one
unfoldable pub behind_exponent : List ℕ → Option (List ℕ)
behind_exponent bytes =
    if begins_with 101 bytes || begins_with 69 bytes
    then (let parts = run is_ascii_digit (behind_sign (drop 1 bytes)) in if is_empty parts.0 then None else Some parts.1)
    else Some bytes

-- digits, and a dot with the digits behind it if there is one: at least one digit
unfoldable pub behind_mantissa : List ℕ → Option (List ℕ)
behind_mantissa bytes =
    let front = run is_ascii_digit bytes in
    if begins_with 46 front.1
    then (let back = run is_ascii_digit (drop 1 front.1) in if is_empty front.0 && is_empty back.0 then None else Some back.1)
    else if is_empty front.0 then None else Some front.1

-- behind its digits a number goes on with a dot or an exponent
abbrev pub is_fraction : List ℕ → Bool
is_fraction bytes = begins_with 46 bytes || begins_with 101 bytes || begins_with 69 bytes

-- a decimal number: its value is kept where nothing but digits stands there
unfoldable pub decimal : List ℕ → Option (Option ℕ × List ℕ)
decimal bytes = do
  after ← behind_mantissa bytes
  rest ← behind_exponent after
  if is_fraction (run is_ascii_digit bytes).1
      then Some (None, rest)
      else (magnitude 10 (run is_ascii_digit bytes).0 >>= λ value. Some (Some value, rest))

-- it begins with 0x or 0X
abbrev pub is_hexadecimal : List ℕ → Bool
is_hexadecimal bytes = begins_with 48 bytes && (begins_with 120 (drop 1 bytes) || begins_with 88 (drop 1 bytes))

-- what no number is followed by directly
abbrev pub goes_on_number : List ℕ → Bool
goes_on_number [] = false
goes_on_number (b ∷ bytes) = goes_on_word b || b == 46

-- the value with its sign: not below -2^63
unfoldable pub with_sign : Bool → Option ℕ → Option (Option ℤ)
with_sign negative None = Some None
with_sign true (Some n) = if nat_lt (2 ^ 63) n then None else Some (Some (neg_ℤ (pos n)))
with_sign false (Some n) = Some (Some (pos n))

-- a number that has no sign
abbrev pub unsigned : List ℕ → Option (Option ℕ × List ℕ)
unsigned bytes = if is_hexadecimal bytes then hexadecimal (drop 2 bytes) else decimal bytes

-- a number, with its value where it is whole, and what is behind it
unfoldable pub number : List ℕ → Option (Option ℤ × List ℕ)
number bytes = do
  size ← unsigned (behind_sign bytes)
  value ← with_sign (begins_with 45 bytes) size.0
  if goes_on_number size.1 then None else Some (value, size.1)

-- ---- how the code's values are seen

-- the bytes of a class
abbrev pub passes : Class → ℕ → Bool
passes Digit b = is_ascii_digit b
passes HexDigit b = is_ascii_hexdigit b
passes Word b = goes_on_word b
passes Line b = in_line b
passes Text b = in_text b

-- the text behind what was found
abbrev pub sees_rest : Option (Bor (List ℕ)) → Option (List ℕ)
sees_rest None = None
sees_rest (Some rest) = Some rest.now

-- what was found, and the text behind it
abbrev pub sees : {A : Type 0} → Option (A × Bor (List ℕ)) → Option (A × List ℕ)
sees None = None
sees (Some x) = Some (x.0, x.1.now)
