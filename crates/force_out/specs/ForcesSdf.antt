-- Forces as SDF: a header, and a row of eight columns for each body.
use Rattle.std.specs.Prelude.{◌≡◌, ◌<◌, ◌^◌, ◌+ℤ◌, ◌*ℤ◌, ℕ, ℤ, pos, List, [], ◌∷◌, ◌++◌, length, flat_map, codes, decimal, unsigned_abs}
use Rattle.std.specs.List.{zip}
use Rattle.std.specs.Int.{w64, cast_unsigned, int_div_euclid, int_rem_euclid}
use Rattle.byteorder.specs.Endian.{little_bytes}
use Rattle.hot_units.specs.Values.{Acc3Value}

-- two columns hold a value: it is hi * 2^64 + lo, and lo is below 2^64
pub record AreHalves (value hi : ℤ) (lo : ℕ) : Type 0 where
  pub joined : value ≡ (hi *ℤ pos (2 ^ 64)) +ℤ pos lo
  pub below : lo < 2 ^ 64

-- the high half of a value: the floor of the value over 2^64
abbrev pub high_half : ℤ → ℤ
high_half value = int_div_euclid value (pos (2 ^ 64))

-- the low half: what is left of it
abbrev pub low_half : ℤ → ℕ
low_half value = unsigned_abs (int_rem_euclid value (pos (2 ^ 64)))

-- the two columns of a value, as numbers of 64 bits: its high half in two's complement, and its low half
abbrev pub columns : ℤ → List ℕ
columns value = cast_unsigned w64 (high_half value) ∷ low_half value ∷ []

-- what a row tells of a body: its ident, and the three components of the force on it
abbrev pub body_values : ℤ × Acc3Value → List ℤ
body_values p = p.0 ∷ p.1.ax ∷ p.1.ay ∷ p.1.az ∷ []

-- the row of a body: eight columns of eight bytes, the least significant byte first
abbrev pub body_row : ℤ × Acc3Value → List ℕ
body_row p = flat_map (little_bytes 8) (flat_map columns (body_values p))

-- the rows of the bodies, in their order
abbrev pub body_rows : List ℤ → List Acc3Value → List ℕ
body_rows idents forces = flat_map body_row (zip idents forces)

-- the header up to the number of rows: the order of the bytes, and the columns
abbrev pub header_front : List ℕ
header_front =
    codes "# SDF\nparameter byteorder = 0x78563412;\nstruct {\n  int64_t ident_hi;\n  uint64_t ident_lo;\n  int64_t ax_hi;\n  uint64_t ax_lo;\n  int64_t ay_hi;\n  uint64_t ay_lo;\n  int64_t az_hi;\n  uint64_t az_lo;\n}["

-- the header behind it
abbrev pub header_end : List ℕ
header_end = codes "];\n# SDF-EOH\n"

-- the header says how many bodies there are
abbrev pub header : ℕ → List ℕ
header count = header_front ++ (decimal count ++ header_end)

-- the file of the forces on bodies with these idents
abbrev pub forces_sdf : List ℤ → List Acc3Value → List ℕ
forces_sdf idents forces = header (length forces) ++ body_rows idents forces
