-- The number of a column in the bytes of a row.
use Rattle.std.specs.Prelude.{ℕ, ◌^◌, ◌-◌, List, drop, Option, Some, None, ℤ, pos, negsuc, ◌≤ℤ◌}
use Rattle.byteorder.specs.Endian.{little_number, big_number, twos_complement}
use Rattle.sdf_header.specs.declared.kind.Whole.{Whole}
use Rattle.sdf_header.specs.declared.kind.Whole.TheVariants.{I8, U8, I16, U16, I32, U32, I64, U64}
use Rattle.sdf_header.specs.declared.layout.Order.{Order}
use Rattle.sdf_header.specs.declared.layout.Order.TheVariants.{Least, Most}
use Rattle.sdf_header.specs.declared.layout.Col.{Col}
use Rattle.sdf_header.specs.Types.{whole_bytes}

-- the number of the first n bytes, in this order
abbrev pub number_of : Order → ℕ → List ℕ → ℕ
number_of Least n bytes = little_number n bytes
number_of Most n bytes = big_number n bytes

-- the value of a number of this type: signed ones are in two's complement
abbrev pub whole_value : Whole → ℕ → ℤ
whole_value I8 n = twos_complement 1 n
whole_value U8 n = pos n
whole_value I16 n = twos_complement 2 n
whole_value U16 n = pos n
whole_value I32 n = twos_complement 4 n
whole_value U32 n = pos n
whole_value I64 n = twos_complement 8 n
whole_value U64 n = pos n

-- the number of the column's bytes at its offset
abbrev pub column_value : Order → Col → List ℕ → ℤ
column_value order col row = whole_value col.kind (number_of order (whole_bytes col.kind) (drop col.offset row))

-- the column's number, or this one where there is no column
abbrev pub value_or : ℕ → Order → Option Col → List ℕ → ℤ
value_or default order None row = pos default
value_or default order (Some col) row = column_value order col row

-- the column's number, where there is a column
abbrev pub value_if_there : Order → Option Col → List ℕ → Option ℤ
value_if_there order None row = None
value_if_there order (Some col) row = Some (column_value order col row)

-- the number fits 64 bits, signed or unsigned
abbrev pub Is64Bits : ℤ → Type 0
Is64Bits z = (negsuc (2 ^ 63 - 1) ≤ℤ z) × (z ≤ℤ pos (2 ^ 64 - 1))

-- the number fits 64 bits, where there is one
abbrev pub Are64Bits : Option ℤ → Type 0
Are64Bits None = Unit {0}
Are64Bits (Some z) = Is64Bits z
