-- The rows of a list of bytes, and how they end.
use Rattle.std.specs.Prelude.{ℕ, zero, suc, ◌+◌, ◌*◌, ◌/◌, ◌-◌, ◌^◌, Bool, false, List, [], ◌∷◌, ◌++◌, length, take, drop, min, Option, Some, None, Result, Ok, Err, nat_lt, if◌then◌else◌}
use Rattle.sdf_header.specs.Layouts.{LayoutValue}
use Rattle.hot_units.specs.declared.raw_row.RawRow.{RawRow}
use Rattle.sdf_rows.specs.declared.raw_row.RowFault.{RowFault}
use Rattle.sdf_rows.specs.declared.raw_row.RowFault.TheVariants.{Truncated, Trailing}
use Rattle.sdf_rows.specs.Columns.{column_value, value_or, value_if_there, Is64Bits, Are64Bits}

-- the row of this number in its bytes
abbrev pub row_of : LayoutValue → ℕ → List ℕ → RawRow
row_of l number row = record {
  x = column_value l.order l.x row;
  y = column_value l.order l.y row;
  z = column_value l.order l.z row;
  mass = value_or l.mass_default l.order l.mass row;
  ident = value_or number l.order l.ident row;
  work = value_or 1 l.order l.work row;
  vx = value_if_there l.order l.vx row;
  vy = value_if_there l.order l.vy row;
  vz = value_if_there l.order l.vz row;
}

-- each number of the row fits 64 bits, signed or unsigned
pub record Has64Bits (row : RawRow) : Type 0 where
  pub x : Is64Bits row.x
  pub y : Is64Bits row.y
  pub z : Is64Bits row.z
  pub mass : Is64Bits row.mass
  pub ident : Is64Bits row.ident
  pub work : Is64Bits row.work
  pub vx : Are64Bits row.vx
  pub vy : Are64Bits row.vy
  pub vz : Are64Bits row.vz

-- a count of rows as a number of 64 bits, at whose end it stands still
abbrev pub row_number : ℕ → ℕ
row_number k = min k (2 ^ 64 - 1)

-- the bytes of row k: those of a row's width at its place
abbrev pub row_bytes : LayoutValue → List ℕ → ℕ → List ℕ
row_bytes l bytes k = take l.width (drop (k * l.width) bytes)

-- row k, where rows are numbered from `first` on
abbrev pub row_from : LayoutValue → ℕ → List ℕ → ℕ → RawRow
row_from l first bytes k = row_of l (row_number (first + k)) (row_bytes l bytes k)

-- the first n rows, where they are numbered from `first` on
abbrev pub first_rows_from : LayoutValue → ℕ → List ℕ → ℕ → List RawRow
first_rows_from l first bytes zero = []
first_rows_from l first bytes (suc n) = first_rows_from l first bytes n ++ row_from l first bytes n ∷ []

-- at most the stated number, where one is stated
abbrev pub at_most : Option ℕ → ℕ → ℕ
at_most None k = k
at_most (Some n) k = min n k

-- how many rows are whole in so many bytes, and within the stated number
abbrev pub rows_in : LayoutValue → ℕ → ℕ
rows_in l len = at_most l.count (len / l.width)

-- the whole rows, in order, numbered from `first` on
abbrev pub rows_from : LayoutValue → ℕ → List ℕ → List RawRow
rows_from l first bytes = first_rows_from l first bytes (rows_in l (length bytes))

-- so many bytes end within a row, or before the stated number of rows is reached
abbrev pub is_cut_at : Option ℕ → ℕ → ℕ → Bool
is_cut_at None width len = nat_lt (len / width * width) len
is_cut_at (Some n) width len = nat_lt len (n * width)

-- a byte of so many lies behind the last of a stated number of rows
abbrev pub is_beyond_at : Option ℕ → ℕ → ℕ → Bool
is_beyond_at None width len = false
is_beyond_at (Some n) width len = nat_lt (n * width) len

-- how an input ends whose rows are these bytes, numbered from `first` on: with a row that is cut short, with bytes too
-- many, or with how many rows it has
abbrev pub ending_from : LayoutValue → ℕ → List ℕ → Result ℕ RowFault
ending_from l first bytes =
    let k = length bytes / l.width in
    if is_cut_at l.count l.width (length bytes) then Err (Truncated (row_number (first + k)))
    else if is_beyond_at l.count l.width (length bytes) then Err Trailing
    else Ok (row_number k)

-- ---- rows that are numbered from 0 on

-- row k
abbrev pub row_at : LayoutValue → List ℕ → ℕ → RawRow
row_at l bytes k = row_from l 0 bytes k

-- the first n rows
abbrev pub first_rows : LayoutValue → List ℕ → ℕ → List RawRow
first_rows l bytes n = first_rows_from l 0 bytes n

-- the whole rows, in order
abbrev pub rows : LayoutValue → List ℕ → List RawRow
rows l bytes = rows_from l 0 bytes

-- how an input ends whose rows are these bytes
abbrev pub ending : LayoutValue → List ℕ → Result ℕ RowFault
ending l bytes = ending_from l 0 bytes
