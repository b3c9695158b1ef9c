-- What the reader of rows keeps of the bytes that it was given, and answers to a piece.
use Rattle.std.specs.Prelude.{◌≡◌, ℕ, ◌-◌, ◌*◌, ◌/◌, Bool, false, List, [], ◌∷◌, ◌++◌, length, take, drop, Option, Some, None, Result, Ok, Err, nat_le, nat_lt, if◌then◌else◌}
use Rattle.sdf_header.specs.Layouts.{LayoutValue}
use Rattle.hot_units.specs.declared.raw_row.RawRow.{RawRow}
use Rattle.sdf_rows.specs.declared.raw_row.RowFault.{RowFault}
use Rattle.sdf_rows.specs.declared.raw_row.RowFault.TheVariants.{Trailing}
use Rattle.sdf_rows.specs.declared.raw_row.RowStep.{RowStep}
use Rattle.sdf_rows.specs.Rows.{row_number, row_from, rows_in, is_beyond_at}

-- the layout, the number of the first row, how many rows were given, the bytes of the row that is not whole, and
-- whether a byte came behind the last row
pub record RowsValue : Type 0 where
  pub layout : LayoutValue
  pub first : ℕ
  pub given : ℕ
  pub held : List ℕ
  pub beyond : Bool

-- all stated rows are there in so many bytes
abbrev pub is_full_at : Option ℕ → ℕ → ℕ → Bool
is_full_at None width len = false
is_full_at (Some n) width len = nat_le n (len / width)

-- all stated rows are there in these bytes
abbrev pub is_full : LayoutValue → List ℕ → Bool
is_full l bytes = is_full_at l.count l.width (length bytes)

-- the bytes behind the last whole row
abbrev pub part_behind : LayoutValue → List ℕ → List ℕ
part_behind l bytes = drop (length bytes / l.width * l.width) bytes

-- what a reader of this layout keeps that was given these bytes, and numbers its rows from `first` on
abbrev pub reader_from : LayoutValue → ℕ → List ℕ → RowsValue
reader_from l first bytes = record {
  layout = l;
  first = first;
  given = row_number (rows_in l (length bytes));
  held = if is_full l bytes then [] else part_behind l bytes;
  beyond = is_beyond_at l.count l.width (length bytes);
}

-- the same, where it numbers them from 0 on
abbrev pub reader_behind : LayoutValue → List ℕ → RowsValue
reader_behind l bytes = reader_from l 0 bytes

-- the reader was given these bytes, in any pieces
abbrev pub IsBehind : RowsValue → List ℕ → Type 0
IsBehind r bytes = r ≡ reader_from r.layout r.first bytes

-- how many bytes the row still wants that is not whole
abbrev pub wanted : LayoutValue → List ℕ → ℕ
wanted l bytes = l.width - length (part_behind l bytes)

-- the answer to a piece that comes behind these bytes, where rows are numbered from `first` on
abbrev pub answer_from : LayoutValue → ℕ → List ℕ → List ℕ → Result RowStep RowFault
answer_from l first bytes piece =
    if is_full l bytes then Err Trailing
    else if nat_lt (length piece) (wanted l bytes) then Ok (record { taken = length piece; row = None })
    else Ok (record { taken = wanted l bytes; row = Some (row_from l first (bytes ++ piece) (length bytes / l.width)) })

-- the same, where they are numbered from 0 on
abbrev pub answer_to : LayoutValue → List ℕ → List ℕ → Result RowStep RowFault
answer_to l bytes piece = answer_from l 0 bytes piece

-- the bytes of the piece that were read: those taken, or at a fault all
abbrev pub read_of : Result RowStep RowFault → List ℕ → List ℕ
read_of (Ok step) piece = take step.taken piece
read_of (Err f) piece = piece

-- a list of this row, or of none
abbrev pub row_list : Option RawRow → List RawRow
row_list None = []
row_list (Some row) = row ∷ []

-- the rows that this answer gives
abbrev pub given_by : Result RowStep RowFault → List RawRow
given_by (Ok step) = row_list step.row
given_by (Err f) = []
