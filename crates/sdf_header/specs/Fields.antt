-- The struct of a header: its field lines and its stated size.
use Rattle.std.specs.Prelude.{ℕ, zero, suc, ◌+◌, ◌*◌, Bool, true, false, ◌&&◌, ◌||◌, List, [], ◌∷◌, ◌++◌, length, map, Option, Some, None, Result, Ok, Err, pos, negsuc, nat_le, nat_lt, ◌==◌, if◌then◌else◌}
use Rattle.std.specs.Str.{bytes_eq}
use Rattle.std.specs.Borrow.{Bor}
use Rattle.hot_units.specs.Limits.{max_columns, max_row_bytes}
use Rattle.sdf_tokens.specs.declared.fault.Fault.{Fault}
use Rattle.sdf_tokens.specs.declared.fault.FaultKind.TheVariants.{TooWide}
use Rattle.sdf_header.specs.declared.kind.Kind.{Kind}
use Rattle.sdf_header.specs.declared.document.Column as declared_column
use Rattle.sdf_header.specs.declared.document.Columns as declared_columns
use Rattle.sdf_header.specs.declared.document.Table as declared_table
use Rattle.sdf_header.specs.Limits.{max_array_length}
use Rattle.sdf_tokens.specs.Tokens.{Lexeme, Word, Number, Text, Sign, End, Lex, next, fault_at, syntax_at, ◌>>=◌, or_here}
use Rattle.sdf_header.specs.Types.{bytes_of}
use Rattle.sdf_header.specs.Parts.{name_twice_at, or_fault, is_the, sign_at, Name, named, word_at, size_at, type_at}

-- a column: its name, the type of its values, the bytes of a row before it, and whether it has a length
pub record Field : Type 0 where
  pub name : List ℕ
  pub kind : Kind
  pub offset : ℕ
  pub is_array : Bool

-- the fields so far, and the bytes that they take together
pub record Row : Type 0 where
  pub fields : List Field
  pub width : ℕ

-- the struct, with the stated number of rows
pub record Struct : Type 0 where
  pub row : Row
  pub size : Option ℕ

-- ---- how the code's values are seen

-- a column of the code
abbrev pub field_of : declared_column.Column → Field
field_of c = record { name = c.name.now; kind = c.kind; offset = c.offset; is_array = c.is_array }

-- the columns of the code
abbrev pub fields_of : List declared_column.Column → List Field
fields_of cs = map field_of cs

-- the columns of the code, with their width
abbrev pub row_of : declared_columns.Columns → Row
row_of c = record { fields = fields_of c.list.items; width = c.width }

-- the struct of the code
abbrev pub struct_of : declared_table.Table → Struct
struct_of t = record { row = row_of t.columns; size = t.size }

-- the struct of the code, and the text behind it
abbrev pub struct_and_rest : declared_table.Table × Bor (List ℕ) → Struct × List ℕ
struct_and_rest x = (struct_of x.0, x.1.now)

-- ---- items

-- the column whose name stands here is the 65th, or makes the row longer than 1,024 bytes
abbrev pub too_wide_at : List ℕ → Fault
too_wide_at = fault_at TooWide

-- a field of this name is there
abbrev pub has_field : List ℕ → List Field → Bool
has_field name [] = false
has_field name (f ∷ fs) = bytes_eq f.name name || has_field name fs

-- the row with one more field of so many values, unless that makes it too wide
unfoldable pub with_field : Row → Kind → Name → ℕ → Bool → Result Row Fault
with_field row kind n count is_array =
    if nat_lt max_row_bytes (row.width + bytes_of kind * count) then Err (too_wide_at n.start)
    else Ok (record {
      fields = row.fields ++ record { name = n.name; kind = kind; offset = row.width; is_array = is_array } ∷ [];
      width = row.width + bytes_of kind * count;
    })

-- a whole number of 1 to 1,024
abbrev pub length_of : Lexeme → Option ℕ
length_of (Number (Some (pos n))) = if nat_le 1 n && nat_le n max_array_length then Some n else None
length_of (Number (Some (negsuc n))) = None
length_of (Number None) = None
length_of (Word w) = None
length_of Text = None
length_of (Sign t) = None
length_of End = None

-- behind the opening bracket of an item: its length counts once it is read
unfoldable pub array_at : Row → Kind → Name → List ℕ → Result (Row × List ℕ) Fault
array_at row kind n bytes = do
  l ← next bytes
  count ← or_fault (syntax_at l.start) (length_of l.lexeme)
  wider ← with_field row kind n count true
  rest ← sign_at 93 l.rest
  Ok (wider, rest)

-- behind an opening bracket, if that is the next token
abbrev pub bracket_in : Result Lex Fault → Option (List ℕ)
bracket_in (Err f) = None
bracket_in (Ok l) = if is_the 91 l.lexeme then Some l.rest else None

-- an item is a new name, with a length or not; the 65th is refused at its name
unfoldable pub item_at : Row → Kind → List ℕ → Result (Row × List ℕ) Fault
item_at row kind bytes = do
  n ← word_at bytes
  if has_field n.name row.fields then Err (name_twice_at n.start)
      else if length row.fields == max_columns then Err (too_wide_at n.start)
      else or_here (bracket_in (next n.rest))
      (with_field row kind n 1 false >>= λ wider. Ok (wider, n.rest))
      (array_at row kind n)

-- items with commas between them, fewer than n, and the semicolon
unfoldable pub items_at : ℕ → Kind → Row → List ℕ → Result (Row × List ℕ) Fault
items_at zero kind row bytes = Ok (row, bytes)
items_at (suc n) kind row bytes = do
  one ← item_at row kind bytes
  l ← next one.1
  if is_the 59 l.lexeme then Ok (one.0, l.rest)
      else if is_the 44 l.lexeme then items_at n kind one.0 l.rest
      else Err (syntax_at l.start)

-- ---- field lines

-- the field line whose first token is l: a type, items, and the semicolon
unfoldable pub line_at : Row → Lex → Result (Row × List ℕ) Fault
line_at row l = do
  n ← named l
  kind ← type_at n
  items_at (suc (length kind.1)) kind.0 row kind.1

-- field lines, fewer than n, and the closing brace
unfoldable pub lines_at : ℕ → Row → List ℕ → Result (Row × List ℕ) Fault
lines_at zero row bytes = Ok (row, bytes)
lines_at (suc n) row bytes = do
  l ← next bytes
  if is_the 125 l.lexeme then Ok (row, l.rest) else (do
    one ← line_at row l
    lines_at n one.0 one.1)

-- the row before the first field
abbrev pub no_fields : Row
no_fields = record { fields = []; width = 0 }

-- behind the word `struct`: { fields } [ size ] ;
unfoldable pub struct_at : List ℕ → Result (Struct × List ℕ) Fault
struct_at bytes = do
  inside ← sign_at 123 bytes
  row ← lines_at (suc (length inside)) no_fields inside
  bracket ← sign_at 91 row.1
  size ← size_at bracket
  rest ← sign_at 59 size.1
  Ok (record { row = row.0; size = size.0 }, rest)
