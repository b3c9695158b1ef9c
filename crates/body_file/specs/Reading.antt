-- What a reader of a body file keeps of the bytes that it was given.
use Rattle.std.specs.Prelude.{◌≡◌, ℕ, ◌+◌, ◌-◌, ◌*◌, ◌≤◌, ◌<◌, Bool, true, false, List, ◌++◌, length, None, Some, Option, Result, Ok, Err, All, sum_by}
use Rattle.sdf_header.specs.Layouts.{LayoutValue, IsLayout}
use Rattle.sdf_header.specs.Extent.{Ends, Open, extent}
use Rattle.sdf_header.specs.Verdict.{verdict}
use Rattle.hot_units.specs.declared.raw_row.RawRow.{RawRow}
use Rattle.sdf_rows.specs.Columns.{Is64Bits}
use Rattle.sdf_rows.specs.Reading.{RowsValue, IsBehind}
use Rattle.hot_io.specs.Reading.{Reading, ended, taken, has_ended, has_failed}
use Rattle.body_set.specs.Sets.{SetValue, with_row}
use Rattle.body_file.specs.declared.fault.FileError.{FileError}
use Rattle.body_file.specs.declared.fault.FileError.TheVariants.{Broken, Refused, Memory}
use Rattle.body_file.specs.declared.reader.BodyReader.{BodyReader}
use Rattle.body_file.specs.declared.reader.BodyReader.TheVariants as stage
use Rattle.hot_units.specs.Limits.{max_bodies, max_header_bytes, max_row_bytes}
use Rattle.body_file.specs.Faults.{row_fault, rows_fault, differs, set_before, decided_behind, Decides}
use Rattle.body_file.specs.Files.{with_file, set_behind, set_of_files, Is64BitVelocity, fault_of, piece_bytes, but_a_piece}
use Rattle.hot_io.specs.declared.outside.Source as sources
use Rattle.body_file.specs.Sources.{HasGiven}

-- what holds of the set of the files before: it is no larger than a set may be, and its idents and velocities fit 64 bits
pub record IsSetBefore (set : SetValue) : Type 0 where
  pub few : length set.bodies ≤ max_bodies
  pub named : All Is64Bits set.idents
  pub slow : All Is64BitVelocity set.velocities

-- so it stands with the files before, where there are any
abbrev pub AreBefore : Option SetValue → Type 0
AreBefore None = Unit {0}
AreBefore (Some set) = IsSetBefore set

-- how many bodies the files before have
abbrev pub count_of : Option SetValue → ℕ
count_of None = 0
count_of (Some set) = length set.bodies

-- so many bytes of a file always decide a fault, behind so many bodies
abbrev pub file_limit : ℕ → ℕ
file_limit count = max_header_bytes + (max_bodies + 1 - count) * max_row_bytes

-- a row was added, or refused for its fault
abbrev pub PushesRow : SetValue → SetValue → RawRow → Result (Unit {0}) FileError → Type 0
PushesRow old new raw (Ok done) = (row_fault old.cube old.bodies raw ≡ None) × (new ≡ with_row old raw)
PushesRow old new raw (Err (Refused fault)) = row_fault old.cube old.bodies raw ≡ Some fault
PushesRow old new raw (Err Memory) = Unit {0}
PushesRow old new raw (Err Broken) = ⊥

-- the reader of rows and the set were given these bytes behind a header of this layout and the rows of this set; they
-- decide no fault, and each ident and velocity fits 64 bits
pub record IsAt (before : SetValue) (l : LayoutValue) (r : RowsValue) (set : SetValue) (bytes : List ℕ) : Type 0 where
  pub layout : r.layout ≡ l
  pub first : r.first ≡ length before.bodies
  pub sound : IsLayout l
  pub few : length before.bodies ≤ max_bodies
  pub behind : IsBehind r bytes
  pub bodies : set ≡ with_file before l bytes
  pub good : rows_fault before false l bytes ≡ None
  pub named : All Is64Bits set.idents
  pub slow : All Is64BitVelocity set.velocities

-- why the rows stop at these bytes
abbrev pub StopsRows : SetValue → LayoutValue → List ℕ → FileError → Type 0
StopsRows before l bytes (Refused fault) = (more : List ℕ) (ended : Bool) → rows_fault before ended l (bytes ++ more) ≡ Some fault
StopsRows before l bytes Memory = Unit {0}
StopsRows before l bytes Broken = ⊥

-- the header ends with these bytes, whatever follows, and its verdict is the same
abbrev pub IsWholeHeader : ℕ → List ℕ → Type 0
IsWholeHeader text bytes = (more : List ℕ) → (extent (bytes ++ more) ≡ Ends text (length bytes)) × (verdict (bytes ++ more) ≡ verdict bytes)

-- the bytes are a whole header of this layout
pub record IsHeader (l : LayoutValue) (bytes : List ℕ) : Type 0 where
  pub text : ℕ
  pub whole : IsWholeHeader text bytes
  pub gives : verdict bytes ≡ Ok l
  pub len : l.header_len ≡ length bytes

-- the bytes are a header, whose cube is that of the files before, and rows
pub record IsBehindHeader (before : Option SetValue) (r : RowsValue) (set : SetValue) (bytes : List ℕ) : Type 0 where
  pub layout : LayoutValue
  pub front : List ℕ
  pub body : List ℕ
  pub all : bytes ≡ front ++ body
  pub header : IsHeader layout front
  pub same : differs before layout.cube ≡ false
  pub rows : IsAt (set_before before layout.cube) layout r set body

-- the reader follows these files, and was given these bytes, which decide no fault
abbrev pub HasTaken : Option SetValue → BodyReader → List ℕ → Type 0
HasTaken before (stage.Header header set) bytes = (header ≡ bytes) × (set ≡ before) × (extent bytes ≡ Open)
HasTaken before (stage.Rows rows set) bytes = IsBehindHeader before rows set bytes

-- why the reading stops at these bytes
abbrev pub Stops : Option SetValue → Bool → List ℕ → FileError → Type 0
Stops before at_end bytes (Refused fault) = Decides before at_end bytes fault
Stops before at_end bytes Memory = Unit {0}
Stops before at_end bytes Broken = ⊥

-- a file behind those before has no fault, this is the set with its bodies, and so many bytes are in it at most
pub record HasFile (before : Option SetValue) (bytes : List ℕ) (set : SetValue) : Type 0 where
  pub good : decided_behind before true bytes ≡ None
  pub are : set_behind before bytes ≡ Some set
  pub after : IsSetBefore set
  pub more : count_of before ≤ length set.bodies
  pub short : length bytes ≤ max_header_bytes + (length set.bodies - count_of before) * max_row_bytes

-- the file was read to its end
pub record ReadsFile (before : Option SetValue) (input : Reading) (set : SetValue) : Type 0 where
  pub bytes : List ℕ
  pub all : input ≡ ended bytes
  pub has : HasFile before bytes set

-- the bytes of the file, without the last piece of them, decide no fault, and they are few
pub record IsPromptBehind (before : Option SetValue) (input : Reading) : Type 0 where
  pub early : decided_behind before false (but_a_piece (taken input)) ≡ None
  pub few : length (taken input) < file_limit (count_of before) + piece_bytes

-- why a file was not read
abbrev pub StopsFile : Option SetValue → Reading → FileError → Type 0
StopsFile before input Broken = (has_failed input ≡ true) × (decided_behind before false (taken input) ≡ None)
StopsFile before input (Refused fault) = (has_failed input ≡ false) × Decides before (has_ended input) (taken input) fault
StopsFile before input Memory = has_failed input ≡ false

-- these whole files have the first names and were read one after another, they have no fault, this is their set, and so
-- many bytes are in them at most
pub record AreRead {S : Type 0} (s : sources.Ghosts S) (names whole : List (List ℕ)) (old new : S) (set : Option SetValue) : Type 0 where
  pub given : HasGiven s names whole old new
  pub good : fault_of whole ≡ None
  pub are : set_of_files None whole ≡ set
  pub before : AreBefore set
  pub short : sum_by (λ file. length file) whole ≤ length whole * max_header_bytes + count_of set * max_row_bytes

-- how many bytes of the file the reader was given
abbrev pub given_to : BodyReader → ℕ
given_to (stage.Header header set) = length header
given_to (stage.Rows rows set) = rows.layout.header_len + rows.given * rows.layout.width + length rows.held
