-- What a list of body files holds, and how far one is read.
use Rattle.std.specs.Prelude.{◌≡◌, ℕ, suc, ◌+◌, ◌*◌, ◌-◌, ◌<◌, true, false, List, [], ◌∷◌, ◌++◌, length, take, drop, sum_by, Option, Some, None, Result, Ok, Err}
use Rattle.hot_units.specs.Limits.{max_header_bytes, max_bodies, max_row_bytes, max_files}
use Rattle.hot_units.specs.Values.{Vector}
use Rattle.hot_io.specs.Reading.{Reading, unread, unopened, unfinished, ended, broken, taken, has_failed}
use Rattle.sdf_header.specs.declared.header_fault.HeaderFault.{HeaderFault}
use Rattle.sdf_header.specs.Layouts.{LayoutValue}
use Rattle.sdf_header.specs.Verdict.{verdict}
use Rattle.sdf_rows.specs.Columns.{Is64Bits}
use Rattle.sdf_rows.specs.Rows.{rows_from}
use Rattle.body_set.specs.Sets.{SetValue, with_rows}
use Rattle.body_file.specs.declared.fault.FileFault.{FileFault}
use Rattle.body_file.specs.declared.fault.FoundFault.{FoundFault}
use Rattle.body_file.specs.declared.fault.ReadError.{ReadError}
use Rattle.body_file.specs.declared.fault.ReadError.TheVariants.{Broken, Refused, Memory}
use Rattle.body_file.specs.declared.fault.FileError.{FileError}
use Rattle.body_file.specs.declared.fault.FileError.TheVariants as file
use Rattle.body_file.specs.Faults.{set_before, decided_behind}

-- ---- the bodies of files

-- a set with the rows of a file behind it, whose bytes behind its header are these
abbrev pub with_file : SetValue → LayoutValue → List ℕ → SetValue
with_file set l bytes = with_rows set (rows_from l (length set.bodies) bytes)

-- the set of the files before and of one more, whose header has this verdict
abbrev pub set_by : Option SetValue → List ℕ → Result LayoutValue HeaderFault → Option SetValue
set_by before bytes (Err fault) = None
set_by before bytes (Ok l) = Some (with_file (set_before before l.cube) l (drop l.header_len bytes))

-- the set of the files before and of this one
abbrev pub set_behind : Option SetValue → List ℕ → Option SetValue
set_behind before bytes = set_by before bytes (verdict bytes)

-- the set of the files before and of these
unfoldable pub set_of_files : Option SetValue → List (List ℕ) → Option SetValue
set_of_files before [] = before
set_of_files before (file ∷ files) = set_of_files (set_behind before file) files

-- each component of a velocity fits 64 bits, signed or unsigned
pub record Is64BitVelocity (v : Vector) : Type 0 where
  pub x : Is64Bits v.x
  pub y : Is64Bits v.y
  pub z : Is64Bits v.z

-- ---- their faults

-- the fault of the file of this number, where it has one
abbrev pub found_in : ℕ → Option FileFault → Option FoundFault
found_in file None = None
found_in file (Some fault) = Some (record { fault = fault; file = file })

-- the first of two, where it is there, and else the second
abbrev pub first_found : Option FoundFault → Option FoundFault → Option FoundFault
first_found None second = second
first_found (Some found) second = Some found

-- the first fault of files that follow so many, of which this is the set
unfoldable pub fault_from : Option SetValue → ℕ → List (List ℕ) → Option FoundFault
fault_from before count [] = None
fault_from before count (file ∷ files) =
    first_found (found_in (suc count) (decided_behind before true file)) (fault_from (set_behind before file) (suc count) files)

-- the first fault of a list of files, judged one after another
abbrev pub fault_of : List (List ℕ) → Option FoundFault
fault_of = fault_from None 0

-- the fault that these whole files and the front of the next one decide
abbrev pub fault_so_far : List (List ℕ) → List ℕ → Option FoundFault
fault_so_far whole front =
    first_found (fault_of whole) (found_in (suc (length whole)) (decided_behind (set_of_files None whole) false front))

-- the files have no fault, and these are their bodies, idents, weights and velocities, in their order
pub record HasBodies (files : List (List ℕ)) (set : SetValue) : Type 0 where
  pub good : fault_of files ≡ None
  pub are : set_of_files None files ≡ Some set

-- ---- how far files are read

-- the files that were read to their ends and have no fault, and how far the next one was read
pub record FilesRead : Type 0 where
  pub whole : List (List ℕ)
  pub next : Reading

-- nothing was read
abbrev pub nothing_read : FilesRead
nothing_read = record { whole = []; next = unread }

-- all these files were read
abbrev pub all_read : List (List ℕ) → FilesRead
all_read files = record { whole = files; next = unread }

-- the first of these files goes on from what was read of it
abbrev pub GoesOn : Reading → List (List ℕ) → Type 0
GoesOn unread files = Unit {0}
GoesOn unopened files = Unit {0}
GoesOn (unfinished bytes) [] = ⊥
GoesOn (unfinished bytes) (file ∷ files) = (more : List ℕ) × (file ≡ bytes ++ more)
GoesOn (ended bytes) [] = ⊥
GoesOn (ended bytes) (file ∷ files) = file ≡ bytes
GoesOn (broken bytes) [] = ⊥
GoesOn (broken bytes) (file ∷ files) = (more : List ℕ) × (file ≡ bytes ++ more)

-- the list of files goes on from what was read
abbrev pub GoOn : FilesRead → List (List ℕ) → Type 0
GoOn r files = (later : List (List ℕ)) × (files ≡ r.whole ++ later) × GoesOn r.next later

-- what was read decides this fault: all files that go on from it have it
abbrev pub DecideFault : FilesRead → FoundFault → Type 0
DecideFault r found = (files : List (List ℕ)) → GoOn r files → fault_of files ≡ Some found

-- how many bytes one read may give
abbrev pub piece_bytes : ℕ
piece_bytes = 4096

-- so many bytes always decide a fault: the longest headers, and the longest rows, one more than there may be
abbrev pub read_limit : ℕ
read_limit = max_files * max_header_bytes + (max_bodies + 1) * max_row_bytes

-- bytes without the last piece of them, and none where they are fewer
abbrev pub but_a_piece : List ℕ → List ℕ
but_a_piece bytes = take (length bytes - piece_bytes) bytes

-- how many bytes were taken of all files
abbrev pub taken_in_all : FilesRead → ℕ
taken_in_all r = sum_by (λ file. length file) r.whole + length (taken r.next)

-- the bytes taken, without the last piece of them, decide no fault, and they are fewer than the limit and a piece
pub record IsPrompt (r : FilesRead) : Type 0 where
  pub early : fault_so_far r.whole (but_a_piece (taken r.next)) ≡ None
  pub few : taken_in_all r < read_limit + piece_bytes

-- the bodies of so many files were read, each to its end
pub record ReadsBodies (count : ℕ) (r : FilesRead) (set : SetValue) : Type 0 where
  pub all : r.next ≡ unread
  pub number : length r.whole ≡ count
  pub has : HasBodies r.whole set

-- why no bodies were read: the source failed, and the bytes before that decide no fault; or the bytes taken decide this
-- fault; or memory ran out
abbrev pub Stopped : FilesRead → ReadError → Type 0
Stopped r Broken = (has_failed r.next ≡ true) × (fault_so_far r.whole (taken r.next) ≡ None)
Stopped r (Refused found) = (has_failed r.next ≡ false) × DecideFault r found
Stopped r Memory = has_failed r.next ≡ false

-- the answer of a list of files whose file of this number was not read
abbrev pub stopped_at : ℕ → FileError → ReadError
stopped_at number file.Broken = Broken
stopped_at number (file.Refused fault) = Refused (record { fault = fault; file = number })
stopped_at number file.Memory = Memory
