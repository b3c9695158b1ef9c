-- The faults of a body file, in the order of the file.
use Rattle.std.specs.Prelude.{◌≡◌, ℕ, Bool, true, false, not, ◌&&◌, ◌==◌, List, [], ◌∷◌, ◌++◌, length, drop, Option, Some, None, Result, Ok, Err, if◌then◌else◌}
use Rattle.std.specs.Ordering.{int_eq}
use Rattle.hot_units.specs.Values.{BodyValue, CubeValue}
use Rattle.sdf_header.specs.declared.header_fault.HeaderFault.{HeaderFault}
use Rattle.sdf_header.specs.declared.layout.HeaderError.{HeaderError}
use Rattle.sdf_header.specs.declared.layout.HeaderError.TheVariants as header
use Rattle.sdf_header.specs.Layouts.{LayoutValue}
use Rattle.sdf_header.specs.Extent.{Extent, Faulty, Ends, Open, extent}
use Rattle.sdf_header.specs.Verdict.{verdict}
use Rattle.hot_units.specs.declared.raw_row.RawRow.{RawRow}
use Rattle.sdf_rows.specs.declared.raw_row.RowFault.{RowFault}
use Rattle.sdf_rows.specs.declared.raw_row.RowFault.TheVariants.{Trailing}
use Rattle.sdf_rows.specs.Rows.{rows_from, ending_from, is_beyond_at}
use Rattle.body_set.specs.declared.fault.PushError.{PushError}
use Rattle.body_set.specs.declared.fault.PushError.TheVariants as push
use Rattle.body_set.specs.Rows.{body_of_row, first_fault}
use Rattle.body_set.specs.Sets.{SetValue, empty_set}
use Rattle.body_file.specs.declared.fault.BodyFault.TheVariants.{TooMany, Outside, MassRange, WorkRange, MassSum}
use Rattle.body_file.specs.declared.fault.FileFault.{FileFault}
use Rattle.body_file.specs.declared.fault.FileFault.TheVariants.{Header, OtherCube, Body, End}
use Rattle.body_file.specs.declared.fault.FileError.{FileError}
use Rattle.body_file.specs.declared.fault.FileError.TheVariants.{Refused, Memory}

-- the first of two, where it is there, and else the second
abbrev pub first_of : Option FileFault → Option FileFault → Option FileFault
first_of None second = second
first_of (Some fault) second = Some fault

-- ---- a row

-- the answer for a row that a set of bodies refuses
abbrev pub row_error : PushError → FileError
row_error push.TooMany = Refused (Body TooMany)
row_error (push.Outside row axis) = Refused (Body (Outside row axis))
row_error (push.MassRange row) = Refused (Body (MassRange row))
row_error (push.WorkRange row) = Refused (Body (WorkRange row))
row_error (push.MassSum row) = Refused (Body (MassSum row))
row_error push.Memory = Memory

-- the fault in an answer, where it has one
abbrev pub fault_in : FileError → Option FileFault
fault_in (Refused fault) = Some fault
fault_in _ = None

-- the fault of a file for which a row of it is refused
abbrev pub named : Option PushError → Option FileFault
named None = None
named (Some error) = fault_in (row_error error)

-- the fault of a row behind these bodies
abbrev pub row_fault : CubeValue → List BodyValue → RawRow → Option FileFault
row_fault cube before raw = named (first_fault cube before raw)

-- the first fault among rows that follow these bodies
unfoldable pub first_refused : CubeValue → List BodyValue → List RawRow → Option FileFault
first_refused cube before [] = None
first_refused cube before (raw ∷ raws) =
    first_of (row_fault cube before raw) (first_refused cube (before ++ body_of_row cube (length before) raw ∷ []) raws)

-- ---- the rows

-- the fault in how the rows end
abbrev pub ended_by : Result ℕ RowFault → Option FileFault
ended_by (Ok count) = None
ended_by (Err fault) = Some (End fault)

-- the fault in how the bytes of the rows end, whose first row has this number; where more may follow, only a byte too
-- many is one
abbrev pub end_fault : ℕ → Bool → LayoutValue → List ℕ → Option FileFault
end_fault first true l bytes = ended_by (ending_from l first bytes)
end_fault first false l bytes = if is_beyond_at l.count l.width (length bytes) then Some (End Trailing) else None

-- the fault that the bytes behind a header decide, whose rows follow those of a set: that of the first whole row at
-- fault, or else that of how they end
abbrev pub rows_fault : SetValue → Bool → LayoutValue → List ℕ → Option FileFault
rows_fault set ended l bytes =
    first_of (first_refused set.cube set.bodies (rows_from l (length set.bodies) bytes)) (end_fault (length set.bodies) ended l bytes)

-- ---- the file

-- both cubes are the same
abbrev pub is_cube : CubeValue → CubeValue → Bool
is_cube a b = (a.bits == b.bits) && (int_eq a.x0 b.x0 && (int_eq a.y0 b.y0 && int_eq a.z0 b.z0))

-- the cube is another one than that of the files before, where there are any
abbrev pub differs : Option SetValue → CubeValue → Bool
differs None cube = false
differs (Some set) cube = not (is_cube set.cube cube)

-- the set that the rows of a file follow: that of the files before, where there are any
abbrev pub set_before : Option SetValue → CubeValue → SetValue
set_before None cube = empty_set cube
set_before (Some set) cube = set

-- the verdict of the header is known: nothing follows, or whatever follows does not change it
abbrev pub is_known : Bool → Extent → Bool
is_known ended (Faulty fault) = true
is_known ended (Ends text len) = true
is_known ended Open = ended

-- the fault of a file, behind these files, whose header has this verdict
abbrev pub fault_by : Option SetValue → Bool → List ℕ → Result LayoutValue HeaderFault → Option FileFault
fault_by before ended bytes (Err fault) = Some (Header fault)
fault_by before ended bytes (Ok l) =
    if differs before l.cube then Some OtherCube else rows_fault (set_before before l.cube) ended l (drop l.header_len bytes)

-- the fault that these bytes of a file decide, which follows the files of a set: that of the header, or else that it has
-- another cube, or else that of the rows; `ended` says that no more follow
unfoldable pub decided_behind : Option SetValue → Bool → List ℕ → Option FileFault
decided_behind before ended bytes = if is_known ended (extent bytes) then fault_by before ended bytes (verdict bytes) else None

-- the same of a file that follows none
abbrev pub decided : Bool → List ℕ → Option FileFault
decided = decided_behind None

-- The bytes decide this fault: they are the whole file and have it, or the file has it whatever follows and wherever it
-- ends.
abbrev pub Decides : Option SetValue → Bool → List ℕ → FileFault → Type 0
Decides before true bytes fault = decided_behind before true bytes ≡ Some fault
Decides before false bytes fault = (more : List ℕ) (ended : Bool) → decided_behind before ended (bytes ++ more) ≡ Some fault

-- ---- answers

-- the answer for a header that is refused
abbrev pub header_error : HeaderError → FileError
header_error (header.Fault fault) = Refused (Header fault)
header_error header.Memory = Memory
