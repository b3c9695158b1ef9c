use Rattle.std.proofs.Common.{length, suc, ◌≤◌}
use Rattle.sdf_header.specs.Fields.{lines_at, row_of}
use Rattle.sdf_header.proofs.Lines.{Goes}
use Rattle.sdf_header.proofs.columns.lines_at.Given as goal

abbrev pub invariant-lines : goal.invariant-lines
invariant-lines l = Goes (row_of l.columns) l.rest (lines_at (suc (length l.bytes)) (row_of l.fn.columns) l.bytes) × (length l.rest ≤ length l.bytes)

abbrev pub decreases-lines : goal.decreases-lines
decreases-lines l = length l.rest
