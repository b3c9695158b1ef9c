use Rattle.std.proofs.Common.{length, suc, ◌≤◌}
use Rattle.sdf_header.specs.Fields.{items_at, row_of}
use Rattle.sdf_header.proofs.Items.{Goes}
use Rattle.sdf_header.proofs.columns.items_at.Given as goal

abbrev pub invariant-items : goal.invariant-items
invariant-items l = Goes l.kind (row_of l.columns) l.rest (items_at (suc (length l.bytes)) l.kind (row_of l.fn.columns) l.bytes) × (length l.rest ≤ length l.bytes)

abbrev pub decreases-items : goal.decreases-items
decreases-items l = length l.rest
