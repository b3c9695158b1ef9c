use Rattle.std.proofs.Common.{◌≡◌, drop}
use Rattle.sdf_header.specs.Fields.{has_field, fields_of}
use Rattle.sdf_header.proofs.columns.has_field.Given as goal

abbrev pub invariant-loop-column : goal.invariant-loop-column
invariant-loop-column l = has_field l.name (fields_of (drop l.column-index l.columns)) ≡ has_field l.name (fields_of l.columns)
