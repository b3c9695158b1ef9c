use Rattle.std.proofs.Common.{◌≡◌, drop}
use Rattle.sdf_header.specs.Fields.{fields_of}
use Rattle.sdf_header.specs.Verdict.{column}
use Rattle.sdf_header.proofs.verdict.column.Given as goal

abbrev pub invariant-loop-c : goal.invariant-loop-c
invariant-loop-c l = column l.name (fields_of (drop l.c-index l.columns.list.items)) ≡ column l.name (fields_of l.columns.list.items)
