use Rattle.std.proofs.Common.{length}
use Rattle.sdf_header.specs.Statements.{header_in, header_of}
use Rattle.sdf_header.proofs.Statements.{Goes}
use Rattle.sdf_header.proofs.statement.header_in.Given as goal

abbrev pub invariant-statements : goal.invariant-statements
invariant-statements l = Goes (header_of l.document) l.rest (header_in l.text)

abbrev pub decreases-statements : goal.decreases-statements
decreases-statements l = length l.rest
