use Rattle.std.proofs.Common.{◌≡◌}
use Rattle.defer_walk.specs.Listing.{world_of}
use Rattle.defer_walk.proofs.Descents.{records_to}
use Rattle.tree_tests.proofs.cells_double.CellsDouble.children.Given as goal

abbrev pub invariant-loop-digit : goal.invariant-loop-digit
invariant-loop-digit l = l.children ≡ records_to (world_of l.self) l.key l.digit
