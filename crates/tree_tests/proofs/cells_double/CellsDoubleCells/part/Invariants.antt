use Rattle.std.proofs.Common.{◌≤◌, filter, take}
use Rattle.hot_units.specs.Keys.{contains}
use Rattle.defer_walk.specs.Listing.{world_of}
use Rattle.tree_tests.proofs.Listings.{Scanned}
use Rattle.tree_tests.proofs.cells_double.CellsDoubleCells.part.Given as goal

abbrev pub invariant-loop-b : goal.invariant-loop-b
invariant-loop-b l = record {
  scanned : Scanned (world_of l.self) (filter (contains l.key) (take l.b-index l.self.bodies)) l.owner l.one l.count;
  short : l.count ≤ l.b-index;
}
