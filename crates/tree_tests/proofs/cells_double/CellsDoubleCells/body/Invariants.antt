use Rattle.std.proofs.Common.{◌≡◌, ◌≤◌, length, filter, take}
use Rattle.hot_units.specs.Keys.{contains}
use Rattle.tree_tests.proofs.cells_double.CellsDoubleCells.body.Given as goal

abbrev pub invariant-loop-b : goal.invariant-loop-b
invariant-loop-b l = record {
  counted : l.before ≡ length (filter (contains l.key) (take l.b-index l.self.bodies));
  short : l.before ≤ l.b-index;
  low : l.before ≤ l.i;
}
