use Rattle.std.proofs.Common.{◌≡◌, filter, take}
use Rattle.hot_units.specs.Keys.{contains}
use Rattle.tree_tests.proofs.cells_double.CellsDouble.inside.Given as goal

abbrev pub invariant-loop-b : goal.invariant-loop-b
invariant-loop-b l = l.inside ≡ filter (contains l.key) (take l.b-index l.self.bodies)
