use Rattle.std.proofs.Common.{◌≡◌, ◌≤◌, leb, length, filter, take}
use Rattle.tree_tests.proofs.cells_double.CellsDouble.rank.Given as goal

abbrev pub invariant-loop-cut : goal.invariant-loop-cut
invariant-loop-cut l = record {
  value : l.rank ≡ length (filter (λ c. leb c l.key) (take l.cut-index l.self.cuts));
  short : l.rank ≤ l.cut-index;
}
