use Rattle.std.proofs.Common.{◌≡◌, eqb, filter, take}
use Rattle.hot_units.specs.Keys.{key_of_body}
use Rattle.defer_walk.specs.Listing.{rank_by}
use Rattle.tree_tests.proofs.cells_double.CellsDouble.piece.Given as goal

abbrev pub invariant-loop-b : goal.invariant-loop-b
invariant-loop-b l = l.piece.items ≡ filter (λ b. eqb (rank_by l.self.cuts (key_of_body b)) l.self.me) (take l.b-index l.self.bodies)
