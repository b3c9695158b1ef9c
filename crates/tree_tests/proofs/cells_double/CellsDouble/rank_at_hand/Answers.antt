use Rattle.std.proofs.Common.{rules}
use Rattle.defer_walk.proofs.Listings.{good_of}
use Rattle.tree_tests.proofs.cells_double.CellsDouble.rank_at_hand.Goals as goal

pub returns-clause-good : goal.returns-clause-good
returns-clause-good c = good_of c.args.self.now (search rules)
