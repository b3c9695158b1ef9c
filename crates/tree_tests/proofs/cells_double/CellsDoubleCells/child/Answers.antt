use Rattle.defer_walk.proofs.Listings.{parted_high}
use Rattle.tree_tests.proofs.cells_double.CellsDoubleCells.child.Goals as goal

pub record_below-requires : goal.record_below-requires
record_below-requires c =
    let f = c.requires.fits in
    record { cell = f.3; above = parted_high f.0 f.1 c.args.key f.3 f.4; digit = c.requires.digit }
