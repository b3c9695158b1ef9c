use Rattle.std.proofs.Common.{◌∙◌, refl}
use Rattle.defer_walk.specs.Listing.{world_of}
use Rattle.tree_tests.proofs.walks.stays_starved.Goals as goal

pub start-requires-clause-fits : goal.start-requires-clause-fits
start-requires-clause-fits g c κs within =
    (world_of c.args.cells.now, (refl, c.requires.way.me), c.requires.way.fits)

pub advance-requires-clause-fits : goal.advance-requires-clause-fits
advance-requires-clause-fits g c κs within =
    let w = world_of c.args.cells.now in
    let me = c.requires.way.me in
    (w, (refl, c.start.ensures.same.me ∙ me), c.start.ensures.stands w (refl, me) c.requires.way.fits)
