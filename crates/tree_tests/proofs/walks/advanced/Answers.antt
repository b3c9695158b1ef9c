use Rattle.std.proofs.Common.{◌∙◌, refl}
use Rattle.defer_walk.specs.Listing.{world_of}
use Rattle.tree_tests.proofs.UnderWay.{first-extends}
use Rattle.tree_tests.proofs.walks.advanced.Goals as goal

pub advance-requires-clause-fits : goal.advance-requires-clause-fits
advance-requires-clause-fits g c κs within =
    (world_of c.args.cells.now, (refl, c.requires.way.me), c.requires.way.fits)

pub returns-in_err-advance-clause-way : goal.returns-in_err-advance-clause-way
returns-in_err-advance-clause-way g c =
    let way = c.requires.way in
    record {
      fits = c.advance.ensures.stands (world_of c.args.cells.now) (refl, way.me) way.fits;
      me = c.advance.ensures.same.me ∙ way.me;
      started = c.in_err-advance.ensures.err.0 ∙ way.started;
      answered = first-extends _ _ _ _ c.advance.ensures.given.1 c.advance.ensures.extends way.answered;
    }

pub returns-in-Done-clause-way : goal.returns-in-Done-clause-way
returns-in-Done-clause-way g c =
    let way = c.requires.way in
    record {
      fits = c.advance.ensures.stands (world_of c.args.cells.now) (refl, way.me) way.fits;
      me = c.advance.ensures.same.me ∙ way.me;
      started = c.in_ok-advance.ensures.ok.0;
      answered = first-extends _ _ _ _ c.advance.ensures.given.1 c.advance.ensures.extends way.answered;
    }

pub returns-in-Waiting-clause-way : goal.returns-in-Waiting-clause-way
returns-in-Waiting-clause-way g c =
    let way = c.requires.way in
    record {
      fits = c.advance.ensures.stands (world_of c.args.cells.now) (refl, way.me) way.fits;
      me = c.advance.ensures.same.me ∙ way.me;
      started = c.in_ok-advance.ensures.ok.0;
      answered = first-extends _ _ _ _ c.advance.ensures.given.1 c.advance.ensures.extends way.answered;
    }
