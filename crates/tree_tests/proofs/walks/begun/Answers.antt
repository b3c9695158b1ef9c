use Rattle.std.proofs.Common.{◌≡◌, ◌∙◌, refl}
use Rattle.rank_model.specs.World.{piece}
use Rattle.defer_walk.specs.Listing.{world_of}
use Rattle.tree_tests.proofs.UnderWay.{first-none}
use Rattle.tree_tests.proofs.walks.begun.Goals as goal

pub start-requires-clause-fits : goal.start-requires-clause-fits
start-requires-clause-fits g c κs within =
    let w = world_of c.args.cells.now in
    let stands = rw c.expect-walk.ensures at c.new.ensures.stands in
    let fresh = rw c.expect-walk.ensures at c.new.ensures.fresh in
    let bodies = rw c.expect-piece.ensures at c.piece.ensures.value in
    let p : c.deref.result.now ≡ piece w c.rank_at_hand-me.result = rw c.rank_at_hand-me.ensures.value (c.deref.ensures.value ∙ bodies) in
    (w, (refl, fresh.0 ∙ c.rank_at_hand-me.ensures.value), stands w c.rank_at_hand-me.ensures.good p)

pub returns : goal.returns
returns g c =
    let w = world_of c.args.cells.now in
    let stands = rw c.expect-walk.ensures at c.new.ensures.stands in
    let fresh = rw c.expect-walk.ensures at c.new.ensures.fresh in
    let bodies = rw c.expect-piece.ensures at c.piece.ensures.value in
    let p : c.deref.result.now ≡ piece w c.rank_at_hand-me.result = rw c.rank_at_hand-me.ensures.value (c.deref.ensures.value ∙ bodies) in
    let s = stands w c.rank_at_hand-me.ensures.good p in
    let me = fresh.0 ∙ c.rank_at_hand-me.ensures.value in
    let ok = rw c.expect.ensures at c.start.ensures.ok in
    record {
      way = record {
        fits = c.start.ensures.stands w (refl, me) s;
        me = c.start.ensures.same.me ∙ me;
        started = ok.0;
        answered = first-none _ _ (c.start.ensures.given.0 ∙ (s.fresh fresh.3 fresh.4).slots);
      };
    }
