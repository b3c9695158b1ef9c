use Rattle.std.proofs.Common.{◌∙◌, List, ap}
use Rattle.defer_walk.specs.declared.asks.Slot.{Slot}
use Rattle.defer_walk.specs.Asked.{stored_at}
use Rattle.defer_walk.specs.Listing.{world_of}
use Rattle.defer_walk.specs.Standing.{WalkState}
use Rattle.tree_tests.proofs.UnderWay.{first-answered, last-given}
use Rattle.tree_tests.proofs.walks.supply_next.Goals as goal

pub supply-requires-clause-given : goal.supply-requires-clause-given
supply-requires-clause-given g c κs within = last-given c.in-Some.ask.key _ _ c.in-Some.ensures.some.0

pub returns : goal.returns
returns g c =
    let way = c.requires.way in
    let w = world_of c.args.cells.now in
    let same = c.asked.ensures.same in
    let value = c.supply.ensures.value in
    record {
      way = record {
        fits = c.supply.ensures.stands w (c.asked.ensures.stands w way.fits) (rw c.expect-answer.ensures at c.answer.ensures.value);
        me = ap (λ (s : WalkState _ _). s.me) value ∙ same.0.me ∙ way.me;
        started = ap (λ (s : WalkState _ _). s.started) value ∙ same.1.started ∙ way.started;
        answered =
            first-answered c.in-Some.ask.key _ _ _ _ (c.supply.ensures.given ∙ c.in-Some.ensures.some.0)
            (λ k n. c.supply.ensures.others k n ∙ ap (λ (ss : List Slot). stored_at ss k) same.1.slots) way.answered;
      };
    }
