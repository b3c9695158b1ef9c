use Rattle.std.proofs.Common.{◌≡◌, Bool, refl, sym, ◌∙◌, ap, arith, None, false, true}
use Rattle.std.specs.Prelude.{not, ◌&&◌}
use Rattle.rank_core.specs.declared.state.State.{State}
use Rattle.rank_core.proofs.Walks.{new_part, new_awake, new_told, new_slots, readable_none}
use Rattle.rank_core.specs.Times.{times}
use Rattle.rank_core.specs.Standing.{StandsIn}
use Rattle.rank_core.specs.Seats.{none_left, seat_of, visit_of}
use Rattle.rank_core.proofs.rank.Rank.new.Goals as goal

pub returns : goal.returns
unfolding StandsIn seat_of visit_of
returns g c = record {
  stands = λ w h.
      let walks = c.in_ok-walk.ensures.stands w h.good h.bodies_are in
      let fresh = c.in_ok-walk.ensures.fresh in
      let s : State = record {
        alloc = c.args.alloc;
        place = record { me = c.args.me; ranks = c.args.ranks; left = c.args.left; right = c.args.right; leaf = c.args.leaf };
        piece = c.in_ok-from_slice.field-0;
        tree = None;
        heard = c.in_ok-new.field-0;
        top = None;
        inbox = c.new-3.result;
        outbox = c.new-4.result;
        starved = false;
      } in
      record {
        holds = record {
          part = new_part w s c.args.piece.now h c.requires.me c.requires.ranks c.requires.leaf.0 c.requires.leaf.1 c.in_ok-from_slice.ensures.items refl refl c.in_ok-new.ensures.lists c.in_ok-new.ensures.heard c.new-3.ensures.items c.new-4.ensures.items;
          walks = walks;
          same = fresh.0;
          readable = readable_none c.in_ok-walk.walk c.new-3.result.items c.new-3.ensures.items;
          told = (new_told s c.in_ok-new.ensures.heard c.new-3.ensures.items).1;
          merged = λ e. absurd (let f : false ≡ true = sym fresh.3 ∙ e in cc);
          once = λ k. (let e = ap (times k) (new_slots _ w c.in_ok-walk.walk walks fresh.3 fresh.4).0 in omega (arith, e));
        };
        awake = λ e. new_awake _ w s c.in_ok-walk.walk walks fresh.3 fresh.4 refl;
      };
  fresh =
      let f = c.requires.fits in
      let walks = c.in_ok-walk.ensures.stands f.0 f.1.good f.1.bodies_are in
      let fresh = c.in_ok-walk.ensures.fresh in
      let s : State = record {
        alloc = c.args.alloc;
        place = record { me = c.args.me; ranks = c.args.ranks; left = c.args.left; right = c.args.right; leaf = c.args.leaf };
        piece = c.in_ok-from_slice.field-0;
        tree = None;
        heard = c.in_ok-new.field-0;
        top = None;
        inbox = c.new-3.result;
        outbox = c.new-4.result;
        starved = false;
      } in
      let none = new_slots _ f.0 c.in_ok-walk.walk walks fresh.3 fresh.4 in record {
        new = record {
          me = refl;
          ranks_are = refl;
          begun = refl;
          heard = (new_told s c.in_ok-new.ensures.heard c.new-3.ensures.items).0;
          asked = none.0;
          answered = none.1;
          inbox = c.new-3.ensures.items;
          outbox = c.new-4.ensures.items;
          done = ap (λ (b : Bool). b && (not c.in_ok-walk.walk.starved && none_left c.in_ok-walk.walk.pairs)) fresh.3;
          starved = refl;
        };
        leaf_is = refl;
        visit_is = fresh.1;
      };
}
