use Rattle.std.proofs.Common.{◌≡◌, ◌<◌, ℕ, length, slice_get, slice_index_or, slice_set, List, ap, sym, subst, Some}
use Rattle.protocol.proofs.Places.{get_at}
use Rattle.rank_core.specs.Seats.{seat_of}
use Rattle.round_runner.proofs.Runs.{same_number}
use Rattle.round_runner.proofs.rounds.hand.Goals as goal

here : {X : Type 0} (ss : List X) (q r : ℕ) (d : X) → q ≡ r → r < length ss → slice_get ss r ≡ Some (slice_index_or ss q d)
here ss q r d e lt = subst (λ (i : ℕ). slice_get ss r ≡ Some (slice_index_or ss i d)) (sym e) (get_at ss r d lt)

-- the receiver is one of the ranks
pub bounds-ranks-to : goal.bounds-ranks-to
bounds-ranks-to g c = subst (λ (i : ℕ). i < length c.args.ranks.now) (sym c.to-to.ensures.receiver) c.requires.within

-- there is a world for which the receiver stands, and of which the letter is true
pub take-requires-clause-fits : goal.take-requires-clause-fits
take-requires-clause-fits g c κs within =
    c.requires.fits (slice_index_or c.args.ranks.now c.to-to.result c.index-ranks-to.result)
    (here c.args.ranks.now c.to-to.result c.args.letter.to c.index-ranks-to.result c.to-to.ensures.receiver c.requires.within)

-- the letter is to its receiver
pub take-requires-clause-mine : goal.take-requires-clause-mine
take-requires-clause-mine g c κs within =
    (c.requires.mine (slice_index_or c.args.ranks.now c.to-to.result c.index-ranks-to.result)
    (here c.args.ranks.now c.to-to.result c.args.letter.to c.index-ranks-to.result c.to-to.ensures.receiver c.requires.within)).0

-- the receiver may take the letter now
pub take-requires-clause-fresh : goal.take-requires-clause-fresh
take-requires-clause-fresh g c κs within =
    (c.requires.mine (slice_index_or c.args.ranks.now c.to-to.result c.index-ranks-to.result)
    (here c.args.ranks.now c.to-to.result c.args.letter.to c.index-ranks-to.result c.to-to.ensures.receiver c.requires.within)).1

-- the letter was handed to its receiver, and the other ranks are as they were
pub returns : goal.returns
returns g c = record {
  handed = (
    slice_index_or c.args.ranks.now c.to-to.result c.index-ranks-to.result,
    c.take.new.self,
    here c.args.ranks.now c.to-to.result c.args.letter.to c.index-ranks-to.result c.to-to.ensures.receiver c.requires.within,
    ap (λ (i : ℕ). slice_set c.args.ranks.now i c.take.new.self) c.to-to.ensures.receiver,
    record {
      kept = c.take.ensures.kept;
      visit = c.take.ensures.visit;
      me = same_number (seat_of (slice_index_or c.args.ranks.now c.to-to.result c.index-ranks-to.result)) (seat_of c.take.new.self) c.args.letter c.take.result c.take.ensures.ok c.take.ensures.err;
      ok = c.take.ensures.ok;
    },
  );
}
