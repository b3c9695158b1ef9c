use Rattle.std.proofs.Common.{◌∙◌, ap, sym}
use Rattle.rank_tests.specs.Worlds.{three}
use Rattle.rank_core.specs.Seat.{Seat}
use Rattle.rank_core.specs.Seats.{seat_of}
use Rattle.rank_tests.proofs.Handing.{fresh_asks, sent_one}
use Rattle.rank_tests.proofs.Rows.{answers_only}
use Rattle.rank_tests.proofs.row.answer.Goals as goal

pub hand-requires-clause-fits : goal.hand-requires-clause-fits
hand-requires-clause-fits g c κs within = (three, c.tell_all.ensures.stands, c.requires.asks.truth)

pub hand-requires-clause-mine : goal.hand-requires-clause-mine
hand-requires-clause-mine g c κs within = c.requires.asks.to_is ∙ (sym c.rank_of_64-rank.ensures.new.me ∙ sym c.tell_all.ensures.begun.me)

pub hand-requires-clause-fresh : goal.hand-requires-clause-fresh
hand-requires-clause-fresh g c κs within = fresh_asks (seat_of c.tell_all.new.rank) c.args.asks.from c.args.asks.content c.requires.asks.kind c.tell_all.ensures.begun.inbox

pub advance-requires-clause-fits : goal.advance-requires-clause-fits
advance-requires-clause-fits g c κs within = (three, c.hand.ensures.kept three c.tell_all.ensures.stands c.requires.asks.truth)

pub returns-clause-answer : goal.returns-clause-answer
returns-clause-answer g c =
    let s = c.hand.ensures.kept three c.tell_all.ensures.stands c.requires.asks.truth in
    let x = c.next-letter.ensures.truth three (c.advance.ensures.kept three s) in
    record {
      truth = x.0;
      from_is = x.1 ∙ ((c.advance.ensures.moves three s).me ∙ (ap (λ (z : Seat). z.me) c.hand.ensures.seat ∙ (c.tell_all.ensures.begun.me ∙ c.rank_of_64-rank.ensures.new.me)));
      to_is = c.next-letter.ensures.receiver;
      kind = c.next-letter.ensures.kind;
    }

pub returns-clause-only : goal.returns-clause-only
returns-clause-only g c =
    let s = c.hand.ensures.kept three c.tell_all.ensures.stands c.requires.asks.truth in
    let sent = sent_one _ three (seat_of c.hand.new.rank) (seat_of c.advance.new.rank) (seat_of c.next-letter.new.rank) (seat_of c.quiet.new.rank) c.next-letter.result (c.advance.ensures.moves three s) c.next-letter.ensures.popped.out c.quiet.ensures.seat c.quiet.ensures.empty in
    answers_only three _ (seat_of c.tell_all.new.rank) (seat_of c.hand.new.rank) (seat_of c.quiet.new.rank) c.args.asks c.next-letter.result c.tell_all.ensures.begun c.tell_all.ensures.empty c.hand.ensures.seat sent
