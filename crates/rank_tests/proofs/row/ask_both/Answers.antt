use Rattle.std.proofs.Common.{◌∙◌, ap}
use Rattle.rank_tests.specs.Worlds.{three}
use Rattle.rank_core.specs.Seat.{Seat}
use Rattle.rank_core.specs.Seats.{seat_of}
use Rattle.rank_tests.proofs.Rows.{after_both, asked_first, asked_second}
use Rattle.rank_tests.proofs.row.ask_both.Goals as goal

pub advance-requires-clause-fits : goal.advance-requires-clause-fits
advance-requires-clause-fits g c κs within = (three, c.requires.stands)

pub returns-clause-stands : goal.returns-clause-stands
returns-clause-stands g c = c.quiet.ensures.kept three (c.next-two.ensures.popped.kept three (c.next-one.ensures.popped.kept three (c.advance.ensures.kept three c.requires.stands)))

pub returns-clause-me : goal.returns-clause-me
returns-clause-me g c = (after_both _ three 0 (seat_of c.args.rank.now) (seat_of c.advance.new.rank) (seat_of c.next-one.new.rank) (seat_of c.next-two.new.rank) (seat_of c.quiet.new.rank) c.next-one.result c.next-two.result c.requires.ready (c.advance.ensures.moves three c.requires.stands) c.next-one.ensures.popped.out c.next-two.ensures.popped.out c.quiet.ensures.seat).0

pub returns-clause-read : goal.returns-clause-read
returns-clause-read g c = (after_both _ three 0 (seat_of c.args.rank.now) (seat_of c.advance.new.rank) (seat_of c.next-one.new.rank) (seat_of c.next-two.new.rank) (seat_of c.quiet.new.rank) c.next-one.result c.next-two.result c.requires.ready (c.advance.ensures.moves three c.requires.stands) c.next-one.ensures.popped.out c.next-two.ensures.popped.out c.quiet.ensures.seat).1

pub returns-clause-unanswered : goal.returns-clause-unanswered
returns-clause-unanswered g c = (after_both _ three 0 (seat_of c.args.rank.now) (seat_of c.advance.new.rank) (seat_of c.next-one.new.rank) (seat_of c.next-two.new.rank) (seat_of c.quiet.new.rank) c.next-one.result c.next-two.result c.requires.ready (c.advance.ensures.moves three c.requires.stands) c.next-one.ensures.popped.out c.next-two.ensures.popped.out c.quiet.ensures.seat).2

pub returns-clause-one : goal.returns-clause-one
returns-clause-one g c =
    let x = c.next-one.ensures.truth three (c.advance.ensures.kept three c.requires.stands) in
    record {
      truth = x.0;
      from_is = x.1 ∙ ((c.advance.ensures.moves three c.requires.stands).me ∙ c.requires.ready.me);
      to_is = c.next-one.ensures.receiver;
      kind = c.next-one.ensures.kind;
    }

pub returns-clause-two : goal.returns-clause-two
returns-clause-two g c =
    let x = c.next-two.ensures.truth three (c.next-one.ensures.popped.kept three (c.advance.ensures.kept three c.requires.stands)) in
    record {
      truth = x.0;
      from_is = x.1 ∙ (ap (λ (s : Seat). s.me) c.next-one.ensures.popped.out.1 ∙ ((c.advance.ensures.moves three c.requires.stands).me ∙ c.requires.ready.me));
      to_is = c.next-two.ensures.receiver;
      kind = c.next-two.ensures.kind;
    }

pub returns-clause-one_asked : goal.returns-clause-one_asked
returns-clause-one_asked g c = asked_first _ three 0 (seat_of c.args.rank.now) (seat_of c.advance.new.rank) (seat_of c.next-one.new.rank) (seat_of c.next-two.new.rank) (seat_of c.quiet.new.rank) c.next-one.result c.next-two.result c.requires.ready (c.advance.ensures.moves three c.requires.stands) c.next-one.ensures.popped.out c.next-two.ensures.popped.out c.quiet.ensures.seat

pub returns-clause-two_asked : goal.returns-clause-two_asked
returns-clause-two_asked g c = asked_second _ three 0 (seat_of c.args.rank.now) (seat_of c.advance.new.rank) (seat_of c.next-one.new.rank) (seat_of c.next-two.new.rank) (seat_of c.quiet.new.rank) c.next-one.result c.next-two.result c.requires.ready (c.advance.ensures.moves three c.requires.stands) c.next-one.ensures.popped.out c.next-two.ensures.popped.out c.quiet.ensures.seat
