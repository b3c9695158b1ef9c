use Rattle.std.proofs.Common.{◌∙◌, ap}
use Rattle.rank_tests.specs.Worlds.{five}
use Rattle.rank_core.specs.Seat.{Seat}
use Rattle.rank_core.specs.Seats.{seat_of}
use Rattle.rank_tests.proofs.Handing.{unheard_two}
use Rattle.rank_tests.proofs.ranks.tell_two.Goals as goal

pub advance-requires-clause-fits : goal.advance-requires-clause-fits
advance-requires-clause-fits g c κs within = (five, c.requires.stands)

pub returns-clause-stands : goal.returns-clause-stands
returns-clause-stands g c = c.quiet.ensures.kept five (c.next-two.ensures.popped.kept five (c.next-one.ensures.popped.kept five (c.advance.ensures.kept five c.requires.stands)))

pub returns-clause-me : goal.returns-clause-me
returns-clause-me g c =
    ap (λ (s : Seat). s.me) c.quiet.ensures.seat
    ∙ (ap (λ (s : Seat). s.me) c.next-two.ensures.popped.out.1
    ∙ (ap (λ (s : Seat). s.me) c.next-one.ensures.popped.out.1
    ∙ (c.advance.ensures.moves five c.requires.stands).me))

pub returns-clause-unheard : goal.returns-clause-unheard
returns-clause-unheard g c =
    unheard_two _ five (seat_of c.args.rank.now).me 3 (seat_of c.args.rank.now) (seat_of c.advance.new.rank) (seat_of c.next-one.new.rank) (seat_of c.next-two.new.rank) (seat_of c.quiet.new.rank) c.next-one.result c.next-two.result
    c.requires.new (c.advance.ensures.moves five c.requires.stands) c.next-one.ensures.popped.out c.next-two.ensures.popped.out c.quiet.ensures.seat

pub returns-clause-first : goal.returns-clause-first
returns-clause-first g c =
    let x = c.next-one.ensures.truth five (c.advance.ensures.kept five c.requires.stands) in
    record {
      truth = x.0;
      from_is = x.1 ∙ (c.advance.ensures.moves five c.requires.stands).me;
      to_is = c.next-one.ensures.receiver;
      kind = c.next-one.ensures.kind;
    }

pub returns-clause-second : goal.returns-clause-second
returns-clause-second g c =
    let x = c.next-two.ensures.truth five (c.next-one.ensures.popped.kept five (c.advance.ensures.kept five c.requires.stands)) in
    record {
      truth = x.0;
      from_is = x.1 ∙ (ap (λ (s : Seat). s.me) c.next-one.ensures.popped.out.1 ∙ (c.advance.ensures.moves five c.requires.stands).me);
      to_is = c.next-two.ensures.receiver;
      kind = c.next-two.ensures.kind;
    }
