use Rattle.std.proofs.Common.{sym, ◌∙◌, ap}
use Rattle.rank_tests.specs.Worlds.{five}
use Rattle.rank_core.specs.Seat.{Seat}
use Rattle.rank_core.specs.Seats.{seat_of}
use Rattle.rank_tests.proofs.Handing.{fresh_branches, unheard_other}
use Rattle.rank_tests.proofs.ranks.hear_two.Goals as goal

pub hand-requires-clause-fits : goal.hand-requires-clause-fits
hand-requires-clause-fits g c κs within = (five, c.requires.stands, c.requires.one.truth)

pub hand-requires-clause-fresh : goal.hand-requires-clause-fresh
hand-requires-clause-fresh g c κs within = fresh_branches (seat_of c.args.rank.now) c.args.one.from c.args.one.content c.requires.one.kind (c.requires.unheard c.args.one.from)

pub hand-requires-2-clause-fits : goal.hand-requires-2-clause-fits
hand-requires-2-clause-fits g c κs within = (five, c.hand.ensures.kept five c.requires.stands c.requires.one.truth, c.requires.two.truth)

pub hand-requires-2-clause-mine : goal.hand-requires-2-clause-mine
hand-requires-2-clause-mine g c κs within = c.requires.two.to_is ∙ sym (ap (λ (s : Seat). s.me) c.hand.ensures.seat)

pub hand-requires-2-clause-fresh : goal.hand-requires-2-clause-fresh
hand-requires-2-clause-fresh g c κs within =
    fresh_branches (seat_of c.hand.new.rank) c.args.two.from c.args.two.content c.requires.two.kind
    (unheard_other (seat_of c.args.rank.now) (seat_of c.hand.new.rank) c.args.one c.args.two.from (c.requires.unheard c.args.two.from) c.hand.ensures.seat c.requires.differ)

pub returns : goal.returns
returns g c = record { stands = c.hand-2.ensures.kept five (c.hand.ensures.kept five c.requires.stands c.requires.one.truth) c.requires.two.truth }
