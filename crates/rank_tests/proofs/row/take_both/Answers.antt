use Rattle.std.proofs.Common.{◌∙◌, ap, sym, arith}
use Rattle.rank_tests.specs.Worlds.{three}
use Rattle.rank_core.specs.Seat.{Seat}
use Rattle.rank_core.specs.Seats.{seat_of}
use Rattle.rank_tests.proofs.Rows.{answer_first, answer_second}
use Rattle.rank_tests.proofs.row.take_both.Goals as goal

pub hand-requires-clause-fits : goal.hand-requires-clause-fits
hand-requires-clause-fits g c κs within = (three, c.requires.stands, c.requires.one.truth)

pub hand-requires-clause-fresh : goal.hand-requires-clause-fresh
hand-requires-clause-fresh g c κs within = answer_first (seat_of c.args.rank.now) c.args.one c.requires.one.kind c.requires.read c.requires.unanswered c.requires.one_asked

pub hand-requires-2-clause-fits : goal.hand-requires-2-clause-fits
hand-requires-2-clause-fits g c κs within = (three, c.hand.ensures.kept three c.requires.stands c.requires.one.truth, c.requires.two.truth)

pub hand-requires-2-clause-mine : goal.hand-requires-2-clause-mine
hand-requires-2-clause-mine g c κs within = c.requires.two.to_is ∙ sym (ap (λ (s : Seat). s.me) c.hand.ensures.seat ∙ c.requires.me)

pub hand-requires-2-clause-fresh : goal.hand-requires-2-clause-fresh
hand-requires-2-clause-fresh g c κs within = answer_second three 21 42 0 (seat_of c.args.rank.now) (seat_of c.hand.new.rank) c.args.one c.args.two (λ e. omega (arith, e)) c.requires.one c.requires.two c.requires.read c.requires.unanswered c.requires.two_asked c.hand.ensures.seat

pub returns : goal.returns
returns g c = record { stands = c.hand-2.ensures.kept three (c.hand.ensures.kept three c.requires.stands c.requires.one.truth) c.requires.two.truth }
