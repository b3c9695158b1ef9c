use Rattle.rank_tests.specs.Worlds.{three}
use Rattle.rank_core.specs.Seats.{seat_of}
use Rattle.std.proofs.Common.{◌∙◌, sym, arith}
use Rattle.rank_tests.proofs.Handing.{fresh_branches}
use Rattle.rank_tests.proofs.Rows.{heard_next, ready_more}
use Rattle.rank_tests.proofs.row.hear.Goals as goal

pub hand-requires-clause-fits : goal.hand-requires-clause-fits
hand-requires-clause-fits g c κs within = (three, c.requires.stands, c.told_to-letter.ensures.told.truth)

pub hand-requires-clause-mine : goal.hand-requires-clause-mine
hand-requires-clause-mine g c κs within = c.told_to-letter.ensures.told.to_is ∙ sym c.requires.ready.me

pub hand-requires-clause-fresh : goal.hand-requires-clause-fresh
hand-requires-clause-fresh g c κs within = (let e = c.told_to-letter.ensures.told.from_is in fresh_branches (seat_of c.args.rank.now) c.told_to-letter.result.from c.told_to-letter.result.content c.told_to-letter.ensures.told.kind (c.requires.heard c.told_to-letter.result.from (omega (arith, e))))

pub returns-clause-stands : goal.returns-clause-stands
returns-clause-stands g c = c.hand.ensures.kept three c.requires.stands c.told_to-letter.ensures.told.truth

pub returns-clause-ready : goal.returns-clause-ready
returns-clause-ready g c = ready_more c.args.me (seat_of c.args.rank.now) (seat_of c.hand.new.rank) c.told_to-letter.result c.requires.ready c.told_to-letter.ensures.told.kind c.hand.ensures.seat

pub returns-clause-heard : goal.returns-clause-heard
returns-clause-heard g c = heard_next c.args.q (seat_of c.args.rank.now) (seat_of c.hand.new.rank) c.told_to-letter.result c.requires.heard c.told_to-letter.ensures.told.from_is c.hand.ensures.seat
