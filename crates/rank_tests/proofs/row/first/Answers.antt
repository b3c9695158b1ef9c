use Rattle.rank_tests.specs.Worlds.{three}
use Rattle.rank_core.specs.Seats.{seat_of}
use Rattle.rank_tests.proofs.Rows.{asked_for}
use Rattle.rank_tests.proofs.row.first.Goals as goal

pub advance-requires-clause-fits : goal.advance-requires-clause-fits
advance-requires-clause-fits g c κs within = (three, c.take_both.ensures.stands)

pub take_both-requires-clause-one_asked : goal.take_both-requires-clause-one_asked
take_both-requires-clause-one_asked g c κs within = asked_for (seat_of c.ask_both-to_one.new.rank) c.ask_both-to_one.result.0 c.answer-one.result c.ask_both-to_one.ensures.one_asked c.answer-one.ensures.only

pub take_both-requires-clause-two_asked : goal.take_both-requires-clause-two_asked
take_both-requires-clause-two_asked g c κs within = asked_for (seat_of c.ask_both-to_one.new.rank) c.ask_both-to_one.result.1 c.answer-two.result c.ask_both-to_one.ensures.two_asked c.answer-two.ensures.only
