use Rattle.rank_tests.specs.Worlds.{three}
use Rattle.rank_core.specs.Seats.{seat_of}
use Rattle.rank_tests.proofs.Rows.{begun_popped}
use Rattle.rank_tests.proofs.row.tell.Goals as goal

pub returns-clause-stands : goal.returns-clause-stands
returns-clause-stands g c = c.next-letter.ensures.popped.kept three c.requires.stands

pub returns-clause-begun : goal.returns-clause-begun
returns-clause-begun g c = begun_popped c.args.me (seat_of c.args.rank.now) (seat_of c.next-letter.new.rank) c.next-letter.result c.requires.begun c.next-letter.ensures.popped.out
