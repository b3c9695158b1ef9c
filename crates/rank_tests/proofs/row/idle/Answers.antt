use Rattle.rank_tests.specs.Worlds.{three}
use Rattle.rank_tests.proofs.row.idle.Goals as goal

pub advance-requires-clause-fits : goal.advance-requires-clause-fits
advance-requires-clause-fits g c κs within = (three, c.hear_all.ensures.stands)
