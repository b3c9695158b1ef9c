use Rattle.rank_tests.specs.Worlds.{two}
use Rattle.rank_tests.proofs.ranks.couple.Goals as goal

pub advance-requires-clause-fits : goal.advance-requires-clause-fits
advance-requires-clause-fits g c κs within = (two, c.answer.ensures.left_stands)

pub advance-requires-2-clause-fits : goal.advance-requires-2-clause-fits
advance-requires-2-clause-fits g c κs within = (two, c.answer.ensures.right_stands)
