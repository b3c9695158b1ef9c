use Rattle.rank_tests.specs.Worlds.{five}
use Rattle.rank_tests.proofs.ranks.trio.Goals as goal

pub advance-requires-clause-fits : goal.advance-requires-clause-fits
advance-requires-clause-fits g c κs within = (five, c.hear_two.ensures.stands)

pub advance-requires-2-clause-fits : goal.advance-requires-2-clause-fits
advance-requires-2-clause-fits g c κs within = (five, c.hear_two-2.ensures.stands)

pub advance-requires-3-clause-fits : goal.advance-requires-3-clause-fits
advance-requires-3-clause-fits g c κs within = (five, c.hear_two-3.ensures.stands)
