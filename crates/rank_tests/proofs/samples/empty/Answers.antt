use Rattle.rank_tests.specs.Worlds.{five}
use Rattle.rank_tests.proofs.Worlds.{here_empty}
use Rattle.rank_tests.proofs.samples.empty.Goals as goal

-- there is a world whose rank q has no bodies
pub new-requires-clause-fits : goal.new-requires-clause-fits
new-requires-clause-fits g c κs within = (five, here_empty c.args.q c.requires.higher c.requires.within)

-- the rank stands for the world of five bodies at one place
pub returns-clause-stands : goal.returns-clause-stands
returns-clause-stands g c =
    let stands = rw c.expect.ensures at c.new.ensures.stands in
    stands five (here_empty c.args.q c.requires.higher c.requires.within)
