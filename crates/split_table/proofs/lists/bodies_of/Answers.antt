use Rattle.split_table.proofs.Parts.{split_is_good}
use Rattle.split_table.proofs.lists.bodies_of.Goals as goal

-- a set that is split is a good world
pub returns-clause-good : goal.returns-clause-good
returns-clause-good c = split_is_good c.args.set.now c.args.ranks c.bodies-bodies.ensures.facts c.requires.split.one
