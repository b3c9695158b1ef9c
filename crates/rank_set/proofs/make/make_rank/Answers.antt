use Rattle.std.proofs.Common.{refl}
use Rattle.rank_set.specs.Sharings.{shared}
use Rattle.rank_set.proofs.Making.{here_is, shared_good, made_of}
use Rattle.rank_set.proofs.make.make_rank.Goals as goal

here_at : goal.new-requires-clause-fits
here_at g c κs within = (
  shared c.args.set.now c.args.sharing,
  here_is c.args.set.now c.args.sharing c.args.pieces.now c.args.q c.range-from.result.0 c.range-from.result.1 c.bodies-bodies.result.now _ c.neighbours-left.result.0 c.neighbours-left.result.1
      c.bodies-bodies.ensures.facts c.args.sharing.one c.requires.ranks c.requires.split (c.range-from.ensures.piece c.args.set.now c.bodies-bodies.ensures.facts) c.bodies-bodies.ensures.value refl c.neighbours-left.ensures.left c.neighbours-left.ensures.right,
)

-- there is a world in which the piece with its neighbours is that of the rank
pub new-requires-clause-fits : goal.new-requires-clause-fits
new-requires-clause-fits g c κs within = here_at g c κs within

-- the rank is the one of its number in the world of the set, and has done nothing yet
pub returns-clause-made : goal.returns-clause-made
returns-clause-made g c =
    made_of _ c.args.visit (shared c.args.set.now c.args.sharing) c.args.q _ _ _ _ _ c.new.result c.new.ensures.fresh c.new.ensures.stands
    (here_is c.args.set.now c.args.sharing c.args.pieces.now c.args.q c.range-from.result.0 c.range-from.result.1 c.bodies-bodies.result.now _ c.neighbours-left.result.0 c.neighbours-left.result.1
    c.bodies-bodies.ensures.facts c.args.sharing.one c.requires.ranks c.requires.split (c.range-from.ensures.piece c.args.set.now c.bodies-bodies.ensures.facts) c.bodies-bodies.ensures.value refl c.neighbours-left.ensures.left c.neighbours-left.ensures.right)

-- a set that is shared out is a good world
pub returns-clause-good : goal.returns-clause-good
returns-clause-good g c = shared_good c.args.set.now c.args.sharing c.bodies-bodies.ensures.facts c.args.sharing.one
