use Rattle.near_walk.proofs.Members.{rows-of-neighbours}
use Rattle.near_walk.proofs.laws.rows_of_neighbours.Goals as goal

pub returns : goal.returns
returns c = record { law = rows-of-neighbours }
