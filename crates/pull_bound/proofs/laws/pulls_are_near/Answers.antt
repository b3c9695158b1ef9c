use Rattle.pull_bound.proofs.Pulls.{pull-near, pull-points, pull-vanishes}
use Rattle.pull_bound.proofs.laws.pulls_are_near.Goals as goal

pub returns : goal.returns
returns c = record { size = pull-near; toward = pull-points; nowhere = pull-vanishes }
