use Rattle.pull_bound.proofs.Narrowing.{brackets-narrow}
use Rattle.pull_bound.proofs.Forces.{force-near}
use Rattle.pull_bound.proofs.Sides.{shares-small}
use Rattle.pull_bound.proofs.laws.forces_are_near.Goals as goal

pub returns : goal.returns
returns c = record { sums = force-near; shares = λ eps a b least most bodies. shares-small eps a b most bodies; brackets = brackets-narrow }
