use Rattle.near_walk.proofs.Gaps.{none-unopened}
use Rattle.near_walk.proofs.laws.none_unopened.Goals as goal

pub returns : goal.returns
returns c = record { law = none-unopened }
