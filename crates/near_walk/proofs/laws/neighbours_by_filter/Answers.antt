use Rattle.near_walk.proofs.Folds.{fold-is-filter}
use Rattle.near_walk.proofs.laws.neighbours_by_filter.Goals as goal

pub returns : goal.returns
returns c = record { law = fold-is-filter }
