use Rattle.well_walk.proofs.Folds.{fold-is-potential}
use Rattle.well_walk.proofs.laws.potential_by_terms.Goals as goal

pub returns : goal.returns
returns c = record { law = fold-is-potential }
