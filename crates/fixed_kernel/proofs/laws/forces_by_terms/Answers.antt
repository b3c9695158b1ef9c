use Rattle.hot_model.proofs.Ties.{fold-is-force}
use Rattle.fixed_kernel.proofs.laws.forces_by_terms.Goals as goal

pub returns : goal.returns
returns c = record { law = fold-is-force }
