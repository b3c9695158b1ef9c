use Rattle.rank_model.proofs.Homes.{home-is-own}
use Rattle.local_tree.proofs.laws.homes_are_own.Goals as goal

pub returns : goal.returns
returns c = record { law = home-is-own }
