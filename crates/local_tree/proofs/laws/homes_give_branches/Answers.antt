use Rattle.rank_model.proofs.Homes.{home-branches}
use Rattle.local_tree.proofs.laws.homes_give_branches.Goals as goal

pub returns : goal.returns
returns c = record { law = home-branches }
