use Rattle.branch_merge.proofs.Merging.{true_lists_merge}
use Rattle.branch_merge.proofs.laws.true_lists_merge.Goals as goal

pub returns : goal.returns
returns c = record { law = true_lists_merge }
