use Rattle.branch_merge.proofs.TrueTops.{merged_is_true}
use Rattle.branch_merge.proofs.laws.merged_is_true.Goals as goal

pub returns : goal.returns
returns c = record { law = merged_is_true }
