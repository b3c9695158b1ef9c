use Rattle.hot_units.proofs.Sorts.{ascends_strict}
use Rattle.rank_model.specs.Branches.{branches}
use Rattle.rank_model.proofs.Counts.{branches-are, branches_ascend}
use Rattle.local_tree.proofs.laws.branches_are_listed.Goals as goal

pub returns : goal.returns
returns c = record { law = λ w q g. record { ascend = ascends_strict (branches w q) (branches_ascend w q g); all = branches-are w q } }
