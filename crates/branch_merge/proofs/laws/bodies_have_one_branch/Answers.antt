use Rattle.rank_model.proofs.Owners.{branch_of, one_branch}
use Rattle.branch_merge.proofs.laws.bodies_have_one_branch.Goals as goal

pub returns : goal.returns
returns c = record {
  law = λ w b h.
      let o = branch_of w b h in
      record { cell = o.0; branch = o.1; has = o.2; only = λ q k x e. one_branch w q _ k o.0 b x o.1 h e o.2 };
}
