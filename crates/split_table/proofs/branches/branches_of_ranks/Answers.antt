use Rattle.std.proofs.Common.{sym, subst}
use Rattle.std.proofs.lemmas.Result.{IfOk-weaker}
use Rattle.work_split.specs.Splits.{world_of}
use Rattle.split_table.specs.Steps.{AreLists}
use Rattle.split_table.proofs.branches.branches_of_ranks.Goals as goal

-- the branches are those of the set split over the ranks
pub returns : goal.returns
returns c =
    let w = world_of c.args.set.now c.args.ranks in
    let lists : AreLists w c.deref.result.now = subst (AreLists w) (sym c.deref.ensures.value) c.in_ok-lists.ensures.lists in
    record { value = IfOk-weaker c.all_branches.result _ _ (λ v h. h w lists) c.all_branches.ensures.value }
