use Rattle.std.proofs.Common.{sym, subst}
use Rattle.work_split.specs.Splits.{world_of}
use Rattle.split_table.specs.Steps.{AreLists}
use Rattle.split_table.proofs.table.SplitTable.of.Goals as goal

-- shares, branches and top cells are those of the set split over the ranks
pub returns : goal.returns
returns c =
    let w = world_of c.args.set.now c.args.ranks in
    let second : AreLists w c.deref-2.result.now = subst (AreLists w) (sym c.deref-2.ensures.value) c.in_ok-lists.ensures.lists in
    let third : AreLists w c.deref-3.result.now = subst (AreLists w) (sym c.deref-3.ensures.value) c.in_ok-lists.ensures.lists in
    record { value = rw (c.in_ok-shares.ensures.value, c.in_ok-branches.ensures.value w second, c.in_ok-tops.ensures.value w third) }
