use Rattle.std.proofs.Common.{length, ap, arith}
use Rattle.branch_merge.proofs.Listings.{lists-length}
use Rattle.split_table.proofs.AllBranches.{branches-by_key}
use Rattle.split_table.proofs.branches.all_branches.Goals as goal

-- there are at most as many lists as there may be ranks
pub gathered-requires : goal.gathered-requires
gathered-requires c =
    let w = c.requires.lists.0 in
    let l = c.requires.lists.1 in
    record { few = omega (arith, l.many, ap length l.lists_are, lists-length w) }

-- the gathered records by ascending key are the branches of all ranks
pub returns : goal.returns
returns c = record { value = λ w l. branches-by_key w c.args.lists.now c.in_ok-listed.listed.items c.in_key_order.result.items l c.in_ok-listed.ensures.value c.in_key_order.ensures.order }
