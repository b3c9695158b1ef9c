use Rattle.std.proofs.Common.{◌∙◌}
use Rattle.branch_merge.proofs.Gathering.{lists_none, lists_more}
use Rattle.branch_merge.proofs.listed.gathered.Goals as goal

pub loop-rank-init : goal.loop-rank-init
loop-rank-init c = c.new-listed.ensures.items ∙ lists_none c.args.lists.now

pub loop-rank-preserved : goal.loop-rank-preserved
loop-rank-preserved c =
    lists_more c.args.lists.now c.loop-rank.listed.items c.add_list.new.listed.items c.loop-rank.rank c.index-lists-rank.result c.loop-rank-test.true c.index-lists-rank.is c.loop-rank.invariant c.in_ok-add_list.ensures.added
