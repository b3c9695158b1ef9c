use Rattle.hot_model.specs.Trees.{cell_record}
use Rattle.rank_model.specs.Homes.{is_home_branch}
use Rattle.local_tree.proofs.Fronts.{levels-none, levels-more}
use Rattle.local_tree.proofs.tree.LocalTree.branches.Goals as goal

pub loop-level-init : goal.loop-level-init
loop-level-init c =
    let p = c.args.self.now in
    levels-none (cell_record p.bodies) (is_home_branch p.bodies p.left p.right) p.bodies c.new-list.result c.new-list.ensures.empty

pub loop-level-preserved : goal.loop-level-preserved
loop-level-preserved c =
    let p = c.args.self.now in
    levels-more (cell_record p.bodies) (is_home_branch p.bodies p.left p.right) p.bodies c.loop-level.level c.loop-level.list c.add_level.new.list c.loop-level.invariant c.in_ok-add_level.ensures.value
