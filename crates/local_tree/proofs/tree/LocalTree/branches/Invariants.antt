use Rattle.std.proofs.Common.{◌≡◌, map, filter}
use Rattle.hot_model.specs.Trees.{cell_record}
use Rattle.hot_model.specs.Cells.{cells_above}
use Rattle.rank_model.specs.Homes.{is_home_branch}
use Rattle.local_tree.proofs.tree.LocalTree.branches.Given as goal

abbrev pub invariant-loop-level : goal.invariant-loop-level
invariant-loop-level l = l.list ≡ map (cell_record l.self.bodies) (filter (is_home_branch l.self.bodies l.self.left l.self.right) (cells_above l.self.bodies l.level))
