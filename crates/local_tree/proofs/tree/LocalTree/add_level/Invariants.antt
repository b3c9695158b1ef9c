use Rattle.std.proofs.Common.{◌≡◌, ◌++◌, eqb, map, filter, take}
use Rattle.std.specs.List.{dedup}
use Rattle.hot_units.specs.Keys.{key_of_body, front}
use Rattle.hot_model.specs.Trees.{cell_record}
use Rattle.rank_model.specs.Homes.{is_home_branch}
use Rattle.local_tree.proofs.Fronts.{last_or}
use Rattle.local_tree.proofs.tree.LocalTree.add_level.Given as goal

abbrev pub invariant-loop-b : goal.invariant-loop-b
invariant-loop-b l = record {
  listed : l.list ≡ l.initial.list ++ map (cell_record l.self.bodies) (filter (is_home_branch l.self.bodies l.self.left l.self.right) (dedup eqb (map (λ b. front l.level (key_of_body b)) (take l.b-index l.self.bodies))));
  last : l.last ≡ last_or 0 (map (λ b. front l.level (key_of_body b)) (take l.b-index l.self.bodies));
}
