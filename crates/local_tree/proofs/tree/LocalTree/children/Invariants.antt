use Rattle.std.proofs.Common.{◌≡◌, take, flat_map}
use Rattle.std.specs.Prelude.{option_to_list}
use Rattle.hot_units.specs.Keys.{child, digits}
use Rattle.hot_model.specs.Trees.{record_at}
use Rattle.local_tree.proofs.tree.LocalTree.children.Given as goal

abbrev pub invariant-loop-digit : goal.invariant-loop-digit
invariant-loop-digit l = l.list ≡ flat_map (λ d. option_to_list (record_at l.self.bodies (child l.key d))) (take l.digit digits)
