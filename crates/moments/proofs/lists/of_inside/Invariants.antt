use Rattle.std.proofs.Common.{◌≡◌, take}
use Rattle.hot_model.specs.Trees as trees
use Rattle.moments.proofs.lists.of_inside.Given as goal

abbrev pub invariant-loop-b : goal.invariant-loop-b
invariant-loop-b l = l.rec ≡ trees.cell_record (take l.b-index l.bodies) l.cell
