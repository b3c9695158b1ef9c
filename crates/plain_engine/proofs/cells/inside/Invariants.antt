use Rattle.std.proofs.Common.{◌≡◌, take}
use Rattle.hot_model.specs.Trees as trees
use Rattle.plain_engine.proofs.cells.inside.Given as goal

-- what is kept so far are the bodies of the cell among the first ones
abbrev pub invariant-loop-b : goal.invariant-loop-b
invariant-loop-b l = l.kept.items ≡ trees.inside (take l.b-index l.bodies) l.cell
