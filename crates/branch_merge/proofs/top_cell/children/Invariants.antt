use Rattle.std.proofs.Common.{◌≡◌, take, map, filter}
use Rattle.hot_units.specs.Keys.{child, digits}
use Rattle.branch_merge.specs.Tops.{has_listed}
use Rattle.branch_merge.proofs.top_cell.children.Given as goal

abbrev pub invariant-loop-digit : goal.invariant-loop-digit
invariant-loop-digit l = l.children.items ≡ filter (has_listed l.own) (map (child l.cell) (take l.digit digits))
