use Rattle.std.proofs.Common.{arith}
use Rattle.morton_key.proofs.Numbers.{child_fits, child_is_cell}
use Rattle.local_tree.proofs.places.child_of.Goals as goal

pub overflow_mul-result : goal.overflow_mul-result
overflow_mul-result c = omega (arith, child_fits c.args.key c.args.digit c.requires.cell c.requires.upper c.requires.digit)

pub overflow_add-result : goal.overflow_add-result
overflow_add-result c = omega (arith, child_fits c.args.key c.args.digit c.requires.cell c.requires.upper c.requires.digit)

pub returns-clause-cell : goal.returns-clause-cell
returns-clause-cell c = child_is_cell c.args.key c.args.digit c.requires.cell c.requires.upper c.requires.digit
