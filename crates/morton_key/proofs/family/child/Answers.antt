use Rattle.std.proofs.Common.{◌<◌, arith}
use Rattle.hot_units.specs.Keys.{level}
use Rattle.morton_key.proofs.Numbers.{child_fits, child_is_cell, child_lowers}
use Rattle.morton_key.proofs.family.child.Goals as goal

-- eight times the key of a cell above the deepest level fits 64 bits
pub overflow_mul-result : goal.overflow_mul-result
overflow_mul-result c =
    let high : level c.args.key < 21 = omega arith in
    omega (arith, child_fits c.args.key c.args.digit c.requires.cell high c.requires.digit)

-- the key of a child of a cell above the deepest level fits 64 bits
pub overflow_add-result : goal.overflow_add-result
overflow_add-result c =
    let high : level c.args.key < 21 = omega arith in
    omega (arith, child_fits c.args.key c.args.digit c.requires.cell high c.requires.digit)

-- a child of a cell above the deepest level is a cell
pub returns-then-level-lt-MAX_LEVEL-clause-cell : goal.returns-then-level-lt-MAX_LEVEL-clause-cell
returns-then-level-lt-MAX_LEVEL-clause-cell c =
    let high : level c.args.key < 21 = omega arith in
    rw c.from.ensures (child_is_cell c.args.key c.args.digit c.requires.cell high c.requires.digit)

-- it is one level deeper
pub returns-then-level-lt-MAX_LEVEL-clause-level : goal.returns-then-level-lt-MAX_LEVEL-clause-level
returns-then-level-lt-MAX_LEVEL-clause-level c =
    let high : level c.args.key < 21 = omega arith in
    rw c.from.ensures (child_lowers c.args.key c.args.digit c.requires.cell high c.requires.digit)
