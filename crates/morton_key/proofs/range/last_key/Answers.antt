use Rattle.std.proofs.Common.{arith}
use Rattle.morton_key.proofs.Numbers.{one_shifted, last_from_first, last_body, is_greatest}
use Rattle.morton_key.proofs.range.last_key.Goals as goal

-- the last key of a cell fits 64 bits
pub overflow_add-result : goal.overflow_add-result
overflow_add-result c =
    let b = last_body c.args.cell c.requires.cell in
    rw (c.level.ensures.value, c.first_key.ensures.value, one_shifted c.args.cell c.requires.cell, last_from_first c.args.cell) (omega (arith, b.1))

-- the answer is the cell's digits with sevens behind them
pub returns-clause-value : goal.returns-clause-value
returns-clause-value c = rw (c.level.ensures.value, c.first_key.ensures.value, one_shifted c.args.cell c.requires.cell) (last_from_first c.args.cell)

-- the answer is the greatest body key in the cell
pub returns-clause-greatest : goal.returns-clause-greatest
returns-clause-greatest c =
    rw (c.level.ensures.value, c.first_key.ensures.value, one_shifted c.args.cell c.requires.cell, last_from_first c.args.cell) (is_greatest c.args.cell c.requires.cell)
