use Rattle.morton_key.proofs.Numbers.{first_shifted, is_least}
use Rattle.morton_key.proofs.range.first_key.Goals as goal

-- the answer is the cell's digits with zeros behind them
pub returns-clause-value : goal.returns-clause-value
returns-clause-value c = rw c.level.ensures.value (first_shifted c.args.cell c.requires.cell)

-- the answer is the least body key in the cell
pub returns-clause-least : goal.returns-clause-least
returns-clause-least c = rw (c.level.ensures.value, first_shifted c.args.cell c.requires.cell) (is_least c.args.cell c.requires.cell)
