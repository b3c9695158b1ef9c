-- The lemmas that the functions name.
use Rattle.hot_units.proofs.Digits.{cell-pos}
use Rattle.morton_key.proofs.Numbers.{parent_cell, parent_lifts}

-- of the test of a cell: cell keys are above 0
pub ruleset on_tests = (cell-pos)

-- of the parent of a cell below the root: it is a cell, one level higher
pub ruleset on_parents = (parent_cell, parent_lifts)
