-- The lemmas that level and covers name.
use Rattle.hot_units.proofs.Digits.{level-le, cell-pos, third-level, covers-by}

-- of levels: at most 21, keys above 0, and a third of the highest bit's place
pub ruleset on_levels = (level-le, cell-pos, third-level)

-- of covering: keys above 0, and the test by the highest bits
pub ruleset on_covers = (cell-pos, covers-by)
