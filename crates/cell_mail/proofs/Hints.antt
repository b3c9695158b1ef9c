-- The lemmas that functions name.
use Rattle.std.proofs.lemmas.Nat.{mul-le, one_shl, pow_pos, pow_below}
use Rattle.hot_units.proofs.Digits.{two_pow_three, level-le}
use Rattle.cell_mail.proofs.Letters.{is_letter, spelled-is}
use Rattle.cell_mail.proofs.LetterLaws.{one_spelling, one_content}
use Rattle.cell_mail.proofs.Checks.{is_cell-same, is_record-facts, is_sent-facts, below_root-is, is_cell-is, firsts-small, second-past}

-- for functions that test keys
pub ruleset on_cells = (is_cell-same, is_cell-is)

-- for functions that test records
pub ruleset on_records = (is_record-facts)

-- for functions that test bodies
pub ruleset on_bodies = (is_sent-facts)

-- for functions that test keys of answers
pub ruleset on_items = (below_root-is)

-- for functions that make letters
pub ruleset on_letters = (is_letter, spelled-is)

-- for the laws
pub ruleset on_laws = (one_spelling, one_content)

-- for the passes over the levels
pub ruleset on_passes = (two_pow_three)

-- for the extent of a cell
pub ruleset on_extents = (level-le, one_shl, pow_pos)

-- for the sums of a record
pub ruleset on_sums = (mul-le, second-past)

-- for the first sums of a record
pub ruleset on_firsts = (firsts-small)
