use Rattle.std.proofs.Common.{◌≡◌}
use Rattle.morton_key.proofs.Axes.{corner-shifted}
use Rattle.morton_key.proofs.boxes.corner_along.Goals as goal

-- the answer is the least coordinate in the cell along the axis
pub returns-clause-value : goal.returns-clause-value
returns-clause-value c =
    (corner-shifted c.args.cell c.args.axis c.level-depth.result c.bits_along.result c.requires.cell c.level-depth.ensures.value c.bits_along.ensures.value).0

-- the answer is below 2^29
pub returns-clause-within : goal.returns-clause-within
returns-clause-within c =
    (corner-shifted c.args.cell c.args.axis c.level-depth.result c.bits_along.result c.requires.cell c.level-depth.ensures.value c.bits_along.ensures.value).1
