-- The lemmas that the functions name.
use Rattle.std.proofs.lemmas.Nat.{mul-le, mul-lt}
use Rattle.hot_model.proofs.Pulls.{distance2-is, soft2-is, root-below}
use Rattle.fixed_kernel.proofs.Fast.{quotient-is}
use Rattle.well_walk.proofs.Quotients.{root-least, quotient-small}
use Rattle.well_walk.proofs.Growth.{sums-grow}

-- products
pub ruleset on_products = (mul-le)

-- softened squared distances
pub ruleset on_distance = (mul-le, distance2-is, soft2-is)

-- scaled roots
pub ruleset on_root = (root-least, root-below)

-- quotients that were guessed
pub ruleset on_quotient = (mul-le, mul-lt, quotient-is)

-- bounds of depths
pub ruleset on_depth = (quotient-small)

-- sums
pub ruleset on_sums = (mul-le, sums-grow)
