-- The lemmas that the functions name.
use Rattle.std.proofs.lemmas.Nat.{mul-le}

-- a product is at most that of greater factors
pub ruleset on_sums = (mul-le)
