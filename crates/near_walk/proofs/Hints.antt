-- The lemmas that the functions name.
use Rattle.std.proofs.lemmas.Nat.{mul-le}
use Rattle.hot_model.proofs.Pulls.{distance2-is}
use Rattle.near_walk.proofs.Insertions.{length-ascending, ascending-push, sorted-is}

-- products of distances
pub ruleset on_along = (mul-le)

-- squared distances
pub ruleset on_distance = (distance2-is)

-- rows in order
pub ruleset on_rows = (length-ascending, ascending-push, sorted-is)
