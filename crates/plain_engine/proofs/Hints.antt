-- The lemmas that functions name.
use Rattle.std.proofs.lemmas.List.Elements.{filter_more}
use Rattle.std.proofs.lemmas.List.{append-nil, map_more}
use Rattle.std.proofs.lemmas.List.Sums.{sum_by_more, sum_by_more_le, fold_push}
use Rattle.hot_model.proofs.Walks.{inside-short}
use Rattle.plain_engine.proofs.Below.{child-lower}
use Rattle.std.proofs.lemmas.Nat.{mul-le}

-- of the bodies of a cell: what is kept of one item more
pub ruleset on_inside = (filter_more, append-nil)

-- of a record: sums over one item more, and their bounds
pub ruleset on_record = (sum_by_more, sum_by_more_le, mul-le)

-- of bodies added one by one: sums, values and folds over one item more
pub ruleset on_listed = (sum_by_more, sum_by_more_le, map_more, fold_push)

-- of what is known of a cell: it has at most as many bodies as the list
pub ruleset on_known = (inside-short)

-- of the walk: a child has fewer levels below it than its cell
pub ruleset on_walk = (child-lower)
