-- The world of a set that is shared out.
use Rattle.rank_model.specs.World.{World}
use Rattle.rank_model.specs.Split.{weight_in, split_world}
use Rattle.key_order.specs.Ordered.{OrderedValue}
use Rattle.rank_set.specs.declared.sharing.Sharing.{Sharing}

-- the bodies, split by their weights over the ranks, with the leaf limit
abbrev pub shared : OrderedValue → Sharing → World
shared set s = split_world (weight_in set.weights) set.bodies s.ranks s.leaf
