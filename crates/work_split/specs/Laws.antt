-- The laws of the split.
use Rattle.std.specs.Prelude.{ℕ, ◌≡◌, ◌≤◌, length}
use Rattle.rank_model.specs.World.{IsGood}
use Rattle.rank_model.specs.Split.{weight_in, split_world}
use Rattle.key_order.specs.Ordered.{OrderedValue, IsOrderedSet}
use Rattle.work_split.specs.Splits.{world_of, start}

-- the first piece starts at 0, and behind the last is the end of the list
pub record Join (set : OrderedValue) (ranks : ℕ) : Type 0 where
  pub first : start (world_of set ranks) 0 ≡ 0
  pub last : start (world_of set ranks) ranks ≡ length set.bodies

-- the pieces of every set join to the whole
abbrev pub PiecesJoin : Type 0
PiecesJoin = (set : OrderedValue) (ranks : ℕ) → 1 ≤ ranks → Join set ranks

-- a set in order that is split is a good world, with any leaf limit
abbrev pub PiecesMakeAWorld : Type 0
PiecesMakeAWorld = (set : OrderedValue) (ranks leaf : ℕ) → IsOrderedSet set → 1 ≤ ranks → IsGood (split_world (weight_in set.weights) set.bodies ranks leaf)
