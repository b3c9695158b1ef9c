-- The pieces of a set that is split over ranks.
use Rattle.std.specs.Prelude.{ℕ, suc, ◌≡◌, ◌≤◌, eqb, ltb, List, length, filter, map, sum_by, count_by, slice_index, slice_range}
use Rattle.hot_units.specs.Values.{BodyValue}
use Rattle.hot_units.specs.Numbers.{numbers_below}
use Rattle.rank_model.specs.World.{World, rank_of, piece}
use Rattle.rank_model.specs.Split.{weight_in, counted, split_world}
use Rattle.key_order.specs.Ordered.{OrderedValue}
use Rattle.work_split.specs.Values.{PiecesValue}

-- the world of bodies in order that are split by weights; its leaf limit has no part in the split
abbrev pub world_by : List BodyValue → List ℕ → ℕ → World
world_by bodies weights ranks = split_world (weight_in weights) bodies ranks 1

-- the world of a set that is split over ranks
abbrev pub world_of : OrderedValue → ℕ → World
world_of set ranks = world_by set.bodies set.weights ranks

-- the bodies of a list that are of rank q
abbrev pub part_of : World → List BodyValue → ℕ → List BodyValue
part_of w xs q = filter (λ b. eqb (rank_of w b) q) xs

-- where the piece of rank q starts: the number of bodies of lower ranks
abbrev pub start : World → ℕ → ℕ
start w q = count_by (λ b. ltb (rank_of w b) q) w.bodies

-- the weight of the bodies of rank q
abbrev pub weight_of : OrderedValue → ℕ → ℕ → ℕ
weight_of set ranks q = sum_by (counted (weight_in set.weights) set.bodies) (piece (world_of set ranks) q)

-- the pieces of a set that is split over ranks
abbrev pub pieces_of : OrderedValue → ℕ → PiecesValue
pieces_of set ranks = record {
  starts = map (start (world_of set ranks)) (numbers_below (suc ranks));
  weights = map (weight_of set ranks) (numbers_below ranks);
}

-- the number of ranks of a split
abbrev pub ranks_of : PiecesValue → ℕ
ranks_of p = length p.weights

-- the bodies of the list between two places are these
pub record IsRun (bodies part : List BodyValue) (from to : ℕ) : Type 0 where
  pub bodies_are : slice_range bodies from to ≡ part
  pub ascending : from ≤ to
  pub within : to ≤ length bodies

-- for each rank, how many bodies of a list it has
pub record AreCounts (bodies : List BodyValue) (weights : List ℕ) (ranks : ℕ) (xs : List BodyValue) (counts : List ℕ) : Type 0 where
  pub each : length counts ≡ ranks
  pub counts_are : (q : ℕ) → slice_index counts q ≡ length (part_of (world_by bodies weights ranks) xs q)

-- for each rank, the weight of its bodies of a list
pub record AreWeights (bodies : List BodyValue) (weights : List ℕ) (ranks : ℕ) (xs : List BodyValue) (sums : List ℕ) : Type 0 where
  pub each : length sums ≡ ranks
  pub sums_are : (q : ℕ) → slice_index sums q ≡ sum_by (counted (weight_in weights) bodies) (part_of (world_by bodies weights ranks) xs q)
