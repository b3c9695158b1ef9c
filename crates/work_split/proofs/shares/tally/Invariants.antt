use Rattle.std.proofs.Common.{◌≡◌, ◌*◌, ◌<◌, ◌≤◌, take, drop, sum_by}
use Rattle.std.specs.Prelude.{All}
use Rattle.hot_units.specs.Limits.{max_work}
use Rattle.hot_units.specs.Keys.{key_of_body}
use Rattle.hot_model.proofs.Ranges.{NoneBelow}
use Rattle.rank_model.specs.Split.{weight_in, counted, split_rank}
use Rattle.work_split.specs.Splits.{AreCounts, AreWeights}
use Rattle.work_split.proofs.shares.tally.Given as goal

-- counts and weights are those of the bodies passed, and the rank is that of the key at hand
abbrev pub invariant-loop-b : goal.invariant-loop-b
invariant-loop-b l = record {
  before : l.before ≡ sum_by (counted (weight_in l.weights) l.bodies) (take l.b-index l.bodies);
  within : l.before ≤ l.b-index * max_work;
  rank : l.rank ≡ split_rank (weight_in l.weights) l.bodies l.ranks l.key;
  inside : l.rank < l.ranks;
  passed : All (λ b. key_of_body b ≤ l.key) (take l.b-index l.bodies);
  ahead : NoneBelow l.key (drop l.b-index l.bodies);
  counts : AreCounts l.bodies l.weights l.ranks (take l.b-index l.bodies) l.counts.items;
  sums : AreWeights l.bodies l.weights l.ranks (take l.b-index l.bodies) l.sums.items;
}
