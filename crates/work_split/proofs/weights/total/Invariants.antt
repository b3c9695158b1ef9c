use Rattle.std.proofs.Common.{◌≡◌, ◌*◌, ◌≤◌, take, sum_by}
use Rattle.hot_units.specs.Limits.{max_work}
use Rattle.rank_model.specs.Split.{weight_in}
use Rattle.work_split.proofs.weights.total.Given as goal

-- the sum is that of the weights of the bodies passed
abbrev pub invariant-loop-b : goal.invariant-loop-b
invariant-loop-b l = record {
  value : l.sum ≡ sum_by (weight_in l.weights) (take l.b-index l.bodies);
  within : l.sum ≤ l.b-index * max_work;
}
