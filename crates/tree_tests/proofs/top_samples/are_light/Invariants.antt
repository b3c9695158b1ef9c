use Rattle.std.proofs.Common.{◌≡◌, ◌<◌, ◌≤◌, ◌^◌, take, sum_by}
use Rattle.std.specs.Prelude.{All}
use Rattle.hot_units.specs.Limits.{max_all_mass}
use Rattle.tree_tests.proofs.top_samples.are_light.Given as goal

abbrev pub invariant-loop-x : goal.invariant-loop-x
invariant-loop-x l = record {
  some : All (λ x. 1 ≤ x.rec.count) (take l.x-index l.listed);
  counted : l.count ≡ sum_by (λ x. x.rec.count) (take l.x-index l.listed);
  weighed : l.mass ≡ sum_by (λ x. x.rec.mass) (take l.x-index l.listed);
  few : l.count < 2 ^ 32;
  light : l.mass ≤ max_all_mass;
}
