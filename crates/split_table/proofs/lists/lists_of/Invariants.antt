use Rattle.std.proofs.Common.{◌≡◌, ◌<◌, map}
use Rattle.hot_units.specs.Numbers.{numbers_below}
use Rattle.rank_model.specs.World.{IsGood}
use Rattle.rank_model.specs.Branches.{branch_records}
use Rattle.work_split.specs.Splits.{world_of}
use Rattle.split_table.proofs.lists.lists_of.Given as goal

-- the lists are those of the ranks so far, and after one of them the world is good
abbrev pub invariant-loop-q : goal.invariant-loop-q
invariant-loop-q l = record {
  lists : l.lists.items ≡ map (branch_records (world_of l.set l.ranks)) (numbers_below l.q);
  good : 0 < l.q → IsGood (world_of l.set l.ranks);
}
