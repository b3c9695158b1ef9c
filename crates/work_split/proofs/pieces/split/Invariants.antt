use Rattle.std.proofs.Common.{suc, ◌≡◌, map}
use Rattle.hot_units.specs.Numbers.{numbers_below}
use Rattle.work_split.specs.Splits.{world_of, start}
use Rattle.work_split.proofs.pieces.split.Given as goal

-- the starts of the ranks so far and of the next are listed, and that of the next is at hand
abbrev pub invariant-loop-count : goal.invariant-loop-count
invariant-loop-count l = record {
  at : l.at ≡ start (world_of l.set l.ranks) l.count-index;
  starts : l.starts.items ≡ map (start (world_of l.set l.ranks)) (numbers_below (suc l.count-index));
}
