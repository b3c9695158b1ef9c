use Rattle.std.proofs.Common.{◌≡◌, take}
use Rattle.branch_merge.specs.Merged.{sums_of}
use Rattle.branch_merge.proofs.top_cell.added_up.Given as goal

abbrev pub invariant-loop-x : goal.invariant-loop-x
invariant-loop-x l = l.rec ≡ sums_of l.cell (take l.x-index l.own)
