use Rattle.std.proofs.Common.{◌≡◌, ◌++◌, take}
use Rattle.branch_merge.specs.Listing.{of_rank}
use Rattle.branch_merge.proofs.listed.add_list.Given as goal

abbrev pub invariant-loop-rec : goal.invariant-loop-rec
invariant-loop-rec l = l.listed.items ≡ l.initial.listed.items ++ of_rank l.rank (take l.rec-index l.rec-items)
