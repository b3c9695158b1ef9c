use Rattle.std.proofs.Common.{◌≡◌}
use Rattle.branch_merge.proofs.Gathering.{from_lists}
use Rattle.branch_merge.proofs.listed.gathered.Given as goal

abbrev pub invariant-loop-rank : goal.invariant-loop-rank
invariant-loop-rank l = l.listed.items ≡ from_lists l.lists l.rank
