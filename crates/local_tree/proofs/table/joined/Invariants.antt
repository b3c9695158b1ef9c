use Rattle.std.proofs.Common.{◌-◌, ◌≤◌, length}
use Rattle.local_tree.proofs.Parts.{IsPart, from_digit}
use Rattle.local_tree.proofs.table.joined.Given as goal

abbrev pub invariant-loop-back : goal.invariant-loop-back
invariant-loop-back l = record {
  part : IsPart l.span.key (from_digit l.bodies l.span.key (8 - l.back)) l.sum;
  within : l.taken ≤ length l.recs;
}
