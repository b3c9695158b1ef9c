use Rattle.std.proofs.Common.{◌≤◌, length}
use Rattle.local_tree.specs.Pieces.{IsFalling, AreKnown}
use Rattle.local_tree.proofs.table.records_of.Given as goal

abbrev pub invariant-loop-back : goal.invariant-loop-back
invariant-loop-back l = record {
  falling : IsFalling l.recs.items;
  known : AreKnown l.bodies l.recs.items;
  within : l.done ≤ length l.recs.items;
}
