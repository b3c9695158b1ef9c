use Rattle.std.specs.Prelude.{All}
use Rattle.local_tree.specs.Spans.{IsSpan}
use Rattle.local_tree.proofs.spans.spans_of.Given as goal

abbrev pub invariant-loop-k : goal.invariant-loop-k
invariant-loop-k l = All (IsSpan l.bodies) l.spans.items
