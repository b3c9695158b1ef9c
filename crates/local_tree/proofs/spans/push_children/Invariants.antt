use Rattle.std.proofs.Common.{◌≡◌}
use Rattle.std.specs.Prelude.{All}
use Rattle.morton_key.specs.Ranges.{count_below}
use Rattle.local_tree.specs.Spans.{IsSpan}
use Rattle.local_tree.proofs.Edges.{edge}
use Rattle.local_tree.proofs.spans.push_children.Given as goal

abbrev pub invariant-loop-digit : goal.invariant-loop-digit
invariant-loop-digit l = record {
  from : l.from ≡ count_below (edge l.span.key l.digit) l.bodies;
  spans : All (IsSpan l.bodies) l.spans.items;
}
