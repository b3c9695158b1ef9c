use Rattle.std.proofs.Common.{arith}
use Rattle.std.proofs.lemmas.List.Elements.{All-push}
use Rattle.local_tree.specs.Spans.{IsSpan}
use Rattle.local_tree.proofs.spans.push_some.Goals as goal

pub returns : goal.returns
returns c = record {
  spans = λ bodies all one. rw c.in_ok-push.ensures.items (All-push (IsSpan bodies) c.args.spans.now.items c.args.span all (one (omega arith)));
}
