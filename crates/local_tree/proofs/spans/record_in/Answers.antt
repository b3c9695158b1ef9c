use Rattle.std.proofs.Common.{ℕ, ◌≡◌, Some, subst}
use Rattle.hot_model.specs.Trees.{record_at}
use Rattle.local_tree.proofs.Edges.{span-some}
use Rattle.local_tree.proofs.Records.{some-record}
use Rattle.local_tree.proofs.spans.record_in.Goals as goal

pub returns-in-Some : goal.returns-in-Some
returns-in-Some c =
    let xs = c.args.bodies.now in
    let s = c.in-Some.span in
    let h = c.in-Some.ensures.span in
    record {
      value = subst (λ (k : ℕ). Some c.summed.result ≡ record_at xs k) h.0 (some-record xs s.key c.summed.result (span-some xs s c.requires.order h.1) c.summed.ensures.value);
    }
