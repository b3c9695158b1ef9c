use Rattle.std.proofs.Common.{sym, ◌∙◌, arith, Some, None}
use Rattle.std.proofs.lemmas.List.{append-nil}
use Rattle.defer_walk.specs.Listing.{world_of}
use Rattle.tree_tests.proofs.Listings.{push_record}
use Rattle.tree_tests.proofs.cells_double.CellsDouble.children.Goals.{in-Some+in_ok-push, in_default}
use Rattle.tree_tests.proofs.cells_double.CellsDouble.children.Goals as goal

pub loop-digit-preserved : goal.loop-digit-preserved
loop-digit-preserved c =
    let v = c.args.self.now in
    elim c.match-record_below.branch [
      | in-Some+in_ok-push b ↦
          push_record (world_of v) c.args.key c.loop-digit.digit (Some b.in-Some.rec) c.loop-digit.children c.match-record_below.children (omega arith)
          (sym b.in-Some.is ∙ c.record_below.ensures.value) c.loop-digit.invariant (b.children-is ∙ b.in_ok-push.ensures.appended_or_unchanged)
      | in_default b ↦
          push_record (world_of v) c.args.key c.loop-digit.digit None c.loop-digit.children c.match-record_below.children (omega arith)
          (sym b.in_default.is ∙ c.record_below.ensures.value) c.loop-digit.invariant (b.children-is ∙ sym (append-nil c.loop-digit.children))
    ]
