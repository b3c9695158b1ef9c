use Rattle.std.proofs.Common.{ℕ, List, sym, ◌∙◌}
use Rattle.std.specs.Prelude.{option_to_list}
use Rattle.hot_units.specs.Values.{CellValue}
use Rattle.hot_units.specs.Keys.{child}
use Rattle.hot_model.specs.Trees.{record_at}
use Rattle.local_tree.proofs.Kids.{one_more_digit}
use Rattle.local_tree.proofs.tree.LocalTree.children.Goals as goal

pub loop-digit-preserved : goal.loop-digit-preserved
loop-digit-preserved c =
    let f : ℕ → List CellValue = λ d. option_to_list (record_at c.args.self.now.bodies (child c.args.key d)) in
    let added = rw (c.rec.ensures.value, c.child_of.ensures.value, c.loop-digit.invariant) at c.in_ok-push_some.ensures.value in
    added ∙ sym (one_more_digit f c.loop-digit.digit c.loop-digit-test.true)
