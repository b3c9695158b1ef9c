use Rattle.std.proofs.Common.{subst, arith, ap, ◌∙◌}
use Rattle.rank_model.specs.Needs.{IsAbove}
use Rattle.morton_key.proofs.Numbers.{child_fits, child_is_cell}
use Rattle.branch_merge.specs.declared.listed.Listed.{Listed}
use Rattle.branch_merge.specs.Tops.{has_listed}
use Rattle.branch_merge.proofs.Cells.{none_above_child}
use Rattle.branch_merge.proofs.Apart.{cell_in}
use Rattle.branch_merge.proofs.Adding.{child_room, child_kept, child_left}
use Rattle.branch_merge.proofs.top_cell.children.Goals as goal
use Rattle.branch_merge.proofs.top_cell.children.Goals.{then-from-to, else-from-to}

pub overflow_mul-child : goal.overflow_mul-child
overflow_mul-child c = omega (arith, child_fits c.args.cell c.loop-digit.digit c.requires.cell c.requires.upper c.loop-digit-test.true)

pub overflow_add-child : goal.overflow_add-child
overflow_add-child c = omega (arith, child_fits c.args.cell c.loop-digit.digit c.requires.cell c.requires.upper c.loop-digit-test.true)

pub run-from-requires-clause-cell : goal.run-from-requires-clause-cell
run-from-requires-clause-cell c = child_is_cell c.args.cell c.loop-digit.digit c.requires.cell c.requires.upper c.loop-digit-test.true

pub run-from-requires-clause-outside : goal.run-from-requires-clause-outside
run-from-requires-clause-outside c x m a =
    let b : IsAbove c.args.cell x.rec.key = subst (λ (y : Listed). IsAbove c.args.cell y.rec.key) m.2 (c.requires.below m.0 x m.1) in
    none_above_child x.rec.key c.args.cell c.loop-digit.digit (cell_in c.args.own.now c.requires.sorted.cells x m) c.requires.cell c.requires.upper c.loop-digit-test.true b a

pub push-requires : goal.push-requires
push-requires c = (omega arith, child_room (has_listed c.args.own.now) c.args.cell c.loop-digit.digit c.loop-digit.children.items c.loop-digit-test.true c.loop-digit.invariant)

pub loop-digit-preserved : goal.loop-digit-preserved
loop-digit-preserved c =
    let xs = c.args.own.now in
    let cell = c.args.cell in
    let d = c.loop-digit.digit in
    let run = c.run-from.ensures in
    elim c.if-from-to.branch [
      | then-from-to w ↦ child_kept xs cell d c.run-from.result.0 c.run-from.result.1 c.loop-digit.children.items c.if-from-to.children.items c.loop-digit-test.true run.covered w.if-from-to.true run.within c.loop-digit.invariant (ap (λ v. v.items) w.children-is ∙ w.push.ensures.items)
      | else-from-to w ↦ child_left xs cell d c.run-from.result.0 c.run-from.result.1 c.loop-digit.children.items c.if-from-to.children.items c.loop-digit-test.true run.covered run.ascending w.if-from-to.false run.within c.loop-digit.invariant (ap (λ v. v.items) w.children-is)
    ]
