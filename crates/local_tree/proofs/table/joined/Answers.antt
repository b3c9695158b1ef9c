use Rattle.std.proofs.Common.{ℕ, ◌≡◌, ◌+◌, ◌-◌, ◌<◌, sym, ap, ◌∙◌, subst, arith}
use Rattle.hot_units.specs.Values.{CellValue}
use Rattle.hot_units.specs.Keys.{child}
use Rattle.hot_model.specs.Trees.{cell_record}
use Rattle.local_tree.proofs.Edges.{span-length}
use Rattle.local_tree.proofs.Falling.{key_in, record-of-known}
use Rattle.local_tree.proofs.Parts.{IsPart, from_digit, part-added, part-skipped, part-few, part-light, part-covers, part-whole}
use Rattle.local_tree.proofs.table.joined.Goals.{then-taken-recs+then-rec-child, then-taken-recs+else-rec-child, else-taken-recs}
use Rattle.local_tree.proofs.table.joined.Goals as goal

pub add-requires-clause-contained : goal.add-requires-clause-contained
add-requires-clause-contained c =
    let r = c.index-recs-taken.result in
    let same : r.key ≡ child c.args.span.key (7 - c.loop-back.back) = sym (ap key_in c.rec.view_is) ∙ (c.if-rec-child.true ∙ c.child_of-child.ensures.value) in
    part-covers c.args.span.key (7 - c.loop-back.back) (from_digit c.args.bodies.now c.args.span.key (8 - c.loop-back.back)) c.loop-back.sum r c.requires.span.cell c.requires.upper (omega arith) c.loop-back.invariant.part same

pub add-requires-clause-few : goal.add-requires-clause-few
add-requires-clause-few c =
    let xs = c.args.bodies.now in
    let r = c.index-recs-taken.result in
    let same : r.key ≡ child c.args.span.key (7 - c.loop-back.back) = sym (ap key_in c.rec.view_is) ∙ (c.if-rec-child.true ∙ c.child_of-child.ensures.value) in
    let is : r ≡ cell_record xs (child c.args.span.key (7 - c.loop-back.back)) = record-of-known xs c.args.recs.now c.loop-back.taken r c.requires.known c.if-taken-recs.true c.index-recs-taken.is ∙ ap (cell_record xs) same in
    part-few xs c.args.span.key (7 - c.loop-back.back) (8 - c.loop-back.back) c.loop-back.sum r c.requires.order c.requires.span.cell c.requires.upper c.requires.few (omega arith) (omega (arith, c.loop-back-test.true)) c.loop-back.invariant.part is

pub add-requires-clause-light : goal.add-requires-clause-light
add-requires-clause-light c =
    let xs = c.args.bodies.now in
    let r = c.index-recs-taken.result in
    let same : r.key ≡ child c.args.span.key (7 - c.loop-back.back) = sym (ap key_in c.rec.view_is) ∙ (c.if-rec-child.true ∙ c.child_of-child.ensures.value) in
    let is : r ≡ cell_record xs (child c.args.span.key (7 - c.loop-back.back)) = record-of-known xs c.args.recs.now c.loop-back.taken r c.requires.known c.if-taken-recs.true c.index-recs-taken.is ∙ ap (cell_record xs) same in
    part-light xs c.args.span.key (7 - c.loop-back.back) (8 - c.loop-back.back) c.loop-back.sum r c.requires.order c.requires.span.cell c.requires.upper c.requires.light (omega arith) (omega (arith, c.loop-back-test.true)) c.loop-back.invariant.part is

pub loop-back-preserved : goal.loop-back-preserved
loop-back-preserved c =
    let xs = c.args.bodies.now in
    let key = c.args.span.key in
    let d = 8 - (c.loop-back.back + 1) in
    let small : d < 8 = omega arith in
    let next : 8 - c.loop-back.back ≡ d + 1 = omega (arith, c.loop-back-test.true) in
    let digit : 7 - c.loop-back.back ≡ d = omega arith in
    let skipped : IsPart key (from_digit xs key d) c.loop-back.sum = part-skipped xs key d (8 - c.loop-back.back) c.loop-back.sum small next c.loop-back.invariant.part in
    elim c.if-taken-recs.branch [
      | then-taken-recs+then-rec-child w ↦
          let r = w.index-recs-taken.result in
          let same : r.key ≡ child key d = sym (ap key_in w.rec.view_is) ∙ (w.if-rec-child.true ∙ (c.child_of-child.ensures.value ∙ ap (child key) digit)) in
          let is : r ≡ cell_record xs (child key d) = record-of-known xs c.args.recs.now c.loop-back.taken r c.requires.known w.if-taken-recs.true w.index-recs-taken.is ∙ ap (cell_record xs) same in
          record {
            part = part-added xs key d (8 - c.loop-back.back) c.loop-back.sum r c.if-taken-recs.sum small next c.loop-back.invariant.part is (w.sum-is ∙ w.add.ensures.value);
            within = omega (arith, w.taken-is, w.if-taken-recs.true);
          }
      | then-taken-recs+else-rec-child w ↦ record {
        part = subst (λ (v : CellValue). IsPart key (from_digit xs key d) v) (sym w.sum-is) skipped;
        within = omega (arith, w.taken-is, c.loop-back.invariant.within);
      }
      | else-taken-recs w ↦ record {
        part = subst (λ (v : CellValue). IsPart key (from_digit xs key d) v) (sym w.sum-is) skipped;
        within = omega (arith, w.taken-is, c.loop-back.invariant.within);
      }
    ]

pub returns-then-sum-span-clause-value : goal.returns-then-sum-span-clause-value
returns-then-sum-span-clause-value c =
    let xs = c.args.bodies.now in
    let s = c.args.span in
    let none : 8 - c.loop-back.back ≡ 0 = omega (arith, c.loop-back-test.false) in
    let all : IsPart s.key (from_digit xs s.key 0) c.loop-back.sum = subst (λ (n : ℕ). IsPart s.key (from_digit xs s.key n) c.loop-back.sum) none c.loop-back.invariant.part in
    let counted : c.loop-back.sum.count ≡ s.to - s.from = ap (λ (v : CellValue). v.count) (sym c.sum.view_is) ∙ c.if-sum-span.true in
    part-whole xs s.key c.loop-back.sum c.requires.order c.requires.span.cell c.requires.upper all (counted ∙ sym (span-length xs s c.requires.order c.requires.span))
