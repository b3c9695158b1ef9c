use Rattle.std.proofs.Common.{◌≡◌, ◌+◌, ◌-◌, ◌/◌, ◌<◌, length, sym, ap, ◌∙◌, arith}
use Rattle.hot_units.specs.Values.{CellValue}
use Rattle.branch_merge.specs.Merged.{key_of_top}
use Rattle.branch_merge.proofs.Runs.{less_upto, more_from, none_here}
use Rattle.branch_merge.proofs.find.find.Goals as goal

pub loop-low-preserved-then-rec-key : goal.loop-low-preserved-then-rec-key
loop-low-preserved-then-rec-key c =
    let middle = c.loop-low.low + (c.loop-low.high - c.loop-low.low) / 2 in
    let x = c.index-cells-middle.result in
    let key : key_of_top x ≡ c.rec.inside.key = ap key_of_top c.index-cells-middle.is ∙ sym (ap (λ (r : CellValue). r.key) c.rec.view_is) in
    let within : middle < length c.args.cells.now = omega arith in
    record {
      under = less_upto key_of_top c.args.cells.now c.args.key middle x c.requires.order within c.index-cells-middle.is (omega (arith, key, c.if-rec-key.true));
      over = c.loop-low.invariant.over;
      ends = omega arith;
      within = c.loop-low.invariant.within;
    }

pub loop-low-preserved : goal.loop-low-preserved
loop-low-preserved c =
    let middle = c.loop-low.low + (c.loop-low.high - c.loop-low.low) / 2 in
    let x = c.index-cells-middle.result in
    let key : key_of_top x ≡ c.rec.inside.key = ap key_of_top c.index-cells-middle.is ∙ sym (ap (λ (r : CellValue). r.key) c.rec.view_is) in
    let within : middle < length c.args.cells.now = omega arith in
    record {
      under = c.loop-low.invariant.under;
      over = more_from key_of_top c.args.cells.now c.args.key middle x c.requires.order within c.index-cells-middle.is (omega (arith, key, c.if-rec-key.false));
      ends = omega arith;
      within = omega arith;
    }

pub returns-else-rec-key-2 : goal.returns-else-rec-key-2
returns-else-rec-key-2 c =
    let x = c.index-cells-low.result in
    let key : key_of_top x ≡ c.rec-2.inside.key = sym (ap (λ (r : CellValue). r.key) c.rec-2.view_is) in
    let within : c.loop-low.low < length c.args.cells.now = omega (arith, c.if-low-cells.false) in
    record {
      found = none_here key_of_top c.args.cells.now c.args.key c.loop-low.low x c.requires.order c.loop-low.invariant.under (λ k d h. c.loop-low.invariant.over k d (omega (arith, h))) within c.index-cells-low.is (λ e. c.if-rec-key-2.false (sym key ∙ e));
    }
