use Rattle.std.proofs.Common.{◌≡◌, ◌+◌, ◌-◌, ◌/◌, ◌<◌, length, sym, ap, ◌∙◌, arith}
use Rattle.hot_units.specs.Values.{CellValue}
use Rattle.morton_key.specs.Ranges.{first_key}
use Rattle.branch_merge.specs.Merged.{first_of}
use Rattle.branch_merge.proofs.Runs.{under_upto, over_from}
use Rattle.branch_merge.proofs.run.count_to.Goals as goal

pub loop-low-preserved-then-first_key-key : goal.loop-low-preserved-then-first_key-key
loop-low-preserved-then-first_key-key c =
    let middle = c.loop-low.low + (c.loop-low.high - c.loop-low.low) / 2 in
    let x = c.index-listed-middle.result in
    let first : first_of x ≡ c.first_key.result = ap first_of c.index-listed-middle.is ∙ sym (c.first_key.ensures.value ∙ ap (λ (r : CellValue). first_key r.key) c.rec.view_is) in
    let within : middle < length c.args.listed.now = omega arith in
    record {
      under = under_upto c.args.listed.now c.args.key middle x c.requires.order within c.index-listed-middle.is (omega (arith, first, c.if-first_key-key.true));
      over = c.loop-low.invariant.over;
      ends = omega arith;
      within = c.loop-low.invariant.within;
    }

pub loop-low-preserved : goal.loop-low-preserved
loop-low-preserved c =
    let middle = c.loop-low.low + (c.loop-low.high - c.loop-low.low) / 2 in
    let x = c.index-listed-middle.result in
    let first : first_of x ≡ c.first_key.result = ap first_of c.index-listed-middle.is ∙ sym (c.first_key.ensures.value ∙ ap (λ (r : CellValue). first_key r.key) c.rec.view_is) in
    let within : middle < length c.args.listed.now = omega arith in
    record {
      under = c.loop-low.invariant.under;
      over = over_from c.args.listed.now c.args.key middle x c.requires.order within c.index-listed-middle.is (omega (arith, first, c.if-first_key-key.false));
      ends = omega arith;
      within = omega arith;
    }
