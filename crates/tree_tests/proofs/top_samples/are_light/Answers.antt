use Rattle.std.proofs.Common.{ℕ, ◌≡◌, ◌≤◌, ap, subst, arith}
use Rattle.std.proofs.lemmas.List.Elements.{All-more}
use Rattle.std.proofs.lemmas.List.Sums.{sum_by_more}
use Rattle.hot_units.specs.Values.{CellValue}
use Rattle.branch_merge.specs.declared.listed.Listed.{Listed}
use Rattle.tree_tests.proofs.top_samples.are_light.Goals as goal

abbrev count_of : Listed → ℕ
count_of x = x.rec.count

abbrev mass_of : Listed → ℕ
mass_of x = x.rec.mass

pub loop-x-preserved : goal.loop-x-preserved
loop-x-preserved c =
    let xs = c.args.listed.now in
    let i = c.loop-x.x-index in
    let x = c.x-item.result in
    let count : c.rec.inside.count ≡ count_of x = ap (λ (r : CellValue). r.count) c.rec.view_is in
    let mass : c.rec.inside.mass ≡ mass_of x = ap (λ (r : CellValue). r.mass) c.rec.view_is in
    let some : 1 ≤ count_of x = omega (arith, count, c.if-rec-eq0.false) in
    let same_count = ap count_of c.x-item.is in
    let same_mass = ap mass_of c.x-item.is in
    record {
      some = All-more (λ (y : Listed). 1 ≤ y.rec.count) xs i x c.loop-x-test.true c.loop-x.invariant.some (subst (λ (y : Listed). 1 ≤ y.rec.count) c.x-item.is some);
      counted = omega (arith, sum_by_more count_of xs i x c.loop-x-test.true, same_count, count, c.from-count.ensures, c.loop-x.invariant.counted);
      weighed = omega (arith, sum_by_more mass_of xs i x c.loop-x-test.true, same_mass, mass, c.loop-x.invariant.weighed);
      few = omega (arith, c.if-count-from.false, c.from.ensures);
      light = omega arith;
    }
