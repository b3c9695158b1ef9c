use Rattle.std.proofs.Common.{ℕ, ◌≡◌, eqb, List, take, ap, subst, arith}
use Rattle.std.proofs.lemmas.List.{take_all}
use Rattle.std.proofs.lemmas.List.Elements.{All-more}
use Rattle.std.proofs.lemmas.List.Filters.{dedup_is}
use Rattle.hot_units.specs.Values.{CellValue}
use Rattle.hot_units.specs.Keys.{IsCell}
use Rattle.branch_merge.specs.declared.listed.Listed.{Listed}
use Rattle.branch_merge.specs.Merged.{Gains, AreCells}
use Rattle.branch_merge.proofs.Upward.{HasTops, tops_more, tops_sorted}
use Rattle.branch_merge.proofs.above.keys_above.Goals as goal

pub loop-x-preserved : goal.loop-x-preserved
loop-x-preserved c =
    let x = c.x-item.result in
    let key : c.rec.inside.key ≡ x.rec.key = ap (λ (r : CellValue). r.key) c.rec.view_is in
    let cell : IsCell x.rec.key = subst IsCell key c.rec.invariant.0.cell in
    let gains : Gains c.loop-x.keys.items c.add_above.new.keys.items x.rec.key = subst (λ (k : ℕ). Gains c.loop-x.keys.items c.add_above.new.keys.items k) key c.in_ok-add_above.ensures.gains in
    record {
      before = c.rec.invariant.0.cell;
      added = c.in_ok-add_above.ensures.gains.every;
      cells = All-more (λ (y : Listed). IsCell y.rec.key) c.args.listed.now c.loop-x.x-index x c.loop-x-test.true c.loop-x.invariant.cells (subst (λ (y : Listed). IsCell y.rec.key) c.x-item.is cell);
      tops = tops_more c.args.listed.now c.loop-x.x-index x c.loop-x.keys.items c.add_above.new.keys.items c.loop-x-test.true c.x-item.is c.loop-x.invariant.tops gains;
    }

pub returns-clause-tops : goal.returns-clause-tops
returns-clause-tops c =
    let all : take c.loop-x.x-index c.args.listed.now ≡ c.args.listed.now = take_all c.loop-x.x-index c.args.listed.now (omega arith) in
    tops_sorted c.args.listed.now c.loop-x.keys.items c.sort_unstable.new.self.items c.dedup.new.self.items
    (subst (λ (ys : List Listed). HasTops ys c.loop-x.keys.items) all c.loop-x.invariant.tops)
    c.sort_unstable.ensures.permutation c.sort_unstable.ensures.sorted
    (dedup_is eqb c.sort_unstable.new.self.items c.dedup.new.self.items c.dedup.ensures.filtered)

pub returns-clause-cells : goal.returns-clause-cells
returns-clause-cells c =
    let all : take c.loop-x.x-index c.args.listed.now ≡ c.args.listed.now = take_all c.loop-x.x-index c.args.listed.now (omega arith) in
    subst (λ (ys : List Listed). AreCells ys) all c.loop-x.invariant.cells
