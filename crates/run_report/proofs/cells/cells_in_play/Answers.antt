use Rattle.std.proofs.Common.{List, ◌≡◌, ◌++◌, eqb, ap, sym, ◌∙◌, arith, append-nil}
use Rattle.std.proofs.lemmas.List.{take_all}
use Rattle.std.proofs.lemmas.List.Filters.{dedup_is}
use Rattle.branch_merge.specs.declared.listed.Listed.{Listed}
use Rattle.run_report.proofs.CellsInPlay.{branch_keys, keys-more, count_is}
use Rattle.run_report.proofs.cells.cells_in_play.Goals as goal

-- at first the keys are those of the opened cells
pub loop-branch-init : goal.loop-branch-init
loop-branch-init c = c.in_ok-keys.ensures.items ∙ sym (append-nil c.args.opened.now)

-- with the key of the next branch there are those of one branch more
pub loop-branch-preserved : goal.loop-branch-preserved
loop-branch-preserved c =
    let b = c.branch-item.result in
    c.in_ok-push.ensures.items
    ∙ keys-more c.args.opened.now c.loop-branch.keys.items c.args.branches.now c.loop-branch.branch-index _ b c.loop-branch-test.true c.branch-item.is (ap (λ (x : Listed). x.rec.key) c.branch.view_is) c.loop-branch.invariant

-- each list of the cells in play, by strictly ascending key, has as many as are counted
pub returns : goal.returns
returns c = record {
  count = λ all a. (
      let keys : c.loop-branch.keys.items ≡ c.args.opened.now ++ branch_keys c.args.branches.now =
      c.loop-branch.invariant ∙ ap (λ (l : List Listed). c.args.opened.now ++ branch_keys l) (take_all c.loop-branch.branch-index c.args.branches.now c.loop-branch-test.false) in
      let n = count_is c.args.opened.now c.loop-branch.keys.items c.sort_unstable.new.self.items c.dedup.new.self.items all c.args.branches.now keys
      c.sort_unstable.ensures.permutation c.sort_unstable.ensures.sorted (dedup_is eqb c.sort_unstable.new.self.items c.dedup.new.self.items c.dedup.ensures.filtered) a in
      let l = c.len.ensures in
      let o = c.dedup.new.self.ok.0 in
      omega arith
      );
}
