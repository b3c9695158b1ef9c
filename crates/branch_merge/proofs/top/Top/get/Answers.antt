use Rattle.std.proofs.Common.{List, sym, subst}
use Rattle.std.specs.List.Sorted.{IsNonDecreasingBy}
use Rattle.branch_merge.specs.declared.listed.Listed.{Listed}
use Rattle.branch_merge.specs.Merged.{AreTopCells, key_of_top}
use Rattle.branch_merge.proofs.Holding.{keys_ascend, found_top, no_top, match_both}
use Rattle.branch_merge.proofs.top.Top.get.Goals as goal

pub find-requires : goal.find-requires
find-requires c = record {
  order = subst (IsNonDecreasingBy key_of_top) (sym c.deref.ensures.value) (keys_ascend c.self.inside.listed.items c.self.inside.cells.items c.self.invariant.tops);
}

pub returns : goal.returns
returns c =
    let cells = c.deref.result.now in
    let made : AreTopCells c.self.inside.listed.items cells = subst (AreTopCells c.self.inside.listed.items) (sym c.deref.ensures.value) c.self.invariant.tops in
    let tops : AreTopCells c.args.self.now cells = subst (λ (xs : List Listed). AreTopCells xs cells) c.self.view_is made in
    record {
      cell = match_both c.find.result (λ none. no_top c.args.self.now cells c.args.key tops none) (λ cell at. found_top c.args.self.now cells c.args.key cell.now tops at.0 at.1) c.find.ensures.found;
    }
