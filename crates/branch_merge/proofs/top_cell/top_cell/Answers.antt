use Rattle.std.proofs.Common.{List, sym, ap, ◌∙◌, subst}
use Rattle.hot_units.specs.Keys.{covers}
use Rattle.morton_key.proofs.Numbers.{child_is_cell}
use Rattle.branch_merge.specs.declared.listed.Listed.{Listed}
use Rattle.branch_merge.specs.Tops.{children_of}
use Rattle.branch_merge.specs.Merged.{AreLight, AreSorted, AreBelow, sums_of}
use Rattle.branch_merge.proofs.Cells.{covers_child}
use Rattle.branch_merge.proofs.Apart.{top_outside, top_below, top_is_high, sorted_part}
use Rattle.branch_merge.proofs.Adding.{light_part, sums_joined, children_within}
use Rattle.branch_merge.proofs.top_cell.top_cell.Goals as goal

pub run-from-requires-clause-outside : goal.run-from-requires-clause-outside
run-from-requires-clause-outside c = top_outside c.args.listed.now c.args.cell c.requires.sorted.cells c.requires.apart c.requires.top

pub added_up-requires-clause-light : goal.added_up-requires-clause-light
added_up-requires-clause-light c = subst AreLight c.run-from.ensures.covered (light_part (λ (x : Listed). covers c.args.cell x.rec.key) c.args.listed.now c.requires.light)

pub added_up-requires-clause-below : goal.added_up-requires-clause-below
added_up-requires-clause-below c = subst (AreBelow c.args.cell) c.run-from.ensures.covered (top_below c.args.listed.now c.args.cell c.requires.sorted.cells c.requires.apart c.requires.top)

pub children-requires-clause-sorted : goal.children-requires-clause-sorted
children-requires-clause-sorted c = subst AreSorted c.run-from.ensures.covered (sorted_part c.args.cell c.args.listed.now c.requires.sorted)

pub children-requires-clause-below : goal.children-requires-clause-below
children-requires-clause-below c = subst (AreBelow c.args.cell) c.run-from.ensures.covered (top_below c.args.listed.now c.args.cell c.requires.sorted.cells c.requires.apart c.requires.top)

pub children-requires-clause-upper : goal.children-requires-clause-upper
children-requires-clause-upper c = top_is_high c.args.listed.now c.args.cell c.requires.sorted.cells c.requires.top

pub returns : goal.returns
returns c =
    let xs = c.args.listed.now in
    let cell = c.args.cell in
    let high = top_is_high xs cell c.requires.sorted.cells c.requires.top in
    let own = sym c.run-from.ensures.covered in
    record {
      value = record {
        rec = c.added_up.ensures.value ∙ (ap (sums_of cell) own ∙ sums_joined cell xs);
        children = c.children.ensures.value
            ∙ (ap (λ (ys : List Listed). children_of ys cell) own
            ∙ children_within cell xs c.requires.sorted.cells c.requires.top.0
            (λ d h. child_is_cell cell d c.requires.top.0 high h) (λ d h. covers_child cell d c.requires.top.0 high h));
      };
    }
