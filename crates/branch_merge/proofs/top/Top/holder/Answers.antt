use Rattle.std.proofs.Common.{◌≡◌, ◌-◌, true, false, List, get_or, sym, ap, ◌∙◌, subst, arith}
use Rattle.hot_units.specs.Values.{CellValue}
use Rattle.hot_units.specs.Keys.{covers}
use Rattle.branch_merge.specs.declared.listed.Listed.{Listed}
use Rattle.branch_merge.specs.Listing.{AreApart}
use Rattle.branch_merge.specs.Merged.{AreSorted}
use Rattle.branch_merge.proofs.Holding.{counted, held_none, holder_is, holder_none}
use Rattle.branch_merge.proofs.top.Top.holder.Goals as goal

pub returns-then-to-eq0 : goal.returns-then-to-eq0
returns-then-to-eq0 c =
    let xs = c.args.self.now in
    let sorted : AreSorted xs = subst AreSorted c.self.view_is c.self.invariant.sorted in
    let count = counted xs c.self.inside.listed.items c.deref.result.now c.first_key.result c.args.key c.count_to-to.result c.self.view_is c.deref.ensures.value c.first_key.ensures.value c.count_to-to.ensures.value in
    record { holder = held_none xs c.args.key c.count_to-to.result sorted c.requires.cell count c.if-to-eq0.true }

pub returns-then-covers : goal.returns-then-covers
returns-then-covers c =
    let xs = c.args.self.now in
    let to = c.count_to-to.result in
    let x = c.index-x.result.now in
    let sorted : AreSorted xs = subst AreSorted c.self.view_is c.self.invariant.sorted in
    let apart : AreApart xs = subst AreApart c.self.view_is c.self.invariant.apart in
    let count = counted xs c.self.inside.listed.items c.deref.result.now c.first_key.result c.args.key to c.self.view_is c.deref.ensures.value c.first_key.ensures.value c.count_to-to.ensures.value in
    let at : x ≡ get_or xs (to - 1) x = c.index-x.ensures ∙ ap (λ (ys : List Listed). get_or ys (to - 1) x) c.self.view_is in
    let covered : covers x.rec.key c.args.key ≡ true = sym (ap (λ (r : CellValue). covers r.key c.args.key) c.rec.view_is) ∙ (sym c.covers.ensures.value ∙ c.if-covers.true) in
    record { holder = holder_is xs c.args.key to x sorted apart c.requires.cell count (omega (arith, c.if-to-eq0.false)) at covered }

pub returns-else-covers : goal.returns-else-covers
returns-else-covers c =
    let xs = c.args.self.now in
    let to = c.count_to-to.result in
    let x = c.index-x.result.now in
    let sorted : AreSorted xs = subst AreSorted c.self.view_is c.self.invariant.sorted in
    let apart : AreApart xs = subst AreApart c.self.view_is c.self.invariant.apart in
    let count = counted xs c.self.inside.listed.items c.deref.result.now c.first_key.result c.args.key to c.self.view_is c.deref.ensures.value c.first_key.ensures.value c.count_to-to.ensures.value in
    let at : x ≡ get_or xs (to - 1) x = c.index-x.ensures ∙ ap (λ (ys : List Listed). get_or ys (to - 1) x) c.self.view_is in
    let free : covers x.rec.key c.args.key ≡ false = sym (ap (λ (r : CellValue). covers r.key c.args.key) c.rec.view_is) ∙ (sym c.covers.ensures.value ∙ c.if-covers.false) in
    record { holder = holder_none xs c.args.key to x sorted apart c.requires.cell count (omega (arith, c.if-to-eq0.false)) at free }
