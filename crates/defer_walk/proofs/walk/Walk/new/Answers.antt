use Rattle.std.proofs.Common.{rules, arith, ◌≡◌, ◌∙◌, ap, sym, subst, length, refl, None}
use Rattle.std.proofs.lemmas.List.Elements.{All-nil}
use Rattle.defer_walk.specs.declared.listed.Listed.{Listed}
use Rattle.defer_walk.specs.Asked.{stored_at}
use Rattle.defer_walk.specs.Waiting.{unanswered_cells}
use Rattle.defer_walk.specs.Tallies.{TallyValue}
use Rattle.defer_walk.specs.Standing.{VisitOf, meaning, AreUnanswered}
use Rattle.defer_walk.proofs.Beginnings.{stands_new, nothing_seen}
use Rattle.defer_walk.proofs.Woken.{none_woken}
use Rattle.defer_walk.proofs.walk.Walk.new.Goals as goal

pub returns-clause-stands : goal.returns-clause-stands
returns-clause-stands g c = λ w good fits.
    let v : VisitOf g.row.V-Acc.Denot = meaning g.V.Visit.zero_of g.V.Visit.adds g.V.Visit.opens_by g.V.Acc.Seen.seen_of c.args.visit in
    let items : c.in_ok-to_vec.field-0.items ≡ c.args.piece.now = c.in_ok-to_vec.ensures.items_if_clones_equal (λ x y h. search rules) in
    let long : length c.in_ok-accs.accs.items ≡ length c.in_ok-to_vec.field-0.items = omega (arith, c.in_ok-accs.ensures.long, ap length items) in
    stands_new v w _ good (items ∙ fits) long
    (λ l. nothing_seen v.seen v.nothing c.in_ok-accs.accs.items c.in_ok-accs.ensures.each c.in_ok-accs.ensures.none (omega (arith, l, long)))
    c.in_ok-new.ensures.value.0
    (record {
      pairs = c.in_ok-new.ensures.value.1;
      slots = c.in_ok-new.ensures.value.0;
      accs = c.in_ok-accs.ensures.each;
      opened = ap (λ (t : TallyValue). t.opened) c.new-3.ensures.value;
      cells = ap (λ (t : TallyValue). t.cells) c.new-3.ensures.value;
    })
    refl

pub invariant_of-result : goal.invariant_of-result
invariant_of-result g c =
    let none = c.in_ok-new.ensures.value in
    let asks = c.in_ok-new.field-0 in
    let lack : unanswered_cells asks.slots ≡ 0 = ap unanswered_cells none.0 in (
      omega arith,
      (λ e. (
        sym (ap length none.1),
        omega (arith, lack, ap length c.new-2.ensures.items),
        (λ f. none_woken c.new-2.result.items asks.slots asks.pairs c.new-2.ensures.items (subst (AreUnanswered asks.slots) (sym none.1) (All-nil (λ (p : Listed). stored_at asks.slots p.key ≡ None)))),
        (λ f. none.1),
      )),
    )
