use Rattle.std.proofs.Common.{◌≡◌, ◌∙◌, ℕ, List, sym, ap, subst, length, set, arith}
use Rattle.std.specs.Prelude.{slice_get, Contains}
use Rattle.defer_walk.specs.declared.asks.Slot.{Slot}
use Rattle.defer_walk.specs.declared.asks.AskedCell.{AskedCell}
use Rattle.defer_walk.specs.declared.listed.Listed.{Listed}
use Rattle.defer_walk.specs.Asked.{asked_keys, Grows}
use Rattle.defer_walk.specs.Grouping.{listed_as}
use Rattle.defer_walk.specs.Waiting.{AskedValue, Inserts, slots_of, all_waiting, waiting_at}
use Rattle.defer_walk.proofs.Slots.{some_same, key_has}
use Rattle.defer_walk.proofs.Placed.{always_err, read_cell, slot_cell, slot_there, slots_kept, placed_set, waiting_kept, waiting_inserted, inserts_long, listed_long}
use Rattle.defer_walk.proofs.asks.Asks.wait.Goals as goal

pub invariant_of-self : goal.invariant_of-self
invariant_of-self c =
    let s = c.self.inside in
    let cs = s.cells.items in
    let i = c.in_ok-place.place in
    let at = c.in_ok-place.ensures.at in
    let x = slot_cell cs i at.0 (ap (λ (a : AskedValue). slice_get a.slots i) c.self.view_is ∙ at.1) in
    let d = c.index_mut.result.now in
    let got = read_cell cs i x.0 d x.1 c.index_mut.ensures.value in
    let key : d.slot.key ≡ c.args.key = ap (λ (y : AskedCell). y.slot.key) (some_same (sym got ∙ x.1)) ∙ ap (λ (y : Slot). y.key) x.2 ∙ at.2 in
    let new = c.add_bodies.new.cell in (
      placed_set s.places cs c.self.invariant.0 i d new got (ap (λ (y : Slot). y.key) c.add_bodies.ensures.slot),
      c.self.invariant.1 ∙ sym (ap length (waiting_kept cs i d new got c.in_err-add_bodies.ensures.err)),
    )

pub returns-in_err-add_bodies-clause-grows : goal.returns-in_err-add_bodies-clause-grows
returns-in_err-add_bodies-clause-grows c =
    let s = c.self.inside in
    let cs = s.cells.items in
    let i = c.in_ok-place.place in
    let at = c.in_ok-place.ensures.at in
    let x = slot_cell cs i at.0 (ap (λ (a : AskedValue). slice_get a.slots i) c.self.view_is ∙ at.1) in
    let d = c.index_mut.result.now in
    let got = read_cell cs i x.0 d x.1 c.index_mut.ensures.value in
    let key : d.slot.key ≡ c.args.key = ap (λ (y : AskedCell). y.slot.key) (some_same (sym got ∙ x.1)) ∙ ap (λ (y : Slot). y.key) x.2 ∙ at.2 in
    let new = c.add_bodies.new.cell in
    subst (Grows c.args.owner c.args.key c.args.self.now.slots) (sym (slots_kept cs i d new got c.add_bodies.ensures.slot ∙ ap (λ (a : AskedValue). a.slots) c.self.view_is)) c.place.ensures.grows

pub returns-in_err-add_bodies-clause-err : goal.returns-in_err-add_bodies-clause-err
returns-in_err-add_bodies-clause-err c =
    let s = c.self.inside in
    let cs = s.cells.items in
    let i = c.in_ok-place.place in
    let at = c.in_ok-place.ensures.at in
    let x = slot_cell cs i at.0 (ap (λ (a : AskedValue). slice_get a.slots i) c.self.view_is ∙ at.1) in
    let d = c.index_mut.result.now in
    let got = read_cell cs i x.0 d x.1 c.index_mut.ensures.value in
    let key : d.slot.key ≡ c.args.key = ap (λ (y : AskedCell). y.slot.key) (some_same (sym got ∙ x.1)) ∙ ap (λ (y : Slot). y.key) x.2 ∙ at.2 in
    let new = c.add_bodies.new.cell in
    always_err c.from_residual-in_err-add_bodies.result _ (waiting_kept cs i d new got c.in_err-add_bodies.ensures.err ∙ ap (λ (a : AskedValue). a.pairs) c.self.view_is ∙ c.place.ensures.pairs)

pub invariant_of-self-2 : goal.invariant_of-self-2
invariant_of-self-2 c =
    let s = c.self.inside in
    let cs = s.cells.items in
    let i = c.in_ok-place.place in
    let at = c.in_ok-place.ensures.at in
    let x = slot_cell cs i at.0 (ap (λ (a : AskedValue). slice_get a.slots i) c.self.view_is ∙ at.1) in
    let d = c.index_mut.result.now in
    let got = read_cell cs i x.0 d x.1 c.index_mut.ensures.value in
    let key : d.slot.key ≡ c.args.key = ap (λ (y : AskedCell). y.slot.key) (some_same (sym got ∙ x.1)) ∙ ap (λ (y : Slot). y.key) x.2 ∙ at.2 in
    let new = c.add_bodies.new.cell in
    let put : Inserts (listed_as d.slot.key c.args.whole c.args.bodies.now) (waiting_at d) (waiting_at new) = c.in_ok-add_bodies.ensures.waits in
    let long = inserts_long _ _ _ (waiting_inserted cs i d new (listed_as d.slot.key c.args.whole c.args.bodies.now) got put) in
    let count = listed_long d.slot.key c.args.whole c.args.bodies.now in (
      placed_set s.places cs c.self.invariant.0 i d new got (ap (λ (y : Slot). y.key) c.add_bodies.ensures.slot),
      omega (arith, long, count, c.self.invariant.1, c.checked_add.ensures),
    )

pub returns-clause-grows : goal.returns-clause-grows
returns-clause-grows c =
    let s = c.self.inside in
    let cs = s.cells.items in
    let i = c.in_ok-place.place in
    let at = c.in_ok-place.ensures.at in
    let x = slot_cell cs i at.0 (ap (λ (a : AskedValue). slice_get a.slots i) c.self.view_is ∙ at.1) in
    let d = c.index_mut.result.now in
    let got = read_cell cs i x.0 d x.1 c.index_mut.ensures.value in
    let key : d.slot.key ≡ c.args.key = ap (λ (y : AskedCell). y.slot.key) (some_same (sym got ∙ x.1)) ∙ ap (λ (y : Slot). y.key) x.2 ∙ at.2 in
    let new = c.add_bodies.new.cell in
    subst (Grows c.args.owner c.args.key c.args.self.now.slots) (sym (slots_kept cs i d new got c.add_bodies.ensures.slot ∙ ap (λ (a : AskedValue). a.slots) c.self.view_is)) c.place.ensures.grows

pub returns-clause-asked : goal.returns-clause-asked
returns-clause-asked c =
    let s = c.self.inside in
    let cs = s.cells.items in
    let i = c.in_ok-place.place in
    let at = c.in_ok-place.ensures.at in
    let x = slot_cell cs i at.0 (ap (λ (a : AskedValue). slice_get a.slots i) c.self.view_is ∙ at.1) in
    let d = c.index_mut.result.now in
    let got = read_cell cs i x.0 d x.1 c.index_mut.ensures.value in
    let key : d.slot.key ≡ c.args.key = ap (λ (y : AskedCell). y.slot.key) (some_same (sym got ∙ x.1)) ∙ ap (λ (y : Slot). y.key) x.2 ∙ at.2 in
    let new = c.add_bodies.new.cell in
    subst (λ (ss : List Slot). Contains (asked_keys ss) c.args.key) (sym (slots_kept cs i d new got c.add_bodies.ensures.slot))
    (subst (Contains (asked_keys (slots_of cs))) key (key_has (slots_of cs) i d.slot (slot_there cs i d got)))

pub returns-clause-waits : goal.returns-clause-waits
returns-clause-waits c =
    let s = c.self.inside in
    let cs = s.cells.items in
    let i = c.in_ok-place.place in
    let at = c.in_ok-place.ensures.at in
    let x = slot_cell cs i at.0 (ap (λ (a : AskedValue). slice_get a.slots i) c.self.view_is ∙ at.1) in
    let d = c.index_mut.result.now in
    let got = read_cell cs i x.0 d x.1 c.index_mut.ensures.value in
    let key : d.slot.key ≡ c.args.key = ap (λ (y : AskedCell). y.slot.key) (some_same (sym got ∙ x.1)) ∙ ap (λ (y : Slot). y.key) x.2 ∙ at.2 in
    let new = c.add_bodies.new.cell in
    let put : Inserts (listed_as d.slot.key c.args.whole c.args.bodies.now) (waiting_at d) (waiting_at new) = c.in_ok-add_bodies.ensures.waits in
    subst (λ (ls : List Listed). Inserts (listed_as c.args.key c.args.whole c.args.bodies.now) ls (all_waiting (set cs i new))) (ap (λ (a : AskedValue). a.pairs) c.self.view_is ∙ c.place.ensures.pairs)
    (subst (λ (k : ℕ). Inserts (listed_as k c.args.whole c.args.bodies.now) (all_waiting cs) (all_waiting (set cs i new))) key (waiting_inserted cs i d new (listed_as d.slot.key c.args.whole c.args.bodies.now) got put))
