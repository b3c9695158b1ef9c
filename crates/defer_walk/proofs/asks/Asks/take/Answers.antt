use Rattle.std.proofs.Common.{◌≡◌, ◌∙◌, ◌++◌, ◌∷◌, [], List, Some, None, sym, ap, subst, set, arith, append_assoc}
use Rattle.std.specs.Prelude.{All}
use Rattle.std.specs.Option.{option_copied}
use Rattle.std.specs.FinMap as table
use Rattle.std.proofs.lemmas.List.Elements.{All-nil, All-cons}
use Rattle.std.proofs.lemmas.Option.{slice_get_within}
use Rattle.defer_walk.specs.declared.asks.Slot.{Slot}
use Rattle.defer_walk.specs.declared.asks.AskedCell.{AskedCell}
use Rattle.defer_walk.specs.declared.held.Held.{Held}
use Rattle.defer_walk.specs.declared.listed.Listed.{Listed}
use Rattle.defer_walk.specs.Waiting.{AskedValue, Takes, all_waiting}
use Rattle.defer_walk.proofs.Slots.{some_same}
use Rattle.defer_walk.proofs.Placed.{read_cell, slots_kept, placed_set, waiting_taken, waiting_takes, inserts_long, none_absent, none_taken}
use Rattle.defer_walk.proofs.asks.Asks.take.Goals as goal

pub returns-in-None-clause-none : goal.returns-in-None-clause-none
returns-in-None-clause-none c =
    let s = c.self.inside in
    let e : table.get s.places c.args.key ≡ None = sym c.get.ensures.value ∙ ap option_copied c.in-None.is in
    subst (λ (a : AskedValue). All (λ (p : Listed). p.key ≡ c.args.key → ⊥) a.pairs) c.self.view_is (none_absent s.places s.cells.items c.self.invariant.0 c.args.key e)

pub index_mut-requires : goal.index_mut-requires
index_mut-requires c =
    let s = c.self.inside in
    let e : table.get s.places c.args.key ≡ Some c.in-Some.place.now = sym c.get.ensures.value ∙ ap option_copied c.in-Some.is in
    let x = c.self.invariant.0.found c.args.key c.in-Some.place.now e in
    omega (arith, s.cells.ok.0, slice_get_within s.cells.items c.in-Some.place.now x.0 x.1)

pub overflow_sub-self : goal.overflow_sub-self
overflow_sub-self c =
    let s = c.self.inside in
    let cs = s.cells.items in
    let i = c.in-Some.place.now in
    let e : table.get s.places c.args.key ≡ Some i = sym c.get.ensures.value ∙ ap option_copied c.in-Some.is in
    let x = c.self.invariant.0.found c.args.key i e in
    let d = c.index_mut.result.now in
    let got = read_cell cs i x.0 d x.1 c.index_mut.ensures.value in
    let new = c.take_bodies-opening.new.cell in
    let h = c.take_bodies-opening.result.0 in
    let k = c.take_bodies-opening.result.1 in
    let done = c.take_bodies-opening.ensures in
    let long = inserts_long _ _ _ (waiting_taken cs i d new got done.none) in
    omega (arith, c.self.invariant.1, long, done.counts, c.len.ensures.value)

pub overflow_sub-self-2 : goal.overflow_sub-self-2
overflow_sub-self-2 c =
    let s = c.self.inside in
    let cs = s.cells.items in
    let i = c.in-Some.place.now in
    let e : table.get s.places c.args.key ≡ Some i = sym c.get.ensures.value ∙ ap option_copied c.in-Some.is in
    let x = c.self.invariant.0.found c.args.key i e in
    let d = c.index_mut.result.now in
    let got = read_cell cs i x.0 d x.1 c.index_mut.ensures.value in
    let new = c.take_bodies-opening.new.cell in
    let h = c.take_bodies-opening.result.0 in
    let k = c.take_bodies-opening.result.1 in
    let done = c.take_bodies-opening.ensures in
    let long = inserts_long _ _ _ (waiting_taken cs i d new got done.none) in
    omega (arith, c.self.invariant.1, long, done.counts, c.len.ensures.value, c.len-2.ensures.value)

pub invariant_of-self : goal.invariant_of-self
invariant_of-self c =
    let s = c.self.inside in
    let cs = s.cells.items in
    let i = c.in-Some.place.now in
    let e : table.get s.places c.args.key ≡ Some i = sym c.get.ensures.value ∙ ap option_copied c.in-Some.is in
    let x = c.self.invariant.0.found c.args.key i e in
    let d = c.index_mut.result.now in
    let got = read_cell cs i x.0 d x.1 c.index_mut.ensures.value in
    let new = c.take_bodies-opening.new.cell in
    let h = c.take_bodies-opening.result.0 in
    let k = c.take_bodies-opening.result.1 in
    let done = c.take_bodies-opening.ensures in
    let long = inserts_long _ _ _ (waiting_taken cs i d new got done.none) in (
      placed_set s.places cs c.self.invariant.0 i d new got (ap (λ (y : Slot). y.key) done.slot),
      omega (arith, c.self.invariant.1, long, done.counts, c.len.ensures.value, c.len-2.ensures.value),
    )

pub returns-in_err-push-clause-slots : goal.returns-in_err-push-clause-slots
returns-in_err-push-clause-slots c =
    let s = c.self.inside in
    let cs = s.cells.items in
    let i = c.in-Some.place.now in
    let e : table.get s.places c.args.key ≡ Some i = sym c.get.ensures.value ∙ ap option_copied c.in-Some.is in
    let x = c.self.invariant.0.found c.args.key i e in
    let d = c.index_mut.result.now in
    let got = read_cell cs i x.0 d x.1 c.index_mut.ensures.value in
    let new = c.take_bodies-opening.new.cell in
    let h = c.take_bodies-opening.result.0 in
    let k = c.take_bodies-opening.result.1 in
    let done = c.take_bodies-opening.ensures in
    slots_kept cs i d new got done.slot ∙ ap (λ (a : AskedValue). a.slots) c.self.view_is

pub invariant_of-self-in_err-push-2 : goal.invariant_of-self-in_err-push-2
invariant_of-self-in_err-push-2 c =
    let s = c.self.inside in
    let cs = s.cells.items in
    let i = c.in-Some.place.now in
    let e : table.get s.places c.args.key ≡ Some i = sym c.get.ensures.value ∙ ap option_copied c.in-Some.is in
    let x = c.self.invariant.0.found c.args.key i e in
    let d = c.index_mut.result.now in
    let got = read_cell cs i x.0 d x.1 c.index_mut.ensures.value in
    let new = c.take_bodies-opening.new.cell in
    let h = c.take_bodies-opening.result.0 in
    let k = c.take_bodies-opening.result.1 in
    let done = c.take_bodies-opening.ensures in
    let long = inserts_long _ _ _ (waiting_taken cs i d new got done.none) in (
      placed_set s.places cs c.self.invariant.0 i d new got (ap (λ (y : Slot). y.key) done.slot),
      omega (arith, c.self.invariant.1, long, done.counts, c.len.ensures.value, c.len-2.ensures.value),
    )

pub returns-in_err-push-2-clause-slots : goal.returns-in_err-push-2-clause-slots
returns-in_err-push-2-clause-slots c =
    let s = c.self.inside in
    let cs = s.cells.items in
    let i = c.in-Some.place.now in
    let e : table.get s.places c.args.key ≡ Some i = sym c.get.ensures.value ∙ ap option_copied c.in-Some.is in
    let x = c.self.invariant.0.found c.args.key i e in
    let d = c.index_mut.result.now in
    let got = read_cell cs i x.0 d x.1 c.index_mut.ensures.value in
    let new = c.take_bodies-opening.new.cell in
    let h = c.take_bodies-opening.result.0 in
    let k = c.take_bodies-opening.result.1 in
    let done = c.take_bodies-opening.ensures in
    slots_kept cs i d new got done.slot ∙ ap (λ (a : AskedValue). a.slots) c.self.view_is

pub invariant_of-self-2 : goal.invariant_of-self-2
invariant_of-self-2 c =
    let s = c.self.inside in
    let cs = s.cells.items in
    let i = c.in-Some.place.now in
    let e : table.get s.places c.args.key ≡ Some i = sym c.get.ensures.value ∙ ap option_copied c.in-Some.is in
    let x = c.self.invariant.0.found c.args.key i e in
    let d = c.index_mut.result.now in
    let got = read_cell cs i x.0 d x.1 c.index_mut.ensures.value in
    let new = c.take_bodies-opening.new.cell in
    let h = c.take_bodies-opening.result.0 in
    let k = c.take_bodies-opening.result.1 in
    let done = c.take_bodies-opening.ensures in
    let long = inserts_long _ _ _ (waiting_taken cs i d new got done.none) in (
      placed_set s.places cs c.self.invariant.0 i d new got (ap (λ (y : Slot). y.key) done.slot),
      omega (arith, c.self.invariant.1, long, done.counts, c.len.ensures.value, c.len-2.ensures.value),
    )

pub returns-clause-slots : goal.returns-clause-slots
returns-clause-slots c =
    let s = c.self.inside in
    let cs = s.cells.items in
    let i = c.in-Some.place.now in
    let e : table.get s.places c.args.key ≡ Some i = sym c.get.ensures.value ∙ ap option_copied c.in-Some.is in
    let x = c.self.invariant.0.found c.args.key i e in
    let d = c.index_mut.result.now in
    let got = read_cell cs i x.0 d x.1 c.index_mut.ensures.value in
    let new = c.take_bodies-opening.new.cell in
    let h = c.take_bodies-opening.result.0 in
    let k = c.take_bodies-opening.result.1 in
    let done = c.take_bodies-opening.ensures in
    slots_kept cs i d new got done.slot ∙ ap (λ (a : AskedValue). a.slots) c.self.view_is

pub returns-clause-taken : goal.returns-clause-taken
returns-clause-taken c =
    let s = c.self.inside in
    let cs = s.cells.items in
    let i = c.in-Some.place.now in
    let e : table.get s.places c.args.key ≡ Some i = sym c.get.ensures.value ∙ ap option_copied c.in-Some.is in
    let x = c.self.invariant.0.found c.args.key i e in
    let d = c.index_mut.result.now in
    let got = read_cell cs i x.0 d x.1 c.index_mut.ensures.value in
    let new = c.take_bodies-opening.new.cell in
    let h = c.take_bodies-opening.result.0 in
    let k = c.take_bodies-opening.result.1 in
    let done = c.take_bodies-opening.ensures in
    let key : d.slot.key ≡ c.args.key = ap (λ (y : AskedCell). y.slot.key) (some_same (sym got ∙ x.1)) ∙ x.2 in
    let P = λ (g : Held). g.key ≡ c.args.key in
    let two : c.push-2.new.self.items ≡ c.args.waits.now.items ++ h ∷ k ∷ [] = c.in_ok-push-2.ensures.items ∙ ap (λ (gs : List Held). gs ++ k ∷ []) c.in_ok-push.ensures.items ∙ append_assoc c.args.waits.now.items (h ∷ []) (k ∷ []) in (
      h ∷ k ∷ [],
      two,
      All-cons P h (k ∷ []) (done.keys.0 ∙ key) (All-cons P k [] (done.keys.1 ∙ key) (All-nil P)),
      subst (λ (a : AskedValue). Takes (h ∷ k ∷ []) a.pairs (all_waiting (set cs i new))) c.self.view_is (waiting_takes cs i d new h k got done.none done.both),
    )

pub returns-clause-none : goal.returns-clause-none
returns-clause-none c =
    let s = c.self.inside in
    let cs = s.cells.items in
    let i = c.in-Some.place.now in
    let e : table.get s.places c.args.key ≡ Some i = sym c.get.ensures.value ∙ ap option_copied c.in-Some.is in
    let x = c.self.invariant.0.found c.args.key i e in
    let d = c.index_mut.result.now in
    let got = read_cell cs i x.0 d x.1 c.index_mut.ensures.value in
    let new = c.take_bodies-opening.new.cell in
    let h = c.take_bodies-opening.result.0 in
    let k = c.take_bodies-opening.result.1 in
    let done = c.take_bodies-opening.ensures in
    none_taken s.places cs c.self.invariant.0 c.args.key i d new e got done.none
