use Rattle.std.proofs.Common.{◌≡◌, ◌∙◌, ◌++◌, ◌∷◌, [], sym, ap, subst, refl, List, None, true, length, arith}
use Rattle.std.specs.Prelude.{is_ok, not, slice_get}
use Rattle.std.specs.Option.{option_copied}
use Rattle.std.specs.FinMap as table
use Rattle.defer_walk.specs.declared.asks.AskedCell.{AskedCell}
use Rattle.defer_walk.specs.Waiting.{Places, ArePlaced, slots_of, all_waiting}
use Rattle.defer_walk.proofs.Slots.{get_end}
use Rattle.defer_walk.proofs.Placed.{on_ok, placed_more, slot_there, waiting_more, waits_none}
use Rattle.defer_walk.proofs.asks.Asks.place.Goals as goal

pub invariant_of-self-2 : goal.invariant_of-self-2
invariant_of-self-2 c =
    let s = c.self.inside in
    let cs = s.cells.items in
    let none : table.get s.places c.args.key ≡ None = sym c.get.ensures.value ∙ ap option_copied c.in_default.is in
    let done : c.insert.new.self ≡ table.insert s.places c.args.key c.len-place.result = on_ok c.insert.result _ (c.is_err.ensures.negation ∙ ap not c.if-is_err.false) c.insert.ensures.ok in
    let last : c.len-place.result ≡ length cs = c.len-place.ensures ∙ s.cells.ok.0 in
    let ok : is_ok c.push.result ≡ true = c.push.ensures.succeeds (omega (arith, c.in_ok-reserve.ensures.ok)) in
    let x : AskedCell = record { slot = record { owner = c.args.owner; key = c.args.key; answer = None }; opening = c.new.result; adding = c.new-2.result } in
    let e : c.push.new.self.items ≡ cs ++ x ∷ [] = (rw ok at c.push.ensures.items) ∙ ap (λ (ys : List AskedCell). ys ++ x ∷ []) c.reserve.ensures.items in
    let more = waiting_more cs x (waits_none x c.new.ensures.items c.new-2.ensures.items) in (
      subst (λ (t : Places). ArePlaced t c.push.new.self.items) (sym (done ∙ ap (table.insert s.places c.args.key) last)) (subst (ArePlaced (table.insert s.places c.args.key (length cs))) (sym e) (placed_more s.places cs c.self.invariant.0 x none)),
      c.self.invariant.1 ∙ sym (ap (λ (ys : List AskedCell). length (all_waiting ys)) e ∙ ap length more),
    )

pub returns-clause-at : goal.returns-clause-at
returns-clause-at c =
    let s = c.self.inside in
    let cs = s.cells.items in
    let last : c.len-place.result ≡ length cs = c.len-place.ensures ∙ s.cells.ok.0 in
    let ok : is_ok c.push.result ≡ true = c.push.ensures.succeeds (omega (arith, c.in_ok-reserve.ensures.ok)) in
    let x : AskedCell = record { slot = record { owner = c.args.owner; key = c.args.key; answer = None }; opening = c.new.result; adding = c.new-2.result } in
    let e : c.push.new.self.items ≡ cs ++ x ∷ [] = (rw ok at c.push.ensures.items) ∙ ap (λ (ys : List AskedCell). ys ++ x ∷ []) c.reserve.ensures.items in (
      x.slot,
      ap (λ (ys : List AskedCell). slice_get (slots_of ys) c.len-place.result) e ∙ ap (slice_get (slots_of (cs ++ x ∷ []))) last ∙ slot_there (cs ++ x ∷ []) (length cs) x (get_end cs x),
      refl,
    )
