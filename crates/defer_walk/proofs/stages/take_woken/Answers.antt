use Rattle.std.proofs.Common.{ℕ, ◌≡◌, ◌∙◌, List, Some, inl, inr, refl, sym, ap, subst, get_or, arith}
use Rattle.std.specs.Prelude.{All, Contains, slice_get}
use Rattle.std.proofs.lemmas.Bool.{cases_eq}
use Rattle.std.proofs.lemmas.List.Elements.{All-nil, All-append, All-weaker}
use Rattle.std.proofs.lemmas.Option.{slice_get-get_or}
use Rattle.defer_walk.specs.declared.held.Held.{Held}
use Rattle.defer_walk.specs.declared.listed.Listed.{Listed}
use Rattle.defer_walk.specs.Waiting.{Takes}
use Rattle.defer_walk.proofs.Slots.{some_same}
use Rattle.defer_walk.proofs.Keeping.{get_has}
use Rattle.defer_walk.proofs.Taken.{takes_all, taken_hold}
use Rattle.defer_walk.proofs.stages.take_woken.Goals as goal

pub loop-key-init : goal.loop-key-init
loop-key-init c = record {
  slots = refl;
  from = subst (All (λ (h : Held). Contains c.args.woken.now h.key)) (sym c.new-waits.ensures.items) (All-nil (λ (h : Held). Contains c.args.woken.now h.key));
  taken = subst (λ (hs : List Held). Takes hs c.args.asks.now.pairs c.args.asks.now.pairs) (sym c.new-waits.ensures.items) refl;
  none = λ j k l e. absurd (omega (arith, l));
}

pub returns-in_err-take-clause-slots : goal.returns-in_err-take-clause-slots
returns-in_err-take-clause-slots c = c.take.ensures.slots ∙ c.loop-key.invariant.slots

pub loop-key-preserved : goal.loop-key-preserved
loop-key-preserved c =
    let inv = c.loop-key.invariant in
    let t = c.in_ok-take.ensures.taken in
    let i = c.loop-key.key-index in
    let j = get_or c.args.woken.now i 0 in
    let at : slice_get c.args.woken.now i ≡ Some j = slice_get-get_or c.args.woken.now i 0 c.loop-key-test.true in
    let P = λ (h : Held). Contains c.args.woken.now h.key in
    record {
      slots = c.take.ensures.slots ∙ inv.slots;
      from = subst (All P) (sym t.1) (All-append P c.loop-key.waits.items t.0 inv.from (All-weaker (λ (h : Held). h.key ≡ j) P (λ h e. subst (Contains c.args.woken.now) (sym e) (get_has c.args.woken.now i j at)) t.0 t.2));
      taken = subst (λ (hs : List Held). Takes hs c.args.asks.now.pairs c.take.new.self.pairs) (sym t.1) (takes_all c.loop-key.waits.items t.0 c.args.asks.now.pairs c.loop-key.asks.pairs c.take.new.self.pairs inv.taken t.3);
      none = λ m k l e. elim (cases_eq m i) [
        | inl q ↦ subst (λ (n : ℕ). All (λ (p : Listed). p.key ≡ n → ⊥) c.take.new.self.pairs) (some_same (sym at ∙ ap (slice_get c.args.woken.now) (sym q) ∙ e)) c.in_ok-take.ensures.none
        | inr n ↦ (taken_hold (λ (p : Listed). p.key ≡ k → ⊥) t.0 c.loop-key.asks.pairs c.take.new.self.pairs t.3 (inv.none m k (omega (arith, l, n)) e)).1
      ];
    }

pub returns-clause-slots : goal.returns-clause-slots
returns-clause-slots c = c.loop-key.invariant.slots

pub returns-clause-taken : goal.returns-clause-taken
returns-clause-taken c = (c.loop-key.invariant.from, c.loop-key.invariant.taken)

pub returns-clause-none : goal.returns-clause-none
returns-clause-none c = λ key h. c.loop-key.invariant.none h.0 key (omega (arith, h.1, c.loop-key-test.false)) (slice_get-get_or c.args.woken.now h.0 key h.1 ∙ ap Some h.2)
