use Rattle.std.proofs.Common.{sym, ◌∙◌, subst, ap, refl, List, [], length, drop, arith, ◌≡◌, Bool, true, false, vec_len}
use Rattle.std.proofs.lemmas.Bool.{eqb-true}
use Rattle.std.proofs.lemmas.List.{with_items_is, length-append}
use Rattle.std.specs.Prelude.{All}
use Rattle.hot_units.specs.Values.{BodyValue}
use Rattle.defer_walk.specs.declared.listed.Listed.{Listed}
use Rattle.defer_walk.specs.Standing.{VisitOf, meaning, StandsFor, AreUnanswered, IsNewAsk, pairs_in, left_by, given_of}
use Rattle.defer_walk.proofs.Slots.{given_extends, extends_same}
use Rattle.defer_walk.specs.Turning.{Beginning, Runs, AreReady}
use Rattle.defer_walk.proofs.Walking.{ready, runs_begin, runs_as, runs_back, stands_on, stands_starved, end_newly, end_waits, all_wait_still, unanswered_of}
use Rattle.defer_walk.specs.declared.asks.Slot.{Slot}
use Rattle.defer_walk.specs.Asked.{Extends}
use Rattle.defer_walk.proofs.Placed.{unanswered_short}
use Rattle.defer_walk.proofs.Woken.{none_woken, still_unanswered, nil_of}
use Rattle.defer_walk.proofs.walk.Walk.advance.Goals as goal

pub go_on-worked-requires-clause-fits : goal.go_on-worked-requires-clause-fits
go_on-worked-requires-clause-fits g c κs within =
    let s = c.self.inside in
    let v : VisitOf g.row.V-Acc.Denot = meaning g.V.Visit.zero_of g.V.Visit.adds g.V.Visit.opens_by g.V.Acc.Seen.seen_of s.visit in
    let left : List BodyValue → List Listed = λ (xs : List BodyValue). left_by s.advanced (length xs) s.asks.pairs in
    let start : Beginning = record { advanced = s.advanced; slots = s.asks.slots; pairs = left s.piece.items } in
    let w = c.requires.fits.0 in
    let stands = c.requires.fits.1 in
    let h = c.requires.fits.2 in
    let k = subst (λ s. StandsFor g.V.Visit.zero_of g.V.Visit.adds g.V.Visit.opens_by g.V.Acc.Seen.seen_of w s) (sym c.self.view_is) h in
    let there = subst (λ s. g.C.Cells.stands c.args.cells.now w s.me) (sym c.self.view_is) stands in
    let started = ap (λ s. s.started) c.self.view_is ∙ c.requires.started (sym (ap (λ s. s.starved) c.self.view_is) ∙ c.if-self.false) in
    let begun = subst (λ (xs : List BodyValue). Runs v w s.me start xs c.deref_mut.result.now s.tally s.asks.slots (pairs_in w (left xs)) []) (sym c.deref.ensures.value)
    (runs_as v w s.me start s.piece.items s.piece.items s.accs.items c.deref_mut.result.now s.tally s.asks.slots (pairs_in w (left s.piece.items)) refl c.deref_mut.ensures.value (runs_begin v w _ k started c.if-self.false)) in
    let own = c.deref.ensures.value ∙ k.bodies in
    let were = ap left (sym c.deref.ensures.value) in
    let set_out = subst (λ (xs : List BodyValue). AreReady s.advanced v w s.me xs s.asks.slots (left xs)) (sym c.deref.ensures.value) (ready v w _ k started c.if-self.false) in
    (w, s.me, start, there, k.good, own, begun, refl, were, set_out)

pub returns-in-Err-clause-stands : goal.returns-in-Err-clause-stands
returns-in-Err-clause-stands g c = λ w stands h.
    let s = c.self.inside in
    let v : VisitOf g.row.V-Acc.Denot = meaning g.V.Visit.zero_of g.V.Visit.adds g.V.Visit.opens_by g.V.Acc.Seen.seen_of s.visit in
    let left : List BodyValue → List Listed = λ (xs : List BodyValue). left_by s.advanced (length xs) s.asks.pairs in
    let start : Beginning = record { advanced = s.advanced; slots = s.asks.slots; pairs = left s.piece.items } in
    let k = subst (λ s. StandsFor g.V.Visit.zero_of g.V.Visit.adds g.V.Visit.opens_by g.V.Acc.Seen.seen_of w s) (sym c.self.view_is) h in
    let there = subst (λ s. g.C.Cells.stands c.args.cells.now w s.me) (sym c.self.view_is) stands in
    let started = ap (λ s. s.started) c.self.view_is ∙ c.requires.started (sym (ap (λ s. s.starved) c.self.view_is) ∙ c.if-self.false) in
    let begun = subst (λ (xs : List BodyValue). Runs v w s.me start xs c.deref_mut.result.now s.tally s.asks.slots (pairs_in w (left xs)) []) (sym c.deref.ensures.value)
    (runs_as v w s.me start s.piece.items s.piece.items s.accs.items c.deref_mut.result.now s.tally s.asks.slots (pairs_in w (left s.piece.items)) refl c.deref_mut.ensures.value (runs_begin v w _ k started c.if-self.false)) in
    let own = c.deref.ensures.value ∙ k.bodies in
    let were = ap left (sym c.deref.ensures.value) in
    let set_out = subst (λ (xs : List BodyValue). AreReady s.advanced v w s.me xs s.asks.slots (left xs)) (sym c.deref.ensures.value) (ready v w _ k started c.if-self.false) in
    stands_starved v w _ k _ c.go_on-worked.new.tally c.go_on-worked.new.asks.slots (left_by s.advanced (length s.piece.items) c.go_on-worked.new.asks.pairs)
    (ap length (with_items_is s.accs c.go_on-worked.new.accs (c.go_on-worked.auto.accs ∙ c.deref_mut.ensures.len)) ∙ c.go_on-worked.auto.accs ∙ ap length c.deref_mut.ensures.value ∙ k.long)
    (c.go_on-worked.ensures.stored w s.me start there k.good own refl were set_out begun)

pub returns-in-Ok-clause-stands : goal.returns-in-Ok-clause-stands
returns-in-Ok-clause-stands g c = λ w stands h.
    let s = c.self.inside in
    let v : VisitOf g.row.V-Acc.Denot = meaning g.V.Visit.zero_of g.V.Visit.adds g.V.Visit.opens_by g.V.Acc.Seen.seen_of s.visit in
    let left : List BodyValue → List Listed = λ (xs : List BodyValue). left_by s.advanced (length xs) s.asks.pairs in
    let start : Beginning = record { advanced = s.advanced; slots = s.asks.slots; pairs = left s.piece.items } in
    let k = subst (λ s. StandsFor g.V.Visit.zero_of g.V.Visit.adds g.V.Visit.opens_by g.V.Acc.Seen.seen_of w s) (sym c.self.view_is) h in
    let there = subst (λ s. g.C.Cells.stands c.args.cells.now w s.me) (sym c.self.view_is) stands in
    let started = ap (λ s. s.started) c.self.view_is ∙ c.requires.started (sym (ap (λ s. s.starved) c.self.view_is) ∙ c.if-self.false) in
    let begun = subst (λ (xs : List BodyValue). Runs v w s.me start xs c.deref_mut.result.now s.tally s.asks.slots (pairs_in w (left xs)) []) (sym c.deref.ensures.value)
    (runs_as v w s.me start s.piece.items s.piece.items s.accs.items c.deref_mut.result.now s.tally s.asks.slots (pairs_in w (left s.piece.items)) refl c.deref_mut.ensures.value (runs_begin v w _ k started c.if-self.false)) in
    let own = c.deref.ensures.value ∙ k.bodies in
    let were = ap left (sym c.deref.ensures.value) in
    let set_out = subst (λ (xs : List BodyValue). AreReady s.advanced v w s.me xs s.asks.slots (left xs)) (sym c.deref.ensures.value) (ready v w _ k started c.if-self.false) in
    let ran = c.in-Ok.ensures.runs w s.me start there k.good own refl were set_out begun in
    let made = with_items_is s.accs c.go_on-worked.new.accs (c.go_on-worked.auto.accs ∙ c.deref_mut.ensures.len) in
    let end = runs_back v w s.me start s.piece.items c.deref.result.now c.go_on-worked.new.accs _ c.go_on-worked.new.tally c.go_on-worked.new.asks.slots c.go_on-worked.new.asks.pairs c.deref.ensures.value made ran in
    stands_on v w _ k started _ c.go_on-worked.new.tally c.go_on-worked.new.asks.slots c.go_on-worked.new.asks.pairs end

pub returns-in-Ok-clause-waits : goal.returns-in-Ok-clause-waits
returns-in-Ok-clause-waits g c = (λ w stands h.
    let s = c.self.inside in
    let v : VisitOf g.row.V-Acc.Denot = meaning g.V.Visit.zero_of g.V.Visit.adds g.V.Visit.opens_by g.V.Acc.Seen.seen_of s.visit in
    let left : List BodyValue → List Listed = λ (xs : List BodyValue). left_by s.advanced (length xs) s.asks.pairs in
    let start : Beginning = record { advanced = s.advanced; slots = s.asks.slots; pairs = left s.piece.items } in
    let k = subst (λ s. StandsFor g.V.Visit.zero_of g.V.Visit.adds g.V.Visit.opens_by g.V.Acc.Seen.seen_of w s) (sym c.self.view_is) h in
    let there = subst (λ s. g.C.Cells.stands c.args.cells.now w s.me) (sym c.self.view_is) stands in
    let started = ap (λ s. s.started) c.self.view_is ∙ c.requires.started (sym (ap (λ s. s.starved) c.self.view_is) ∙ c.if-self.false) in
    let begun = subst (λ (xs : List BodyValue). Runs v w s.me start xs c.deref_mut.result.now s.tally s.asks.slots (pairs_in w (left xs)) []) (sym c.deref.ensures.value)
    (runs_as v w s.me start s.piece.items s.piece.items s.accs.items c.deref_mut.result.now s.tally s.asks.slots (pairs_in w (left s.piece.items)) refl c.deref_mut.ensures.value (runs_begin v w _ k started c.if-self.false)) in
    let own = c.deref.ensures.value ∙ k.bodies in
    let were = ap left (sym c.deref.ensures.value) in
    let set_out = subst (λ (xs : List BodyValue). AreReady s.advanced v w s.me xs s.asks.slots (left xs)) (sym c.deref.ensures.value) (ready v w _ k started c.if-self.false) in
    let ran = c.in-Ok.ensures.runs w s.me start there k.good own refl were set_out begun in
    let made = with_items_is s.accs c.go_on-worked.new.accs (c.go_on-worked.auto.accs ∙ c.deref_mut.ensures.len) in
    let end = runs_back v w s.me start s.piece.items c.deref.result.now c.go_on-worked.new.accs _ c.go_on-worked.new.tally c.go_on-worked.new.asks.slots c.go_on-worked.new.asks.pairs c.deref.ensures.value made ran in
    end_waits v w s.me start s.piece.items _ c.go_on-worked.new.tally c.go_on-worked.new.asks.slots c.go_on-worked.new.asks.pairs end)

pub returns-in-Ok-clause-newly : goal.returns-in-Ok-clause-newly
returns-in-Ok-clause-newly g c = (λ w stands h.
    let s = c.self.inside in
    let v : VisitOf g.row.V-Acc.Denot = meaning g.V.Visit.zero_of g.V.Visit.adds g.V.Visit.opens_by g.V.Acc.Seen.seen_of s.visit in
    let left : List BodyValue → List Listed = λ (xs : List BodyValue). left_by s.advanced (length xs) s.asks.pairs in
    let start : Beginning = record { advanced = s.advanced; slots = s.asks.slots; pairs = left s.piece.items } in
    let k = subst (λ s. StandsFor g.V.Visit.zero_of g.V.Visit.adds g.V.Visit.opens_by g.V.Acc.Seen.seen_of w s) (sym c.self.view_is) h in
    let there = subst (λ s. g.C.Cells.stands c.args.cells.now w s.me) (sym c.self.view_is) stands in
    let started = ap (λ s. s.started) c.self.view_is ∙ c.requires.started (sym (ap (λ s. s.starved) c.self.view_is) ∙ c.if-self.false) in
    let begun = subst (λ (xs : List BodyValue). Runs v w s.me start xs c.deref_mut.result.now s.tally s.asks.slots (pairs_in w (left xs)) []) (sym c.deref.ensures.value)
    (runs_as v w s.me start s.piece.items s.piece.items s.accs.items c.deref_mut.result.now s.tally s.asks.slots (pairs_in w (left s.piece.items)) refl c.deref_mut.ensures.value (runs_begin v w _ k started c.if-self.false)) in
    let own = c.deref.ensures.value ∙ k.bodies in
    let were = ap left (sym c.deref.ensures.value) in
    let set_out = subst (λ (xs : List BodyValue). AreReady s.advanced v w s.me xs s.asks.slots (left xs)) (sym c.deref.ensures.value) (ready v w _ k started c.if-self.false) in
    let ran = c.in-Ok.ensures.runs w s.me start there k.good own refl were set_out begun in
    let made = with_items_is s.accs c.go_on-worked.new.accs (c.go_on-worked.auto.accs ∙ c.deref_mut.ensures.len) in
    let end = runs_back v w s.me start s.piece.items c.deref.result.now c.go_on-worked.new.accs _ c.go_on-worked.new.tally c.go_on-worked.new.asks.slots c.go_on-worked.new.asks.pairs c.deref.ensures.value made ran in
    subst (λ s. All (IsNewAsk s.advanced w s.slots s.pairs) (drop (length s.slots) c.go_on-worked.new.asks.slots)) c.self.view_is
    (end_newly v w s.me start s.piece.items _ c.go_on-worked.new.tally c.go_on-worked.new.asks.slots c.go_on-worked.new.asks.pairs end))

pub returns-in-Err-clause-given : goal.returns-in-Err-clause-given
returns-in-Err-clause-given g c =
    let s = c.self.inside in
    (ap (λ s. s.given) c.self.view_is, given_extends s.given s.asks.slots c.go_on-worked.new.asks.slots c.self.invariant.0 c.go_on-worked.ensures.extends ∙ ap given_of c.self.view_is)

pub returns-in-Ok-clause-given : goal.returns-in-Ok-clause-given
returns-in-Ok-clause-given g c =
    let s = c.self.inside in
    (ap (λ s. s.given) c.self.view_is, given_extends s.given s.asks.slots c.go_on-worked.new.asks.slots c.self.invariant.0 c.go_on-worked.ensures.extends ∙ ap given_of c.self.view_is)

pub returns-then-self-clause-stands : goal.returns-then-self-clause-stands
returns-then-self-clause-stands g c = λ w stands h. h

pub returns-then-self-clause-same : goal.returns-then-self-clause-same
returns-then-self-clause-same g c = record { me = refl; visit = refl; piece = refl }

pub returns-then-self-clause-given : goal.returns-then-self-clause-given
returns-then-self-clause-given g c = (refl, refl)

pub returns-then-self-clause-extends : goal.returns-then-self-clause-extends
returns-then-self-clause-extends g c = extends_same c.args.self.now.slots

pub returns-then-self-clause-ok : goal.returns-then-self-clause-ok
returns-then-self-clause-ok g c = tt

pub returns-then-self-clause-progress : goal.returns-then-self-clause-progress
returns-then-self-clause-progress g c = tt

pub returns-then-self-clause-waits : goal.returns-then-self-clause-waits
returns-then-self-clause-waits g c = tt

pub returns-then-self-clause-newly : goal.returns-then-self-clause-newly
returns-then-self-clause-newly g c = tt

pub returns-in-Err-clause-same : goal.returns-in-Err-clause-same
returns-in-Err-clause-same g c = record { me = ap (λ s. s.me) c.self.view_is; visit = ap (λ s. s.visit) c.self.view_is; piece = ap (λ s. s.piece) c.self.view_is }

pub returns-in-Err-clause-extends : goal.returns-in-Err-clause-extends
returns-in-Err-clause-extends g c = subst (λ (xs : List Slot). Extends xs c.go_on-worked.new.asks.slots) (ap (λ s. s.slots) c.self.view_is) c.go_on-worked.ensures.extends

pub returns-in-Err-clause-ok : goal.returns-in-Err-clause-ok
returns-in-Err-clause-ok g c = tt

pub returns-in-Err-clause-progress : goal.returns-in-Err-clause-progress
returns-in-Err-clause-progress g c = tt

pub returns-in-Err-clause-waits : goal.returns-in-Err-clause-waits
returns-in-Err-clause-waits g c = tt

pub returns-in-Err-clause-newly : goal.returns-in-Err-clause-newly
returns-in-Err-clause-newly g c = tt

pub returns-in-Err-clause-err : goal.returns-in-Err-clause-err
returns-in-Err-clause-err g c = (ap (λ s. s.started) c.self.view_is, refl)

pub returns-in-Ok-clause-same : goal.returns-in-Ok-clause-same
returns-in-Ok-clause-same g c = record { me = ap (λ s. s.me) c.self.view_is; visit = ap (λ s. s.visit) c.self.view_is; piece = ap (λ s. s.piece) c.self.view_is }

pub returns-in-Ok-clause-extends : goal.returns-in-Ok-clause-extends
returns-in-Ok-clause-extends g c = subst (λ (xs : List Slot). Extends xs c.go_on-worked.new.asks.slots) (ap (λ s. s.slots) c.self.view_is) c.go_on-worked.ensures.extends

pub returns-in-Ok-clause-ok : goal.returns-in-Ok-clause-ok
returns-in-Ok-clause-ok g c =
    let on = ap (λ s. s.started) c.self.view_is ∙ c.requires.started (sym (ap (λ s. s.starved) c.self.view_is) ∙ c.if-self.false) in
    (on, refl, c.if-self.false)

pub returns-then-is_empty-clause-waits : goal.returns-then-is_empty-clause-waits
returns-then-is_empty-clause-waits g c = λ w stands h.
    let v : VisitOf g.row.V-Acc.Denot = meaning g.V.Visit.zero_of g.V.Visit.adds g.V.Visit.opens_by g.V.Acc.Seen.seen_of c.args.self.now.visit in
    let fed = sym (ap (λ s. s.starved) c.self.view_is) ∙ c.if-self.false in
    let s = c.self.inside in
    let on = c.if-self-2.true in
    let none : s.woken.items ≡ [] = nil_of s.woken.items (sym s.woken.ok.0 ∙ eqb-true (vec_len s.woken) 0 (sym c.is_empty.ensures ∙ c.if-is_empty.true)) in
    let still = still_unanswered s.woken.items s.asks.slots s.asks.pairs none ((c.self.invariant.1 c.if-self.false).2 on) in
    let left = subst (λ (t : Bool). AreUnanswered s.asks.slots (left_by t (length s.piece.items) s.asks.pairs)) (sym on) still in
    all_wait_still v w c.args.self.now h (c.requires.started fed) fed (sym (ap (λ s. s.advanced) c.self.view_is) ∙ on) (subst (λ s. AreUnanswered s.slots s.pairs) c.self.view_is left)

pub invariant_of-self-in-Ok : goal.invariant_of-self-in-Ok
invariant_of-self-in-Ok g c =
    let s = c.self.inside in
    let v : VisitOf g.row.V-Acc.Denot = meaning g.V.Visit.zero_of g.V.Visit.adds g.V.Visit.opens_by g.V.Acc.Seen.seen_of s.visit in
    let left : List BodyValue → List Listed = λ (xs : List BodyValue). left_by s.advanced (length xs) s.asks.pairs in
    let start : Beginning = record { advanced = s.advanced; slots = s.asks.slots; pairs = left s.piece.items } in
    let w = c.requires.fits.0 in
    let k = subst (λ s. StandsFor g.V.Visit.zero_of g.V.Visit.adds g.V.Visit.opens_by g.V.Acc.Seen.seen_of w s) (sym c.self.view_is) c.requires.fits.2 in
    let there = subst (λ s. g.C.Cells.stands c.args.cells.now w s.me) (sym c.self.view_is) c.requires.fits.1 in
    let started = ap (λ s. s.started) c.self.view_is ∙ c.requires.started (sym (ap (λ s. s.starved) c.self.view_is) ∙ c.if-self.false) in
    let begun = subst (λ (xs : List BodyValue). Runs v w s.me start xs c.deref_mut.result.now s.tally s.asks.slots (pairs_in w (left xs)) []) (sym c.deref.ensures.value)
    (runs_as v w s.me start s.piece.items s.piece.items s.accs.items c.deref_mut.result.now s.tally s.asks.slots (pairs_in w (left s.piece.items)) refl c.deref_mut.ensures.value (runs_begin v w _ k started c.if-self.false)) in
    let own = c.deref.ensures.value ∙ k.bodies in
    let were = ap left (sym c.deref.ensures.value) in
    let set_out = subst (λ (xs : List BodyValue). AreReady s.advanced v w s.me xs s.asks.slots (left xs)) (sym c.deref.ensures.value) (ready v w _ k started c.if-self.false) in
    let ran = c.in-Ok.ensures.runs w s.me start there k.good own refl were set_out begun in
    let x = c.go_on-worked.ensures.extends in
    let done = c.in-Ok.ensures in (
      omega (arith, ap length x.new_is, length-append s.asks.slots x.more, c.self.invariant.0),
      (λ e. (
        done.count,
        omega (arith, done.room, ap length done.none, unanswered_short c.go_on-worked.new.asks.slots),
        (λ f. none_woken c.go_on-worked.new.woken.items c.go_on-worked.new.asks.slots c.go_on-worked.new.asks.pairs done.none (unanswered_of w c.go_on-worked.new.asks.slots c.go_on-worked.new.asks.pairs ran.absent)),
        (λ f. absurd (let z : true ≡ false = f in cc)),
      )),
    )

pub invariant_of-self : goal.invariant_of-self
invariant_of-self g c =
    let x = c.go_on-worked.ensures.extends in (
      omega (arith, ap length x.new_is, length-append c.self.inside.asks.slots x.more, c.self.invariant.0),
      (λ e. absurd (let f : true ≡ false = e in cc)),
    )

pub go_on-worked-requires-clause-idle : goal.go_on-worked-requires-clause-idle
go_on-worked-requires-clause-idle g c κs within = (c.self.invariant.1 c.if-self.false).3

pub go_on-worked-requires-clause-woken : goal.go_on-worked-requires-clause-woken
go_on-worked-requires-clause-woken g c κs within = (c.self.invariant.1 c.if-self.false).2
