use Rattle.std.proofs.Common.{rules, ◌≡◌, ℕ, ◌<◌, ◌++◌, List, [], ◌∷◌, length, sym, ap, subst, ◌∙◌, false, Some, None}
use Rattle.std.specs.Option.{option_copied}
use Rattle.std.proofs.lemmas.List.{append-nil}
use Rattle.rank_model.specs.Pairs.{PairValue}
use Rattle.defer_walk.specs.declared.held.Held.{Held}
use Rattle.defer_walk.specs.Asked.{stored_at}
use Rattle.defer_walk.specs.Grouping.{by_children, listed_as, listed_of, all_listed}
use Rattle.defer_walk.specs.Standing.{VisitOf, meaning, pairs_in, Waits, IsAwake}
use Rattle.defer_walk.specs.Turning.{Runs}
use Rattle.defer_walk.proofs.Slots.{extends_trans, extends_same}
use Rattle.defer_walk.proofs.Advances.{held_snoc, waits_of, key_of_held, awake_stored, more_left, some_items, no_items}
use Rattle.defer_walk.proofs.stages.resume.Goals as goal

pub loop-waits_here-preserved-in_default-answer : goal.loop-waits_here-preserved-in_default-answer
loop-waits_here-preserved-in_default-answer g c = record {
  runs = λ w me start stands good own late woke waited r.
      let v : VisitOf g.row.V-Acc.Denot = meaning g.V.Visit.zero_of g.V.Visit.adds g.V.Visit.opens_by g.V.Acc.Seen.seen_of c.args.visit.now in
      let inv = c.loop-waits_here.invariant in
      let now = inv.runs w me start stands good own late woke waited r in
      let ws = c.pop.new.self.items in
      let h = c.in-Some.waits_here in
      let some : 0 < length h.bodies.items = some_items h.bodies.items (sym c.is_empty.ensures ∙ c.if-is_empty.false) in
      let awake = key_of_held (IsAwake start.slots start.pairs) c.args.waits.now.items c.loop-waits_here.waits.items ws inv.prefix.0 h some inv.prefix.1 c.in-Some.ensures.items woke in
      let none : stored_at c.loop-waits_here.asks.slots h.key ≡ None = sym c.answer.ensures.value ∙ ap option_copied c.in_default-answer.is in
      absurd (awake_stored v w me start c.args.piece.now c.loop-waits_here.accs c.loop-waits_here.tally c.loop-waits_here.asks.slots (pairs_in w (all_listed c.loop-waits_here.waits.items)) (pairs_in w c.loop-waits_here.asks.pairs) now h.key awake none);
  prefix = (c.in-Some.waits_here ∷ c.loop-waits_here.invariant.prefix.0, more_left c.args.waits.now.items c.loop-waits_here.waits.items c.pop.new.self.items c.loop-waits_here.invariant.prefix.0 c.in-Some.waits_here c.loop-waits_here.invariant.prefix.1 c.in-Some.ensures.items);
  extends = c.loop-waits_here.invariant.extends;
}

pub loop-waits_here-preserved-then-is_empty : goal.loop-waits_here-preserved-then-is_empty
loop-waits_here-preserved-then-is_empty g c = record {
  runs = λ w me start stands good own late woke waited r.
      let v : VisitOf g.row.V-Acc.Denot = meaning g.V.Visit.zero_of g.V.Visit.adds g.V.Visit.opens_by g.V.Acc.Seen.seen_of c.args.visit.now in
      let inv = c.loop-waits_here.invariant in
      let now = inv.runs w me start stands good own late woke waited r in
      let ws = c.pop.new.self.items in
      let h = c.in-Some.waits_here in
      let e = c.in-Some.ensures.items in
      let keep = pairs_in w (all_listed ws) in
      let mine = listed_of h in
      let held = pairs_in w c.loop-waits_here.asks.pairs in
      let split = subst (λ (ps : List PairValue). Runs v w me start c.args.piece.now c.loop-waits_here.accs c.loop-waits_here.tally c.loop-waits_here.asks.slots ps held) (ap (λ (hs : List Held). pairs_in w (all_listed hs)) e ∙ held_snoc w ws h) now in
      let none : h.bodies.items ≡ [] = no_items h.bodies.items (sym c.is_empty.ensures ∙ c.if-is_empty.true) in
      let drop_them : keep ++ pairs_in w mine ≡ keep = ap (λ (bs : List ℕ). keep ++ pairs_in w (listed_as h.key h.whole bs)) none ∙ append-nil keep in
      subst (λ (ps : List PairValue). Runs v w me start c.args.piece.now c.loop-waits_here.accs c.loop-waits_here.tally c.loop-waits_here.asks.slots ps held) drop_them split;
  prefix = (c.in-Some.waits_here ∷ c.loop-waits_here.invariant.prefix.0, more_left c.args.waits.now.items c.loop-waits_here.waits.items c.pop.new.self.items c.loop-waits_here.invariant.prefix.0 c.in-Some.waits_here c.loop-waits_here.invariant.prefix.1 c.in-Some.ensures.items);
  extends = c.loop-waits_here.invariant.extends;
}

pub wake-requires-clause-fits : goal.wake-requires-clause-fits
wake-requires-clause-fits g c κs within =
    let v : VisitOf g.row.V-Acc.Denot = meaning g.V.Visit.zero_of g.V.Visit.adds g.V.Visit.opens_by g.V.Acc.Seen.seen_of c.args.visit.now in
    let q = c.requires.fits in
    let w = q.0 in
    let me = q.1 in
    let start = q.2 in
    let stands = q.3 in
    let good = q.4 in
    let own = q.5 in
    let r = q.6 in
    let late = q.7 in
    let woke = q.8 in
    let waited = q.9 in
    let inv = c.loop-waits_here.invariant in
    let now = inv.runs w me start stands good own late woke waited r in
    let ws = c.pop.new.self.items in
    let h = c.in-Some.waits_here in
    let e = c.in-Some.ensures.items in
    let keep = pairs_in w (all_listed ws) in
    let mine = listed_of h in
    let held = pairs_in w c.loop-waits_here.asks.pairs in
    let split = subst (λ (ps : List PairValue). Runs v w me start c.args.piece.now c.loop-waits_here.accs c.loop-waits_here.tally c.loop-waits_here.asks.slots ps held) (ap (λ (hs : List Held). pairs_in w (all_listed hs)) e ∙ held_snoc w ws h) now in
    let waited_here = waits_of w (Waits v w me c.args.piece.now start.slots) c.args.waits.now.items c.loop-waits_here.waits.items ws inv.prefix.0 h inv.prefix.1 e waited in
    let got : stored_at c.loop-waits_here.asks.slots h.key ≡ Some c.in-Some-answer.answer.now = sym c.answer.ensures.value ∙ ap option_copied c.in-Some-answer.is in
    let some : 0 < length h.bodies.items = some_items h.bodies.items (sym c.is_empty.ensures ∙ c.if-is_empty.false) in
    let awake = key_of_held (IsAwake start.slots start.pairs) c.args.waits.now.items c.loop-waits_here.waits.items ws inv.prefix.0 h some inv.prefix.1 e woke in
    (w, me, start, c.loop-waits_here.asks.slots, keep, held, good, own, got, waited_here, late, awake, split)

pub returns-in_err-wake-clause-stored : goal.returns-in_err-wake-clause-stored
returns-in_err-wake-clause-stored g c = λ w me start stands good own late woke waited r. (c.loop-waits_here.invariant.runs w me start stands good own late woke waited r).keeps.store

pub returns-in_err-extend_from_slice-clause-stored : goal.returns-in_err-extend_from_slice-clause-stored
returns-in_err-extend_from_slice-clause-stored g c = λ w me start stands good own late woke waited r. (c.loop-waits_here.invariant.runs w me start stands good own late woke waited r).keeps.store

pub descend_all-requires-clause-fits : goal.descend_all-requires-clause-fits
descend_all-requires-clause-fits g c κs within =
    let v : VisitOf g.row.V-Acc.Denot = meaning g.V.Visit.zero_of g.V.Visit.adds g.V.Visit.opens_by g.V.Acc.Seen.seen_of c.args.visit.now in
    let q = c.requires.fits in
    let w = q.0 in
    let me = q.1 in
    let start = q.2 in
    let stands = q.3 in
    let good = q.4 in
    let own = q.5 in
    let r = q.6 in
    let late = q.7 in
    let woke = q.8 in
    let waited = q.9 in
    let inv = c.loop-waits_here.invariant in
    let now = inv.runs w me start stands good own late woke waited r in
    let ws = c.pop.new.self.items in
    let h = c.in-Some.waits_here in
    let e = c.in-Some.ensures.items in
    let keep = pairs_in w (all_listed ws) in
    let mine = listed_of h in
    let held = pairs_in w c.loop-waits_here.asks.pairs in
    let split = subst (λ (ps : List PairValue). Runs v w me start c.args.piece.now c.loop-waits_here.accs c.loop-waits_here.tally c.loop-waits_here.asks.slots ps held) (ap (λ (hs : List Held). pairs_in w (all_listed hs)) e ∙ held_snoc w ws h) now in
    let waited_here = waits_of w (Waits v w me c.args.piece.now start.slots) c.args.waits.now.items c.loop-waits_here.waits.items ws inv.prefix.0 h inv.prefix.1 e waited in
    let got : stored_at c.loop-waits_here.asks.slots h.key ≡ Some c.in-Some-answer.answer.now = sym c.answer.ensures.value ∙ ap option_copied c.in-Some-answer.is in
    let some : 0 < length h.bodies.items = some_items h.bodies.items (sym c.is_empty.ensures ∙ c.if-is_empty.false) in
    let awake = key_of_held (IsAwake start.slots start.pairs) c.args.waits.now.items c.loop-waits_here.waits.items ws inv.prefix.0 h some inv.prefix.1 e woke in
    let woken = c.in_ok-wake.ensures.woken w me start c.loop-waits_here.asks.slots keep held good own got waited_here late awake split in
    let there : c.extend_from_slice.new.self.items ≡ h.bodies.items = c.in_ok-extend_from_slice.ensures.items ∙ ap (λ (xs : List ℕ). xs ++ c.as_slice.result.now) c.clear.ensures.items ∙ c.as_slice.ensures in
    let called = subst (λ (xs : List ℕ). Runs v w me start c.args.piece.now c.wake.new.accs c.wake.new.tally c.loop-waits_here.asks.slots (keep ++ by_children false xs c.wake.new.recs.items) held) (sym there) woken.0 in
    (w, me, start, keep, stands, good, own, woken.1, called)

pub returns-in_err-descend_all-clause-stored : goal.returns-in_err-descend_all-clause-stored
returns-in_err-descend_all-clause-stored g c = λ w me start stands good own late woke waited r.
    let v : VisitOf g.row.V-Acc.Denot = meaning g.V.Visit.zero_of g.V.Visit.adds g.V.Visit.opens_by g.V.Acc.Seen.seen_of c.args.visit.now in
    let inv = c.loop-waits_here.invariant in
    let now = inv.runs w me start stands good own late woke waited r in
    let ws = c.pop.new.self.items in
    let h = c.in-Some.waits_here in
    let e = c.in-Some.ensures.items in
    let keep = pairs_in w (all_listed ws) in
    let mine = listed_of h in
    let held = pairs_in w c.loop-waits_here.asks.pairs in
    let split = subst (λ (ps : List PairValue). Runs v w me start c.args.piece.now c.loop-waits_here.accs c.loop-waits_here.tally c.loop-waits_here.asks.slots ps held) (ap (λ (hs : List Held). pairs_in w (all_listed hs)) e ∙ held_snoc w ws h) now in
    let waited_here = waits_of w (Waits v w me c.args.piece.now start.slots) c.args.waits.now.items c.loop-waits_here.waits.items ws inv.prefix.0 h inv.prefix.1 e waited in
    let got : stored_at c.loop-waits_here.asks.slots h.key ≡ Some c.in-Some-answer.answer.now = sym c.answer.ensures.value ∙ ap option_copied c.in-Some-answer.is in
    let some : 0 < length h.bodies.items = some_items h.bodies.items (sym c.is_empty.ensures ∙ c.if-is_empty.false) in
    let awake = key_of_held (IsAwake start.slots start.pairs) c.args.waits.now.items c.loop-waits_here.waits.items ws inv.prefix.0 h some inv.prefix.1 e woke in
    let woken = c.in_ok-wake.ensures.woken w me start c.loop-waits_here.asks.slots keep held good own got waited_here late awake split in
    let there : c.extend_from_slice.new.self.items ≡ h.bodies.items = c.in_ok-extend_from_slice.ensures.items ∙ ap (λ (xs : List ℕ). xs ++ c.as_slice.result.now) c.clear.ensures.items ∙ c.as_slice.ensures in
    let called = subst (λ (xs : List ℕ). Runs v w me start c.args.piece.now c.wake.new.accs c.wake.new.tally c.loop-waits_here.asks.slots (keep ++ by_children false xs c.wake.new.recs.items) held) (sym there) woken.0 in
    c.in_err-descend_all.ensures.stored w me start keep stands good own woken.1 called

pub returns-in_err-descend_all-clause-extends : goal.returns-in_err-descend_all-clause-extends
returns-in_err-descend_all-clause-extends g c = extends_trans c.args.asks.now.slots c.loop-waits_here.asks.slots c.descend_all.new.asks.slots c.loop-waits_here.invariant.extends c.in_err-descend_all.ensures.extends

pub loop-waits_here-preserved : goal.loop-waits_here-preserved
loop-waits_here-preserved g c = record {
  runs = λ w me start stands good own late woke waited r.
      let v : VisitOf g.row.V-Acc.Denot = meaning g.V.Visit.zero_of g.V.Visit.adds g.V.Visit.opens_by g.V.Acc.Seen.seen_of c.args.visit.now in
      let inv = c.loop-waits_here.invariant in
      let now = inv.runs w me start stands good own late woke waited r in
      let ws = c.pop.new.self.items in
      let h = c.in-Some.waits_here in
      let e = c.in-Some.ensures.items in
      let keep = pairs_in w (all_listed ws) in
      let mine = listed_of h in
      let held = pairs_in w c.loop-waits_here.asks.pairs in
      let split = subst (λ (ps : List PairValue). Runs v w me start c.args.piece.now c.loop-waits_here.accs c.loop-waits_here.tally c.loop-waits_here.asks.slots ps held) (ap (λ (hs : List Held). pairs_in w (all_listed hs)) e ∙ held_snoc w ws h) now in
      let waited_here = waits_of w (Waits v w me c.args.piece.now start.slots) c.args.waits.now.items c.loop-waits_here.waits.items ws inv.prefix.0 h inv.prefix.1 e waited in
      let got : stored_at c.loop-waits_here.asks.slots h.key ≡ Some c.in-Some-answer.answer.now = sym c.answer.ensures.value ∙ ap option_copied c.in-Some-answer.is in
      let some : 0 < length h.bodies.items = some_items h.bodies.items (sym c.is_empty.ensures ∙ c.if-is_empty.false) in
      let awake = key_of_held (IsAwake start.slots start.pairs) c.args.waits.now.items c.loop-waits_here.waits.items ws inv.prefix.0 h some inv.prefix.1 e woke in
      let woken = c.in_ok-wake.ensures.woken w me start c.loop-waits_here.asks.slots keep held good own got waited_here late awake split in
      let there : c.extend_from_slice.new.self.items ≡ h.bodies.items = c.in_ok-extend_from_slice.ensures.items ∙ ap (λ (xs : List ℕ). xs ++ c.as_slice.result.now) c.clear.ensures.items ∙ c.as_slice.ensures in
      let called = subst (λ (xs : List ℕ). Runs v w me start c.args.piece.now c.wake.new.accs c.wake.new.tally c.loop-waits_here.asks.slots (keep ++ by_children false xs c.wake.new.recs.items) held) (sym there) woken.0 in
      c.in_ok-descend_all.ensures.runs w me start keep stands good own woken.1 called;
  prefix = (c.in-Some.waits_here ∷ c.loop-waits_here.invariant.prefix.0, more_left c.args.waits.now.items c.loop-waits_here.waits.items c.pop.new.self.items c.loop-waits_here.invariant.prefix.0 c.in-Some.waits_here c.loop-waits_here.invariant.prefix.1 c.in-Some.ensures.items);
  extends = extends_trans c.args.asks.now.slots c.loop-waits_here.asks.slots c.descend_all.new.asks.slots c.loop-waits_here.invariant.extends c.in_ok-descend_all.ensures.extends;
}

pub loop-waits_here-preserved-in_ok-descend_all : goal.loop-waits_here-preserved-in_ok-descend_all
loop-waits_here-preserved-in_ok-descend_all g c = record {
  runs = λ w me start stands good own late woke waited r.
      let v : VisitOf g.row.V-Acc.Denot = meaning g.V.Visit.zero_of g.V.Visit.adds g.V.Visit.opens_by g.V.Acc.Seen.seen_of c.args.visit.now in
      let inv = c.loop-waits_here.invariant in
      let now = inv.runs w me start stands good own late woke waited r in
      let ws = c.pop.new.self.items in
      let h = c.in-Some.waits_here in
      let e = c.in-Some.ensures.items in
      let keep = pairs_in w (all_listed ws) in
      let mine = listed_of h in
      let held = pairs_in w c.loop-waits_here.asks.pairs in
      let split = subst (λ (ps : List PairValue). Runs v w me start c.args.piece.now c.loop-waits_here.accs c.loop-waits_here.tally c.loop-waits_here.asks.slots ps held) (ap (λ (hs : List Held). pairs_in w (all_listed hs)) e ∙ held_snoc w ws h) now in
      let waited_here = waits_of w (Waits v w me c.args.piece.now start.slots) c.args.waits.now.items c.loop-waits_here.waits.items ws inv.prefix.0 h inv.prefix.1 e waited in
      let got : stored_at c.loop-waits_here.asks.slots h.key ≡ Some c.in-Some-answer.answer.now = sym c.answer.ensures.value ∙ ap option_copied c.in-Some-answer.is in
      let some : 0 < length h.bodies.items = some_items h.bodies.items (sym c.is_empty.ensures ∙ c.if-is_empty.false) in
      let awake = key_of_held (IsAwake start.slots start.pairs) c.args.waits.now.items c.loop-waits_here.waits.items ws inv.prefix.0 h some inv.prefix.1 e woke in
      let woken = c.in_ok-wake.ensures.woken w me start c.loop-waits_here.asks.slots keep held good own got waited_here late awake split in
      let there : c.extend_from_slice.new.self.items ≡ h.bodies.items = c.in_ok-extend_from_slice.ensures.items ∙ ap (λ (xs : List ℕ). xs ++ c.as_slice.result.now) c.clear.ensures.items ∙ c.as_slice.ensures in
      let called = subst (λ (xs : List ℕ). Runs v w me start c.args.piece.now c.wake.new.accs c.wake.new.tally c.loop-waits_here.asks.slots (keep ++ by_children false xs c.wake.new.recs.items) held) (sym there) woken.0 in
      c.in_ok-descend_all.ensures.runs w me start keep stands good own woken.1 called;
  prefix = (c.in-Some.waits_here ∷ c.loop-waits_here.invariant.prefix.0, more_left c.args.waits.now.items c.loop-waits_here.waits.items c.pop.new.self.items c.loop-waits_here.invariant.prefix.0 c.in-Some.waits_here c.loop-waits_here.invariant.prefix.1 c.in-Some.ensures.items);
  extends = extends_trans c.args.asks.now.slots c.loop-waits_here.asks.slots c.descend_all.new.asks.slots c.loop-waits_here.invariant.extends c.in_ok-descend_all.ensures.extends;
}

pub returns-clause-stored : goal.returns-clause-stored
returns-clause-stored g c = λ w me start stands good own late woke waited r. (c.loop-waits_here.invariant.runs w me start stands good own late woke waited r).keeps.store

pub returns-clause-runs : goal.returns-clause-runs
returns-clause-runs g c = λ w me start stands good own late woke waited r.
    let v : VisitOf g.row.V-Acc.Denot = meaning g.V.Visit.zero_of g.V.Visit.adds g.V.Visit.opens_by g.V.Acc.Seen.seen_of c.args.visit.now in
    let e : c.loop-waits_here.waits.items ≡ [] = search rules in
    subst (λ (hs : List Held). Runs v w me start c.args.piece.now c.loop-waits_here.accs c.loop-waits_here.tally c.loop-waits_here.asks.slots (pairs_in w (all_listed hs)) (pairs_in w c.loop-waits_here.asks.pairs)) e (c.loop-waits_here.invariant.runs w me start stands good own late woke waited r)

pub returns-in_err-wake-clause-extends : goal.returns-in_err-wake-clause-extends
returns-in_err-wake-clause-extends g c = c.loop-waits_here.invariant.extends

pub returns-in_err-extend_from_slice-clause-extends : goal.returns-in_err-extend_from_slice-clause-extends
returns-in_err-extend_from_slice-clause-extends g c = c.loop-waits_here.invariant.extends

pub returns-clause-extends : goal.returns-clause-extends
returns-clause-extends g c = c.loop-waits_here.invariant.extends

pub loop-waits_here-init : goal.loop-waits_here-init
loop-waits_here-init g c = record { runs = λ w me start stands good own late woke waited r. r; prefix = ([], sym (append-nil c.args.waits.now.items)); extends = extends_same c.args.asks.now.slots }
