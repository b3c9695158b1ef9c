use Rattle.std.proofs.Common.{◌≡◌, ℕ, List, [], length, sym, refl, ap, subst, ◌∙◌, Bool}
use Rattle.std.specs.Prelude.{All, Contains}
use Rattle.defer_walk.specs.declared.asks.Slot.{Slot}
use Rattle.defer_walk.specs.declared.held.Held.{Held}
use Rattle.defer_walk.specs.declared.listed.Listed.{Listed}
use Rattle.defer_walk.specs.Grouping.{all_listed}
use Rattle.defer_walk.specs.Standing.{VisitOf, meaning, pairs_in, left_by, roots, AreStored}
use Rattle.defer_walk.specs.Waiting.{AskedValue}
use Rattle.defer_walk.specs.Turning.{Runs, AreReady}
use Rattle.defer_walk.proofs.Blocks.{always_ok}
use Rattle.defer_walk.proofs.Descents.{runs_same}
use Rattle.defer_walk.proofs.Advances.{none_left}
use Rattle.defer_walk.proofs.Taken.{resumes}
use Rattle.defer_walk.specs.Asked.{Extends}
use Rattle.defer_walk.proofs.Slots.{extends_same}
use Rattle.defer_walk.proofs.stages.go_on.Goals.{in-Some+in_ok-begin, in_default}
use Rattle.defer_walk.proofs.stages.go_on.Goals as goal

pub resume-requires-clause-fits : goal.resume-requires-clause-fits
resume-requires-clause-fits g c κs within =
    let v : VisitOf g.row.V-Acc.Denot = meaning g.V.Visit.zero_of g.V.Visit.adds g.V.Visit.opens_by g.V.Acc.Seen.seen_of c.args.visit.now in
    let q = c.requires.fits in
    let w = q.0 in
    let me = q.1 in
    let start = q.2 in
    let stands = q.3 in
    let good = q.4 in
    let own = q.5 in
    let r = q.6 in
    let stage = q.7 in
    let same = q.8 in
    let ready = q.9 in
    let n = length c.args.piece.now in
    let at = c.if-advanced.true in
    let runs = subst (λ (t : Bool). Runs v w me start c.args.piece.now c.args.accs.now c.args.tally.now c.args.asks.now.slots (pairs_in w (left_by t n c.args.asks.now.pairs)) []) at r in
    let were = subst (λ (t : Bool). start.pairs ≡ left_by t n c.args.asks.now.pairs) at same in
    let waited = subst (λ (t : Bool). AreReady t v w me c.args.piece.now start.slots (left_by t n c.args.asks.now.pairs)) at ready in
    let laws = g.met.V.Visit g.world.𝓛 g.world.𝓜 g.world.𝓡 ((λ s x. x), (λ x. x), (λ x. x), λ x. x) in
    let out = c.in_ok-waits.ensures in
    let hs = c.in_ok-waits.waits.items in
    let left = c.take_woken.new.asks in
    let keys = c.args.woken.now.items in
    let from = subst (λ (ks : List ℕ). All (λ (h : Held). Contains ks h.key) hs) c.deref.ensures.value out.taken.0 in
    let none = λ (key : ℕ) (m : Contains keys key). out.none key (subst (λ (ks : List ℕ). Contains ks key) (sym c.deref.ensures.value) m) in
    let ran = resumes v w me start c.args.piece.now (λ b. record { swaps = λ a s t. laws.swaps c.args.visit.now b a s t }) c.args.accs.now c.args.tally.now c.args.asks.now.slots keys hs c.args.asks.now.pairs left.pairs (c.requires.woken at) from out.taken.1 none were waited runs in
    let called = subst (λ (ss : List Slot). Runs v w me start c.args.piece.now c.args.accs.now c.args.tally.now ss (pairs_in w (all_listed hs)) (pairs_in w left.pairs)) (sym c.take_woken.ensures.slots) ran.0 in
    (w, me, start, stands, good, own, called, stage ∙ at, ran.1, ran.2)

pub returns-in_err-resume-clause-stored : goal.returns-in_err-resume-clause-stored
returns-in_err-resume-clause-stored g c = λ w me start stands good own stage same ready r.
    let v : VisitOf g.row.V-Acc.Denot = meaning g.V.Visit.zero_of g.V.Visit.adds g.V.Visit.opens_by g.V.Acc.Seen.seen_of c.args.visit.now in
    let n = length c.args.piece.now in
    let at = c.if-advanced.true in
    let runs = subst (λ (t : Bool). Runs v w me start c.args.piece.now c.args.accs.now c.args.tally.now c.args.asks.now.slots (pairs_in w (left_by t n c.args.asks.now.pairs)) []) at r in
    let were = subst (λ (t : Bool). start.pairs ≡ left_by t n c.args.asks.now.pairs) at same in
    let waited = subst (λ (t : Bool). AreReady t v w me c.args.piece.now start.slots (left_by t n c.args.asks.now.pairs)) at ready in
    let laws = g.met.V.Visit g.world.𝓛 g.world.𝓜 g.world.𝓡 ((λ s x. x), (λ x. x), (λ x. x), λ x. x) in
    let out = c.in_ok-waits.ensures in
    let hs = c.in_ok-waits.waits.items in
    let left = c.take_woken.new.asks in
    let keys = c.args.woken.now.items in
    let from = subst (λ (ks : List ℕ). All (λ (h : Held). Contains ks h.key) hs) c.deref.ensures.value out.taken.0 in
    let none = λ (key : ℕ) (m : Contains keys key). out.none key (subst (λ (ks : List ℕ). Contains ks key) (sym c.deref.ensures.value) m) in
    let ran = resumes v w me start c.args.piece.now (λ b. record { swaps = λ a s t. laws.swaps c.args.visit.now b a s t }) c.args.accs.now c.args.tally.now c.args.asks.now.slots keys hs c.args.asks.now.pairs left.pairs (c.requires.woken at) from out.taken.1 none were waited runs in
    let called = subst (λ (ss : List Slot). Runs v w me start c.args.piece.now c.args.accs.now c.args.tally.now ss (pairs_in w (all_listed hs)) (pairs_in w left.pairs)) (sym c.take_woken.ensures.slots) ran.0 in
    c.in_err-resume.ensures.stored w me start stands good own (stage ∙ at) ran.1 ran.2 called

pub returns-then-advanced-clause-stored : goal.returns-then-advanced-clause-stored
returns-then-advanced-clause-stored g c = λ w me start stands good own stage same ready r.
    let v : VisitOf g.row.V-Acc.Denot = meaning g.V.Visit.zero_of g.V.Visit.adds g.V.Visit.opens_by g.V.Acc.Seen.seen_of c.args.visit.now in
    let n = length c.args.piece.now in
    let at = c.if-advanced.true in
    let runs = subst (λ (t : Bool). Runs v w me start c.args.piece.now c.args.accs.now c.args.tally.now c.args.asks.now.slots (pairs_in w (left_by t n c.args.asks.now.pairs)) []) at r in
    let were = subst (λ (t : Bool). start.pairs ≡ left_by t n c.args.asks.now.pairs) at same in
    let waited = subst (λ (t : Bool). AreReady t v w me c.args.piece.now start.slots (left_by t n c.args.asks.now.pairs)) at ready in
    let laws = g.met.V.Visit g.world.𝓛 g.world.𝓜 g.world.𝓡 ((λ s x. x), (λ x. x), (λ x. x), λ x. x) in
    let out = c.in_ok-waits.ensures in
    let hs = c.in_ok-waits.waits.items in
    let left = c.take_woken.new.asks in
    let keys = c.args.woken.now.items in
    let from = subst (λ (ks : List ℕ). All (λ (h : Held). Contains ks h.key) hs) c.deref.ensures.value out.taken.0 in
    let none = λ (key : ℕ) (m : Contains keys key). out.none key (subst (λ (ks : List ℕ). Contains ks key) (sym c.deref.ensures.value) m) in
    let ran = resumes v w me start c.args.piece.now (λ b. record { swaps = λ a s t. laws.swaps c.args.visit.now b a s t }) c.args.accs.now c.args.tally.now c.args.asks.now.slots keys hs c.args.asks.now.pairs left.pairs (c.requires.woken at) from out.taken.1 none were waited runs in
    let called = subst (λ (ss : List Slot). Runs v w me start c.args.piece.now c.args.accs.now c.args.tally.now ss (pairs_in w (all_listed hs)) (pairs_in w left.pairs)) (sym c.take_woken.ensures.slots) ran.0 in
    c.in_ok-resume.ensures.stored w me start stands good own (stage ∙ at) ran.1 ran.2 called

pub returns-then-advanced-clause-runs : goal.returns-then-advanced-clause-runs
returns-then-advanced-clause-runs g c = always_ok c.end.result _ (λ w me start stands good own stage same ready r.
    let v : VisitOf g.row.V-Acc.Denot = meaning g.V.Visit.zero_of g.V.Visit.adds g.V.Visit.opens_by g.V.Acc.Seen.seen_of c.args.visit.now in
    let n = length c.args.piece.now in
    let at = c.if-advanced.true in
    let runs = subst (λ (t : Bool). Runs v w me start c.args.piece.now c.args.accs.now c.args.tally.now c.args.asks.now.slots (pairs_in w (left_by t n c.args.asks.now.pairs)) []) at r in
    let were = subst (λ (t : Bool). start.pairs ≡ left_by t n c.args.asks.now.pairs) at same in
    let waited = subst (λ (t : Bool). AreReady t v w me c.args.piece.now start.slots (left_by t n c.args.asks.now.pairs)) at ready in
    let laws = g.met.V.Visit g.world.𝓛 g.world.𝓜 g.world.𝓡 ((λ s x. x), (λ x. x), (λ x. x), λ x. x) in
    let out = c.in_ok-waits.ensures in
    let hs = c.in_ok-waits.waits.items in
    let left = c.take_woken.new.asks in
    let keys = c.args.woken.now.items in
    let from = subst (λ (ks : List ℕ). All (λ (h : Held). Contains ks h.key) hs) c.deref.ensures.value out.taken.0 in
    let none = λ (key : ℕ) (m : Contains keys key). out.none key (subst (λ (ks : List ℕ). Contains ks key) (sym c.deref.ensures.value) m) in
    let ran = resumes v w me start c.args.piece.now (λ b. record { swaps = λ a s t. laws.swaps c.args.visit.now b a s t }) c.args.accs.now c.args.tally.now c.args.asks.now.slots keys hs c.args.asks.now.pairs left.pairs (c.requires.woken at) from out.taken.1 none were waited runs in
    let called = subst (λ (ss : List Slot). Runs v w me start c.args.piece.now c.args.accs.now c.args.tally.now ss (pairs_in w (all_listed hs)) (pairs_in w left.pairs)) (sym c.take_woken.ensures.slots) ran.0 in
    c.in_ok-resume.ensures.runs w me start stands good own (stage ∙ at) ran.1 ran.2 called)

pub returns-in_err-begin-clause-stored : goal.returns-in_err-begin-clause-stored
returns-in_err-begin-clause-stored g c = λ w me start stands good own stage same ready r.
    let v : VisitOf g.row.V-Acc.Denot = meaning g.V.Visit.zero_of g.V.Visit.adds g.V.Visit.opens_by g.V.Acc.Seen.seen_of c.args.visit.now in
    let n = length c.args.piece.now in
    let at = c.if-advanced.false in
    let began = subst (λ (t : Bool). Runs v w me start c.args.piece.now c.args.accs.now c.args.tally.now c.args.asks.now.slots (pairs_in w (left_by t n c.args.asks.now.pairs)) []) at r in
    let runs = subst (λ (ls : List Listed). Runs v w me start c.args.piece.now c.args.accs.now c.args.tally.now c.args.asks.now.slots (pairs_in w (roots n)) (pairs_in w ls)) (sym (c.requires.idle at)) began in
    c.in_err-begin.ensures.stored w me start stands good own (stage ∙ at) (sym (c.root.ensures.value w me stands) ∙ c.in-Some.is) runs

pub returns-clause-stored : goal.returns-clause-stored
returns-clause-stored g c = λ w me start stands good own stage same ready r.
    let v : VisitOf g.row.V-Acc.Denot = meaning g.V.Visit.zero_of g.V.Visit.adds g.V.Visit.opens_by g.V.Acc.Seen.seen_of c.args.visit.now in
    let n = length c.args.piece.now in
    let at = c.if-advanced.false in
    let began = subst (λ (t : Bool). Runs v w me start c.args.piece.now c.args.accs.now c.args.tally.now c.args.asks.now.slots (pairs_in w (left_by t n c.args.asks.now.pairs)) []) at r in
    let runs = subst (λ (ls : List Listed). Runs v w me start c.args.piece.now c.args.accs.now c.args.tally.now c.args.asks.now.slots (pairs_in w (roots n)) (pairs_in w ls)) (sym (c.requires.idle at)) began in
    elim c.match-root.branch [
      | in-Some+in_ok-begin m ↦ subst (AreStored v w me) (sym (ap (λ (a : AskedValue). a.slots) m.asks-is)) (m.in_ok-begin.ensures.stored w me start stands good own (stage ∙ at) (sym (c.root.ensures.value w me stands) ∙ m.in-Some.is) runs)
      | in_default m ↦ subst (AreStored v w me) (sym (ap (λ (a : AskedValue). a.slots) m.asks-is)) r.keeps.store
    ]

pub returns-clause-runs : goal.returns-clause-runs
returns-clause-runs g c = always_ok c.end-2.result _ (λ w me start stands good own stage same ready r.
    let v : VisitOf g.row.V-Acc.Denot = meaning g.V.Visit.zero_of g.V.Visit.adds g.V.Visit.opens_by g.V.Acc.Seen.seen_of c.args.visit.now in
    let n = length c.args.piece.now in
    let at = c.if-advanced.false in
    let began = subst (λ (t : Bool). Runs v w me start c.args.piece.now c.args.accs.now c.args.tally.now c.args.asks.now.slots (pairs_in w (left_by t n c.args.asks.now.pairs)) []) at r in
    let runs = subst (λ (ls : List Listed). Runs v w me start c.args.piece.now c.args.accs.now c.args.tally.now c.args.asks.now.slots (pairs_in w (roots n)) (pairs_in w ls)) (sym (c.requires.idle at)) began in
    elim c.match-root.branch [
      | in-Some+in_ok-begin m ↦
          runs_same v w me start c.args.piece.now m.begin.new.accs c.match-root.accs m.begin.new.tally c.match-root.tally m.begin.new.asks.slots c.match-root.asks.slots [] [] (pairs_in w m.begin.new.asks.pairs) (pairs_in w c.match-root.asks.pairs)
          m.accs-is m.tally-is (ap (λ (a : AskedValue). a.slots) m.asks-is) refl (ap (λ (a : AskedValue). pairs_in w a.pairs) m.asks-is) (m.in_ok-begin.ensures.runs w me start stands good own (stage ∙ at) (sym (c.root.ensures.value w me stands) ∙ m.in-Some.is) runs)
      | in_default m ↦
          let gone = none_left w me n c.args.piece.now refl own (sym (c.root.ensures.value w me stands) ∙ m.in_default.is) in
          runs_same v w me start c.args.piece.now c.args.accs.now c.match-root.accs c.args.tally.now c.match-root.tally c.args.asks.now.slots c.match-root.asks.slots (pairs_in w (roots n)) [] (pairs_in w c.args.asks.now.pairs) (pairs_in w c.match-root.asks.pairs)
          m.accs-is m.tally-is (ap (λ (a : AskedValue). a.slots) m.asks-is) (sym (ap (pairs_in w) gone)) (ap (λ (a : AskedValue). pairs_in w a.pairs) m.asks-is) runs
    ])

pub begin-requires-clause-fits : goal.begin-requires-clause-fits
begin-requires-clause-fits g c κs within =
    let v : VisitOf g.row.V-Acc.Denot = meaning g.V.Visit.zero_of g.V.Visit.adds g.V.Visit.opens_by g.V.Acc.Seen.seen_of c.args.visit.now in
    let q = c.requires.fits in
    let w = q.0 in
    let me = q.1 in
    let start = q.2 in
    let stands = q.3 in
    let good = q.4 in
    let own = q.5 in
    let r = q.6 in
    let stage = q.7 in
    let n = length c.args.piece.now in
    let at = c.if-advanced.false in
    let began = subst (λ (t : Bool). Runs v w me start c.args.piece.now c.args.accs.now c.args.tally.now c.args.asks.now.slots (pairs_in w (left_by t n c.args.asks.now.pairs)) []) at r in
    let runs = subst (λ (ls : List Listed). Runs v w me start c.args.piece.now c.args.accs.now c.args.tally.now c.args.asks.now.slots (pairs_in w (roots n)) (pairs_in w ls)) (sym (c.requires.idle at)) began in
    (w, me, start, stands, good, own, runs, stage ∙ at, sym (c.root.ensures.value w me stands) ∙ c.in-Some.is)

pub returns-in_err-waits-clause-stored : goal.returns-in_err-waits-clause-stored
returns-in_err-waits-clause-stored g c = λ w me start stands good own stage same ready r.
    let v : VisitOf g.row.V-Acc.Denot = meaning g.V.Visit.zero_of g.V.Visit.adds g.V.Visit.opens_by g.V.Acc.Seen.seen_of c.args.visit.now in
    subst (AreStored v w me) (sym c.take_woken.ensures.slots) r.keeps.store

pub returns-in_err-waits-clause-extends : goal.returns-in_err-waits-clause-extends
returns-in_err-waits-clause-extends g c = subst (Extends c.args.asks.now.slots) (sym c.take_woken.ensures.slots) (extends_same c.args.asks.now.slots)

pub returns-in_err-resume-clause-extends : goal.returns-in_err-resume-clause-extends
returns-in_err-resume-clause-extends g c = subst (λ (ss : List Slot). Extends ss c.resume.new.asks.slots) c.take_woken.ensures.slots c.in_err-resume.ensures.extends

pub returns-then-advanced-clause-extends : goal.returns-then-advanced-clause-extends
returns-then-advanced-clause-extends g c = subst (λ (ss : List Slot). Extends ss c.resume.new.asks.slots) c.take_woken.ensures.slots c.in_ok-resume.ensures.extends

pub returns-in_err-begin-clause-extends : goal.returns-in_err-begin-clause-extends
returns-in_err-begin-clause-extends g c = c.in_err-begin.ensures.extends

pub returns-clause-extends : goal.returns-clause-extends
returns-clause-extends g c = elim c.match-root.branch [
  | in-Some+in_ok-begin m ↦ subst (Extends c.args.asks.now.slots) (sym (ap (λ (a : AskedValue). a.slots) m.asks-is)) m.in_ok-begin.ensures.extends
  | in_default m ↦ subst (Extends c.args.asks.now.slots) (sym (ap (λ (a : AskedValue). a.slots) m.asks-is)) (extends_same c.args.asks.now.slots)
]
