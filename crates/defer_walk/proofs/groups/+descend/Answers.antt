use Rattle.std.proofs.Common.{rules, ◌≡◌, ℕ, ◌+◌, ◌-◌, ◌<◌, ◌≤◌, ◌++◌, List, [], length, drop, take, sym, refl, ap, subst, ◌∙◌, arith, Some, None, is_some}
use Rattle.std.proofs.lemmas.List.{append-nil, drop_all}
use Rattle.hot_units.specs.Keys.{IsCell, child}
use Rattle.rank_model.specs.World.{record_in}
use Rattle.rank_model.specs.Answers.{child_records}
use Rattle.rank_model.specs.Pairs.{PairValue, pair_with}
use Rattle.defer_walk.specs.Asked.{Extends}
use Rattle.defer_walk.specs.Settling.{IsParted}
use Rattle.defer_walk.specs.Grouping.{group, by_children, AreOpened}
use Rattle.defer_walk.specs.Standing.{VisitOf, meaning, pairs_in, AreStored}
use Rattle.defer_walk.specs.Waiting.{AskedValue}
use Rattle.defer_walk.specs.Turning.{Runs}
use Rattle.defer_walk.proofs.Slots.{extends_trans, extends_same}
use Rattle.defer_walk.proofs.Settles.{pair_full}
use Rattle.defer_walk.proofs.Descents.{records_to, group_pair, group_keeps, runs_sifted, runs_same, comes_below, children_last, children_none, some_left, at_end, from_last, take_front, children_done, child_lower, parted_here, slice_back}
use Rattle.defer_walk.proofs.groups.+descend.Goals.{in-Some-child+in_ok-descend, in_default-child, in-Some+else-loop-back-test, in_default}
use Rattle.defer_walk.proofs.groups.+descend.Goals as goal

pub sift-requires-clause-fits : goal.sift-requires-clause-fits
sift-requires-clause-fits g t c κs within =
    let laws = g.met.V.Visit g.world.𝓛 g.world.𝓜 g.world.𝓡 ((λ s x. x), (λ x. x), (λ x. x), λ x. x) in
    let v : VisitOf g.row.V-Acc.Denot = meaning g.V.Visit.zero_of g.V.Visit.adds g.V.Visit.opens_by g.V.Acc.Seen.seen_of c.args.visit.now in
    let q = c.requires.fits in
    let w = q.0 in
    let me = q.1 in
    let start = q.2 in
    let keep = q.3 in
    let stands = q.4 in
    let good = q.5 in
    let own = q.6 in
    let comes = q.7 in
    let r = q.8 in
    (w, me, c.args.tally.now, c.args.asks.now.slots, (pairs_in w c.args.asks.now.pairs) ++ keep, good, group_keeps v w me start c.args.piece.now (λ b. record { swaps = λ a s t. laws.swaps c.args.visit.now b a s t }) c.args.accs.now c.args.tally.now c.args.asks.now.slots keep (pairs_in w c.args.asks.now.pairs) c.args.whole c.args.rec (drop c.args.from c.args.places.now.items) r)

pub returns-then-first-len-clause-runs : goal.returns-then-first-len-clause-runs
returns-then-first-len-clause-runs g t c = λ w me start keep stands good own comes r.
    let laws = g.met.V.Visit g.world.𝓛 g.world.𝓜 g.world.𝓡 ((λ s x. x), (λ x. x), (λ x. x), λ x. x) in
    let v : VisitOf g.row.V-Acc.Denot = meaning g.V.Visit.zero_of g.V.Visit.adds g.V.Visit.opens_by g.V.Acc.Seen.seen_of c.args.visit.now in
    let n = c.in_ok-first.first in
    let bs = drop n c.sift.new.places.items in
    let ran = runs_sifted v w me start c.args.piece.now (λ b. record { swaps = λ a s t. laws.swaps c.args.visit.now b a s t }) c.args.accs.now c.args.tally.now c.args.asks.now.slots keep (pairs_in w c.args.asks.now.pairs) c.args.whole c.args.rec (drop c.args.from c.args.places.now.items) r c.sift.new.accs bs (λ k. c.in_ok-first.ensures.kept w me c.args.tally.now c.args.asks.now.slots ((pairs_in w c.args.asks.now.pairs) ++ keep) k) in
    let none : bs ≡ [] = drop_all n c.sift.new.places.items (at_end c.sift.new.places.items n _ _ c.if-first-len.true c.len.ensures c.sift.new.places.ok.0) in
    subst (λ (ps : List PairValue). Runs v w me start c.args.piece.now c.sift.new.accs c.args.tally.now c.args.asks.now.slots ps (pairs_in w c.args.asks.now.pairs)) (ap (λ (xs : List ℕ). keep ++ group c.args.whole c.args.rec xs) none ∙ append-nil keep) ran

pub settle-requires-clause-opened : goal.settle-requires-clause-opened
settle-requires-clause-opened g t c κs within =
    let n = c.in_ok-first.first in
    let bs = drop n c.sift.new.places.items in
    let e : take (length c.deref.result.now - n) (drop n c.deref.result.now) ≡ bs = slice_back c.deref.result.now n ∙ ap (drop n) c.deref.ensures.value in
    subst (AreOpened (g.V.Visit.opens_by c.args.visit.now) c.args.piece.now c.args.whole c.args.rec) (sym e) c.in_ok-first.ensures.opened

pub settle-requires-clause-fits : goal.settle-requires-clause-fits
settle-requires-clause-fits g t c κs within =
    let laws = g.met.V.Visit g.world.𝓛 g.world.𝓜 g.world.𝓡 ((λ s x. x), (λ x. x), (λ x. x), λ x. x) in
    let v : VisitOf g.row.V-Acc.Denot = meaning g.V.Visit.zero_of g.V.Visit.adds g.V.Visit.opens_by g.V.Acc.Seen.seen_of c.args.visit.now in
    let q = c.requires.fits in
    let w = q.0 in
    let me = q.1 in
    let start = q.2 in
    let keep = q.3 in
    let stands = q.4 in
    let good = q.5 in
    let own = q.6 in
    let comes = q.7 in
    let r = q.8 in
    let n = c.in_ok-first.first in
    let bs = drop n c.sift.new.places.items in
    let ran = runs_sifted v w me start c.args.piece.now (λ b. record { swaps = λ a s t. laws.swaps c.args.visit.now b a s t }) c.args.accs.now c.args.tally.now c.args.asks.now.slots keep (pairs_in w c.args.asks.now.pairs) c.args.whole c.args.rec (drop c.args.from c.args.places.now.items) r c.sift.new.accs bs (λ k. c.in_ok-first.ensures.kept w me c.args.tally.now c.args.asks.now.slots ((pairs_in w c.args.asks.now.pairs) ++ keep) k) in
    let e : take (length c.deref.result.now - n) (drop n c.deref.result.now) ≡ bs = slice_back c.deref.result.now n ∙ ap (drop n) c.deref.ensures.value in
    let there = subst (λ (xs : List ℕ). Runs v w me start c.args.piece.now c.sift.new.accs c.args.tally.now c.args.asks.now.slots (keep ++ group c.args.whole c.args.rec xs) (pairs_in w c.args.asks.now.pairs)) (sym e) ran in
    (w, me, start, keep, stands, good, own, comes, there)

pub returns-in_err-more-clause-stored : goal.returns-in_err-more-clause-stored
returns-in_err-more-clause-stored g t c = λ w me start keep stands good own comes r.
    let laws = g.met.V.Visit g.world.𝓛 g.world.𝓜 g.world.𝓡 ((λ s x. x), (λ x. x), (λ x. x), λ x. x) in
    let v : VisitOf g.row.V-Acc.Denot = meaning g.V.Visit.zero_of g.V.Visit.adds g.V.Visit.opens_by g.V.Acc.Seen.seen_of c.args.visit.now in
    let n = c.in_ok-first.first in
    let bs = drop n c.sift.new.places.items in
    let ran = runs_sifted v w me start c.args.piece.now (λ b. record { swaps = λ a s t. laws.swaps c.args.visit.now b a s t }) c.args.accs.now c.args.tally.now c.args.asks.now.slots keep (pairs_in w c.args.asks.now.pairs) c.args.whole c.args.rec (drop c.args.from c.args.places.now.items) r c.sift.new.accs bs (λ k. c.in_ok-first.ensures.kept w me c.args.tally.now c.args.asks.now.slots ((pairs_in w c.args.asks.now.pairs) ++ keep) k) in
    let e : take (length c.deref.result.now - n) (drop n c.deref.result.now) ≡ bs = slice_back c.deref.result.now n ∙ ap (drop n) c.deref.ensures.value in
    let there = subst (λ (xs : List ℕ). Runs v w me start c.args.piece.now c.sift.new.accs c.args.tally.now c.args.asks.now.slots (keep ++ group c.args.whole c.args.rec xs) (pairs_in w c.args.asks.now.pairs)) (sym e) ran in
    c.in_err-more.ensures.stored w me start keep stands good own comes there

pub child-requires-clause-fits : goal.child-requires-clause-fits
child-requires-clause-fits g t c =
    let laws = g.met.V.Visit g.world.𝓛 g.world.𝓜 g.world.𝓡 ((λ s x. x), (λ x. x), (λ x. x), λ x. x) in
    let v : VisitOf g.row.V-Acc.Denot = meaning g.V.Visit.zero_of g.V.Visit.adds g.V.Visit.opens_by g.V.Acc.Seen.seen_of c.args.visit.now in
    let q = c.requires.fits in
    let w = q.0 in
    let me = q.1 in
    let start = q.2 in
    let keep = q.3 in
    let stands = q.4 in
    let good = q.5 in
    let own = q.6 in
    let comes = q.7 in
    let r = q.8 in
    let n = c.in_ok-first.first in
    let bs = drop n c.sift.new.places.items in
    let ran = runs_sifted v w me start c.args.piece.now (λ b. record { swaps = λ a s t. laws.swaps c.args.visit.now b a s t }) c.args.accs.now c.args.tally.now c.args.asks.now.slots keep (pairs_in w c.args.asks.now.pairs) c.args.whole c.args.rec (drop c.args.from c.args.places.now.items) r c.sift.new.accs bs (λ k. c.in_ok-first.ensures.kept w me c.args.tally.now c.args.asks.now.slots ((pairs_in w c.args.asks.now.pairs) ++ keep) k) in
    let e : take (length c.deref.result.now - n) (drop n c.deref.result.now) ≡ bs = slice_back c.deref.result.now n ∙ ap (drop n) c.deref.ensures.value in
    let there = subst (λ (xs : List ℕ). Runs v w me start c.args.piece.now c.sift.new.accs c.args.tally.now c.args.asks.now.slots (keep ++ group c.args.whole c.args.rec xs) (pairs_in w c.args.asks.now.pairs)) (sym e) ran in
    let all = c.in-Some.all in
    let parts = (rw c.in-Some.is at c.in_ok-more.ensures.parted) w me start keep stands good own comes there in
    let base = subst (λ (xs : List ℕ). Runs v w me start c.args.piece.now c.settle.new.accs c.settle.new.tally c.settle.new.asks.slots (keep ++ by_children all xs (child_records w c.args.rec.key)) (pairs_in w c.settle.new.asks.pairs)) e parts.1 in
    let inv = c.loop-back.invariant in
    let now = inv.runs w me start keep stands good own comes parts.0 base in
    let some : 0 < length bs = some_left c.sift.new.places.items n _ _ c.in_ok-first.ensures.within c.if-first-len.false c.len.ensures c.sift.new.places.ok.0 in
    let is = group_pair v w me start c.args.piece.now (λ b. record { swaps = λ a s t. laws.swaps c.args.visit.now b a s t }) c.sift.new.accs c.args.tally.now c.args.asks.now.slots keep (pairs_in w c.args.asks.now.pairs) c.args.whole c.args.rec bs ran some in
    let full = pair_full w (pair_with 0 c.args.whole c.args.rec) is in
    let ke = c.key_of-key.ensures in
    let pk = subst (IsParted w me) (sym ke) parts.0 in
    (w, me, stands, subst IsCell (sym ke) is.cell, pk)

pub descend-requires : goal.descend-requires
descend-requires g t c κs within =
    let laws = g.met.V.Visit g.world.𝓛 g.world.𝓜 g.world.𝓡 ((λ s x. x), (λ x. x), (λ x. x), λ x. x) in
    let v : VisitOf g.row.V-Acc.Denot = meaning g.V.Visit.zero_of g.V.Visit.adds g.V.Visit.opens_by g.V.Acc.Seen.seen_of c.args.visit.now in
    let q = c.requires.fits in
    let w = q.0 in
    let me = q.1 in
    let start = q.2 in
    let keep = q.3 in
    let stands = q.4 in
    let good = q.5 in
    let own = q.6 in
    let comes = q.7 in
    let r = q.8 in
    let n = c.in_ok-first.first in
    let bs = drop n c.sift.new.places.items in
    let ran = runs_sifted v w me start c.args.piece.now (λ b. record { swaps = λ a s t. laws.swaps c.args.visit.now b a s t }) c.args.accs.now c.args.tally.now c.args.asks.now.slots keep (pairs_in w c.args.asks.now.pairs) c.args.whole c.args.rec (drop c.args.from c.args.places.now.items) r c.sift.new.accs bs (λ k. c.in_ok-first.ensures.kept w me c.args.tally.now c.args.asks.now.slots ((pairs_in w c.args.asks.now.pairs) ++ keep) k) in
    let e : take (length c.deref.result.now - n) (drop n c.deref.result.now) ≡ bs = slice_back c.deref.result.now n ∙ ap (drop n) c.deref.ensures.value in
    let there = subst (λ (xs : List ℕ). Runs v w me start c.args.piece.now c.sift.new.accs c.args.tally.now c.args.asks.now.slots (keep ++ group c.args.whole c.args.rec xs) (pairs_in w c.args.asks.now.pairs)) (sym e) ran in
    let all = c.in-Some.all in
    let parts = (rw c.in-Some.is at c.in_ok-more.ensures.parted) w me start keep stands good own comes there in
    let base = subst (λ (xs : List ℕ). Runs v w me start c.args.piece.now c.settle.new.accs c.settle.new.tally c.settle.new.asks.slots (keep ++ by_children all xs (child_records w c.args.rec.key)) (pairs_in w c.settle.new.asks.pairs)) e parts.1 in
    let inv = c.loop-back.invariant in
    let now = inv.runs w me start keep stands good own comes parts.0 base in
    let some : 0 < length bs = some_left c.sift.new.places.items n _ _ c.in_ok-first.ensures.within c.if-first-len.false c.len.ensures c.sift.new.places.ok.0 in
    let is = group_pair v w me start c.args.piece.now (λ b. record { swaps = λ a s t. laws.swaps c.args.visit.now b a s t }) c.sift.new.accs c.args.tally.now c.args.asks.now.slots keep (pairs_in w c.args.asks.now.pairs) c.args.whole c.args.rec bs ran some in
    let full = pair_full w (pair_with 0 c.args.whole c.args.rec) is in
    let ke = c.key_of-key.ensures in
    let pk = subst (IsParted w me) (sym ke) parts.0 in
    let ce : record_in w (child c.args.rec.key (7 - c.loop-back.back)) ≡ Some c.in-Some-child.child = sym (subst (λ (k : ℕ). c.child.result ≡ record_in w (child k (7 - c.loop-back.back))) ke (c.child.ensures.value w me stands pk)) ∙ c.in-Some-child.is in
    let kept = keep ++ by_children all bs (records_to w c.args.rec.key (8 - (c.loop-back.back + 1))) in
    let low : c.loop-back.back < 8 = c.loop-back-test.true in
    let below = comes_below v w me start c.args.piece.now (λ b. record { swaps = λ a s t. laws.swaps c.args.visit.now b a s t }) start.advanced c.args.whole all c.args.rec c.in-Some-child.child (7 - c.loop-back.back) is.cell full.0 parts.0 (from_last c.loop-back.back) ce comes in
    let call = subst (λ (ps : List PairValue). Runs v w me start c.args.piece.now c.loop-back.accs c.loop-back.tally c.loop-back.asks.slots ps (pairs_in w c.loop-back.asks.pairs)) (children_last w c.args.rec.key c.loop-back.back all bs keep c.in-Some-child.child low ce) now in
    let called = subst (λ (xs : List ℕ). Runs v w me start c.args.piece.now c.loop-back.accs c.loop-back.tally c.loop-back.asks.slots (kept ++ group all c.in-Some-child.child xs) (pairs_in w c.loop-back.asks.pairs)) (ap (drop n) (sym inv.places)) call in
    let lower = child_lower w c.args.rec.key (7 - c.loop-back.back) c.in-Some-child.child is.cell (parted_here w me c.args.rec.key is.cell parts.0).0 (from_last c.loop-back.back) ce in
    let inside : n ≤ length c.loop-back.places.items = subst (λ (xs : List ℕ). n ≤ length xs) (sym inv.places) c.in_ok-first.ensures.within in
    (omega (arith, lower, c.decreases), (within.0, (within.1.0, (within.1.1, (search rules, (search rules, (inside, (w, me, start, kept, stands, good, own, below, called))))))))

pub returns-in_err-descend-clause-stored : goal.returns-in_err-descend-clause-stored
returns-in_err-descend-clause-stored g t c = λ w me start keep stands good own comes r.
    let laws = g.met.V.Visit g.world.𝓛 g.world.𝓜 g.world.𝓡 ((λ s x. x), (λ x. x), (λ x. x), λ x. x) in
    let v : VisitOf g.row.V-Acc.Denot = meaning g.V.Visit.zero_of g.V.Visit.adds g.V.Visit.opens_by g.V.Acc.Seen.seen_of c.args.visit.now in
    let n = c.in_ok-first.first in
    let bs = drop n c.sift.new.places.items in
    let ran = runs_sifted v w me start c.args.piece.now (λ b. record { swaps = λ a s t. laws.swaps c.args.visit.now b a s t }) c.args.accs.now c.args.tally.now c.args.asks.now.slots keep (pairs_in w c.args.asks.now.pairs) c.args.whole c.args.rec (drop c.args.from c.args.places.now.items) r c.sift.new.accs bs (λ k. c.in_ok-first.ensures.kept w me c.args.tally.now c.args.asks.now.slots ((pairs_in w c.args.asks.now.pairs) ++ keep) k) in
    let e : take (length c.deref.result.now - n) (drop n c.deref.result.now) ≡ bs = slice_back c.deref.result.now n ∙ ap (drop n) c.deref.ensures.value in
    let there = subst (λ (xs : List ℕ). Runs v w me start c.args.piece.now c.sift.new.accs c.args.tally.now c.args.asks.now.slots (keep ++ group c.args.whole c.args.rec xs) (pairs_in w c.args.asks.now.pairs)) (sym e) ran in
    let all = c.in-Some.all in
    let parts = (rw c.in-Some.is at c.in_ok-more.ensures.parted) w me start keep stands good own comes there in
    let base = subst (λ (xs : List ℕ). Runs v w me start c.args.piece.now c.settle.new.accs c.settle.new.tally c.settle.new.asks.slots (keep ++ by_children all xs (child_records w c.args.rec.key)) (pairs_in w c.settle.new.asks.pairs)) e parts.1 in
    let inv = c.loop-back.invariant in
    let now = inv.runs w me start keep stands good own comes parts.0 base in
    let some : 0 < length bs = some_left c.sift.new.places.items n _ _ c.in_ok-first.ensures.within c.if-first-len.false c.len.ensures c.sift.new.places.ok.0 in
    let is = group_pair v w me start c.args.piece.now (λ b. record { swaps = λ a s t. laws.swaps c.args.visit.now b a s t }) c.sift.new.accs c.args.tally.now c.args.asks.now.slots keep (pairs_in w c.args.asks.now.pairs) c.args.whole c.args.rec bs ran some in
    let full = pair_full w (pair_with 0 c.args.whole c.args.rec) is in
    let ke = c.key_of-key.ensures in
    let pk = subst (IsParted w me) (sym ke) parts.0 in
    let ce : record_in w (child c.args.rec.key (7 - c.loop-back.back)) ≡ Some c.in-Some-child.child = sym (subst (λ (k : ℕ). c.child.result ≡ record_in w (child k (7 - c.loop-back.back))) ke (c.child.ensures.value w me stands pk)) ∙ c.in-Some-child.is in
    let kept = keep ++ by_children all bs (records_to w c.args.rec.key (8 - (c.loop-back.back + 1))) in
    let low : c.loop-back.back < 8 = c.loop-back-test.true in
    let below = comes_below v w me start c.args.piece.now (λ b. record { swaps = λ a s t. laws.swaps c.args.visit.now b a s t }) start.advanced c.args.whole all c.args.rec c.in-Some-child.child (7 - c.loop-back.back) is.cell full.0 parts.0 (from_last c.loop-back.back) ce comes in
    let call = subst (λ (ps : List PairValue). Runs v w me start c.args.piece.now c.loop-back.accs c.loop-back.tally c.loop-back.asks.slots ps (pairs_in w c.loop-back.asks.pairs)) (children_last w c.args.rec.key c.loop-back.back all bs keep c.in-Some-child.child low ce) now in
    let called = subst (λ (xs : List ℕ). Runs v w me start c.args.piece.now c.loop-back.accs c.loop-back.tally c.loop-back.asks.slots (kept ++ group all c.in-Some-child.child xs) (pairs_in w c.loop-back.asks.pairs)) (ap (drop n) (sym inv.places)) call in
    c.in_err-descend.ensures.stored w me start kept stands good own below called

pub returns-in_err-descend-clause-extends : goal.returns-in_err-descend-clause-extends
returns-in_err-descend-clause-extends g t c = extends_trans c.args.asks.now.slots c.settle.new.asks.slots c.descend.new.asks.slots c.in_ok-more.ensures.extends (extends_trans c.settle.new.asks.slots c.loop-back.asks.slots c.descend.new.asks.slots c.loop-back.invariant.extends c.in_err-descend.ensures.extends)

pub loop-back-preserved : goal.loop-back-preserved
loop-back-preserved g t c =
    let inv = c.loop-back.invariant in
    let cell = (
    let laws = g.met.V.Visit g.world.𝓛 g.world.𝓜 g.world.𝓡 ((λ s x. x), (λ x. x), (λ x. x), λ x. x) in
    let v : VisitOf g.row.V-Acc.Denot = meaning g.V.Visit.zero_of g.V.Visit.adds g.V.Visit.opens_by g.V.Acc.Seen.seen_of c.args.visit.now in
    let q = c.requires.fits in
    let w = q.0 in
    let me = q.1 in
    let start = q.2 in
    let keep = q.3 in
    let stands = q.4 in
    let good = q.5 in
    let own = q.6 in
    let comes = q.7 in
    let r = q.8 in
    let n = c.in_ok-first.first in
    let bs = drop n c.sift.new.places.items in
    let ran = runs_sifted v w me start c.args.piece.now (λ b. record { swaps = λ a s t. laws.swaps c.args.visit.now b a s t }) c.args.accs.now c.args.tally.now c.args.asks.now.slots keep (pairs_in w c.args.asks.now.pairs) c.args.whole c.args.rec (drop c.args.from c.args.places.now.items) r c.sift.new.accs bs (λ k. c.in_ok-first.ensures.kept w me c.args.tally.now c.args.asks.now.slots ((pairs_in w c.args.asks.now.pairs) ++ keep) k) in
    let some : 0 < length bs = some_left c.sift.new.places.items n _ _ c.in_ok-first.ensures.within c.if-first-len.false c.len.ensures c.sift.new.places.ok.0 in
    let is = group_pair v w me start c.args.piece.now (λ b. record { swaps = λ a s t. laws.swaps c.args.visit.now b a s t }) c.sift.new.accs c.args.tally.now c.args.asks.now.slots keep (pairs_in w c.args.asks.now.pairs) c.args.whole c.args.rec bs ran some in
    let full = pair_full w (pair_with 0 c.args.whole c.args.rec) is in
    is.cell
    ) in
    elim c.match-child.branch [
      | in-Some-child+in_ok-descend m ↦ record {
        runs = λ w me start keep stands good own comes part started.
            let laws = g.met.V.Visit g.world.𝓛 g.world.𝓜 g.world.𝓡 ((λ s x. x), (λ x. x), (λ x. x), λ x. x) in
            let v : VisitOf g.row.V-Acc.Denot = meaning g.V.Visit.zero_of g.V.Visit.adds g.V.Visit.opens_by g.V.Acc.Seen.seen_of c.args.visit.now in
            let n = c.in_ok-first.first in
            let bs = drop n c.sift.new.places.items in
            let all = c.in-Some.all in
            let ch = m.in-Some-child.child in
            let now = inv.runs w me start keep stands good own comes part started in
            let ke = c.key_of-key.ensures in
            let ce : record_in w (child c.args.rec.key (7 - c.loop-back.back)) ≡ Some ch = sym (subst (λ (k : ℕ). c.child.result ≡ record_in w (child k (7 - c.loop-back.back))) ke (c.child.ensures.value w me stands (subst (IsParted w me) (sym ke) part))) ∙ m.in-Some-child.is in
            let kept = keep ++ by_children all bs (records_to w c.args.rec.key (8 - (c.loop-back.back + 1))) in
            let low : c.loop-back.back < 8 = c.loop-back-test.true in
            let below = comes_below v w me start c.args.piece.now (λ b. record { swaps = λ a s t. laws.swaps c.args.visit.now b a s t }) start.advanced c.args.whole all c.args.rec ch (7 - c.loop-back.back) cell part.0 part (from_last c.loop-back.back) ce comes in
            let call = subst (λ (ps : List PairValue). Runs v w me start c.args.piece.now c.loop-back.accs c.loop-back.tally c.loop-back.asks.slots ps (pairs_in w c.loop-back.asks.pairs)) (children_last w c.args.rec.key c.loop-back.back all bs keep ch low ce) now in
            let called = subst (λ (xs : List ℕ). Runs v w me start c.args.piece.now c.loop-back.accs c.loop-back.tally c.loop-back.asks.slots (kept ++ group all ch xs) (pairs_in w c.loop-back.asks.pairs)) (ap (drop n) (sym inv.places)) call in
            runs_same v w me start c.args.piece.now m.descend.new.accs c.match-child.accs m.descend.new.tally c.match-child.tally m.descend.new.asks.slots c.match-child.asks.slots kept kept (pairs_in w m.descend.new.asks.pairs) (pairs_in w c.match-child.asks.pairs)
            m.accs-is m.tally-is (ap (λ (a : AskedValue). a.slots) m.asks-is) refl (ap (λ (a : AskedValue). pairs_in w a.pairs) m.asks-is) (m.in_ok-descend.ensures.runs w me start kept stands good own below called);
        places = ap (λ p. p.items) m.places-is ∙ m.in_ok-descend.ensures.places ∙ inv.places;
        extends = subst (Extends c.settle.new.asks.slots) (sym (ap (λ (a : AskedValue). a.slots) m.asks-is)) (extends_trans c.settle.new.asks.slots c.loop-back.asks.slots m.descend.new.asks.slots inv.extends m.in_ok-descend.ensures.extends);
      }
      | in_default-child m ↦ record {
        runs = λ w me start keep stands good own comes part started.
            let v : VisitOf g.row.V-Acc.Denot = meaning g.V.Visit.zero_of g.V.Visit.adds g.V.Visit.opens_by g.V.Acc.Seen.seen_of c.args.visit.now in
            let n = c.in_ok-first.first in
            let bs = drop n c.sift.new.places.items in
            let all = c.in-Some.all in
            let now = inv.runs w me start keep stands good own comes part started in
            let ke = c.key_of-key.ensures in
            let ce : record_in w (child c.args.rec.key (7 - c.loop-back.back)) ≡ None = sym (subst (λ (k : ℕ). c.child.result ≡ record_in w (child k (7 - c.loop-back.back))) ke (c.child.ensures.value w me stands (subst (IsParted w me) (sym ke) part))) ∙ m.in_default-child.is in
            let low : c.loop-back.back < 8 = c.loop-back-test.true in
            runs_same v w me start c.args.piece.now c.loop-back.accs c.match-child.accs c.loop-back.tally c.match-child.tally c.loop-back.asks.slots c.match-child.asks.slots (keep ++ by_children all bs (records_to w c.args.rec.key (8 - c.loop-back.back))) (keep ++ by_children all bs (records_to w c.args.rec.key (8 - (c.loop-back.back + 1)))) (pairs_in w c.loop-back.asks.pairs) (pairs_in w c.match-child.asks.pairs)
            m.accs-is m.tally-is (ap (λ (a : AskedValue). a.slots) m.asks-is) (ap (λ rs. keep ++ by_children all bs rs) (sym (children_none w c.args.rec.key c.loop-back.back low ce))) (ap (λ (a : AskedValue). pairs_in w a.pairs) m.asks-is) now;
        places = ap (λ p. p.items) m.places-is ∙ inv.places;
        extends = subst (Extends c.settle.new.asks.slots) (sym (ap (λ (a : AskedValue). a.slots) m.asks-is)) inv.extends;
      }
    ]

pub returns-clause-stored : goal.returns-clause-stored
returns-clause-stored g t c = λ w me start keep stands good own comes r.
    let laws = g.met.V.Visit g.world.𝓛 g.world.𝓜 g.world.𝓡 ((λ s x. x), (λ x. x), (λ x. x), λ x. x) in
    let v : VisitOf g.row.V-Acc.Denot = meaning g.V.Visit.zero_of g.V.Visit.adds g.V.Visit.opens_by g.V.Acc.Seen.seen_of c.args.visit.now in
    let n = c.in_ok-first.first in
    let bs = drop n c.sift.new.places.items in
    let ran = runs_sifted v w me start c.args.piece.now (λ b. record { swaps = λ a s t. laws.swaps c.args.visit.now b a s t }) c.args.accs.now c.args.tally.now c.args.asks.now.slots keep (pairs_in w c.args.asks.now.pairs) c.args.whole c.args.rec (drop c.args.from c.args.places.now.items) r c.sift.new.accs bs (λ k. c.in_ok-first.ensures.kept w me c.args.tally.now c.args.asks.now.slots ((pairs_in w c.args.asks.now.pairs) ++ keep) k) in
    let e : take (length c.deref.result.now - n) (drop n c.deref.result.now) ≡ bs = slice_back c.deref.result.now n ∙ ap (drop n) c.deref.ensures.value in
    let there = subst (λ (xs : List ℕ). Runs v w me start c.args.piece.now c.sift.new.accs c.args.tally.now c.args.asks.now.slots (keep ++ group c.args.whole c.args.rec xs) (pairs_in w c.args.asks.now.pairs)) (sym e) ran in
    elim c.match-more.branch [
      | in-Some+else-loop-back-test m ↦
          let parts = (rw m.in-Some.is at c.in_ok-more.ensures.parted) w me start keep stands good own comes there in
          let base = subst (λ (xs : List ℕ). Runs v w me start c.args.piece.now c.settle.new.accs c.settle.new.tally c.settle.new.asks.slots (keep ++ by_children m.in-Some.all xs (child_records w c.args.rec.key)) (pairs_in w c.settle.new.asks.pairs)) e parts.1 in
          subst (AreStored v w me) (sym (ap (λ (a : AskedValue). a.slots) m.asks-is)) (m.loop-back.invariant.runs w me start keep stands good own comes parts.0 base).keeps.store
      | in_default m ↦ subst (AreStored v w me) (sym (ap (λ (a : AskedValue). a.slots) m.asks-is)) (c.in_ok-more.ensures.stored w me start keep stands good own comes there)
    ]

pub returns-clause-extends : goal.returns-clause-extends
returns-clause-extends g t c = elim c.match-more.branch [
  | in-Some+else-loop-back-test m ↦ subst (Extends c.args.asks.now.slots) (sym (ap (λ (a : AskedValue). a.slots) m.asks-is)) (extends_trans c.args.asks.now.slots c.settle.new.asks.slots m.loop-back.asks.slots c.in_ok-more.ensures.extends m.loop-back.invariant.extends)
  | in_default m ↦ subst (Extends c.args.asks.now.slots) (sym (ap (λ (a : AskedValue). a.slots) m.asks-is)) c.in_ok-more.ensures.extends
]

pub returns-clause-runs : goal.returns-clause-runs
returns-clause-runs g t c = λ w me start keep stands good own comes r.
    let laws = g.met.V.Visit g.world.𝓛 g.world.𝓜 g.world.𝓡 ((λ s x. x), (λ x. x), (λ x. x), λ x. x) in
    let v : VisitOf g.row.V-Acc.Denot = meaning g.V.Visit.zero_of g.V.Visit.adds g.V.Visit.opens_by g.V.Acc.Seen.seen_of c.args.visit.now in
    let n = c.in_ok-first.first in
    let bs = drop n c.sift.new.places.items in
    let ran = runs_sifted v w me start c.args.piece.now (λ b. record { swaps = λ a s t. laws.swaps c.args.visit.now b a s t }) c.args.accs.now c.args.tally.now c.args.asks.now.slots keep (pairs_in w c.args.asks.now.pairs) c.args.whole c.args.rec (drop c.args.from c.args.places.now.items) r c.sift.new.accs bs (λ k. c.in_ok-first.ensures.kept w me c.args.tally.now c.args.asks.now.slots ((pairs_in w c.args.asks.now.pairs) ++ keep) k) in
    let e : take (length c.deref.result.now - n) (drop n c.deref.result.now) ≡ bs = slice_back c.deref.result.now n ∙ ap (drop n) c.deref.ensures.value in
    let there = subst (λ (xs : List ℕ). Runs v w me start c.args.piece.now c.sift.new.accs c.args.tally.now c.args.asks.now.slots (keep ++ group c.args.whole c.args.rec xs) (pairs_in w c.args.asks.now.pairs)) (sym e) ran in
    elim c.match-more.branch [
      | in-Some+else-loop-back-test m ↦
          let parts = (rw m.in-Some.is at c.in_ok-more.ensures.parted) w me start keep stands good own comes there in
          let base = subst (λ (xs : List ℕ). Runs v w me start c.args.piece.now c.settle.new.accs c.settle.new.tally c.settle.new.asks.slots (keep ++ by_children m.in-Some.all xs (child_records w c.args.rec.key)) (pairs_in w c.settle.new.asks.pairs)) e parts.1 in
          runs_same v w me start c.args.piece.now m.loop-back.accs c.match-more.accs m.loop-back.tally c.match-more.tally m.loop-back.asks.slots c.match-more.asks.slots (keep ++ by_children m.in-Some.all bs (records_to w c.args.rec.key (8 - m.loop-back.back))) keep (pairs_in w m.loop-back.asks.pairs) (pairs_in w c.match-more.asks.pairs)
          m.accs-is m.tally-is (ap (λ (a : AskedValue). a.slots) m.asks-is) (sym (children_done w c.args.rec.key m.loop-back.back m.in-Some.all bs keep m.loop-back-test.false)) (ap (λ (a : AskedValue). pairs_in w a.pairs) m.asks-is) (m.loop-back.invariant.runs w me start keep stands good own comes parts.0 base)
      | in_default m ↦
          runs_same v w me start c.args.piece.now c.settle.new.accs c.match-more.accs c.settle.new.tally c.match-more.tally c.settle.new.asks.slots c.match-more.asks.slots keep keep (pairs_in w c.settle.new.asks.pairs) (pairs_in w c.match-more.asks.pairs)
          m.accs-is m.tally-is (ap (λ (a : AskedValue). a.slots) m.asks-is) refl (ap (λ (a : AskedValue). pairs_in w a.pairs) m.asks-is) (c.in_ok-more.ensures.done (ap is_some m.in_default.is) w me start keep stands good own comes there)
    ]

pub returns-in_err-first-clause-stored : goal.returns-in_err-first-clause-stored
returns-in_err-first-clause-stored g t c = λ w me start keep stands good own comes r. r.keeps.store

pub returns-in_err-first-clause-extends : goal.returns-in_err-first-clause-extends
returns-in_err-first-clause-extends g t c = extends_same c.args.asks.now.slots

pub returns-then-first-len-clause-stored : goal.returns-then-first-len-clause-stored
returns-then-first-len-clause-stored g t c = λ w me start keep stands good own comes r. r.keeps.store

pub returns-then-first-len-clause-extends : goal.returns-then-first-len-clause-extends
returns-then-first-len-clause-extends g t c = extends_same c.args.asks.now.slots

pub returns-in_err-more-clause-extends : goal.returns-in_err-more-clause-extends
returns-in_err-more-clause-extends g t c = c.in_err-more.ensures.extends

pub settle-requires-clause-some : goal.settle-requires-clause-some
settle-requires-clause-some g t c κs within =
    let n = c.in_ok-first.first in
    let bs = drop n c.sift.new.places.items in
    let e : take (length c.deref.result.now - n) (drop n c.deref.result.now) ≡ bs = slice_back c.deref.result.now n ∙ ap (drop n) c.deref.ensures.value in
    subst (λ (xs : List ℕ). 0 < length xs) (sym e) (some_left c.sift.new.places.items n _ _ c.in_ok-first.ensures.within c.if-first-len.false c.len.ensures c.sift.new.places.ok.0)

pub loop-back-init : goal.loop-back-init
loop-back-init g t c = record {
  runs = λ w me start keep stands good own comes part r. r;
  places = refl;
  extends = extends_same c.settle.new.asks.slots;
}

pub returns-then-first-len-clause-places : goal.returns-then-first-len-clause-places
returns-then-first-len-clause-places g t c =
    c.truncate.ensures.items
    ∙ take_front c.args.places.now.items c.in_ok-first.ensures.pushed.0 c.sift.new.places.items c.len-to.result (c.len-to.ensures ∙ c.args.places.now.ok.0) c.in_ok-first.ensures.pushed.1

pub returns-clause-places : goal.returns-clause-places
returns-clause-places g t c =
    let same : c.match-more.places.items ≡ c.sift.new.places.items =
    elim c.match-more.branch [
      | in-Some+else-loop-back-test m ↦ ap (λ p. p.items) m.places-is ∙ m.loop-back.invariant.places
      | in_default m ↦ ap (λ p. p.items) m.places-is
    ] in
    c.truncate-2.ensures.items
    ∙ ap (take c.len-to.result) same
    ∙ take_front c.args.places.now.items c.in_ok-first.ensures.pushed.0 c.sift.new.places.items c.len-to.result (c.len-to.ensures ∙ c.args.places.now.ok.0) c.in_ok-first.ensures.pushed.1
