use Rattle.std.proofs.Common.{rules, ◌≡◌, ℕ, ◌+◌, ◌<◌, ◌++◌, List, [], ◌∷◌, length, drop, get_or, sym, ap, subst, ◌∙◌, Some, arith, inl, inr, true, false, Bool, append_assoc}
use Rattle.std.specs.Prelude.{slice_get}
use Rattle.std.proofs.lemmas.Option.{slice_get-get_or}
use Rattle.std.proofs.lemmas.List.{append-nil, drop_all, length-append}
use Rattle.std.proofs.lemmas.List.Elements.{All-nil, All-append}
use Rattle.hot_units.specs.Values.{BodyValue}
use Rattle.rank_model.specs.Pairs.{pair_with}
use Rattle.defer_walk.specs.Settling.{IsOpened}
use Rattle.defer_walk.specs.Grouping.{group, AreOpened}
use Rattle.defer_walk.specs.Standing.{VisitOf, meaning}
use Rattle.defer_walk.specs.Turning.{Keeps}
use Rattle.defer_walk.proofs.Keeping.{All-one}
use Rattle.defer_walk.proofs.Slots.{some_same}
use Rattle.defer_walk.proofs.Turnings.{got}
use Rattle.defer_walk.proofs.Blocks.{sift_body, sift_some, sift_fits, sift_far, sift_on, read_front, before_end, drop_front}
use Rattle.defer_walk.proofs.groups.sift.Goals.{then-opens+in_ok-push, else-opens+in_ok-far}
use Rattle.defer_walk.proofs.groups.sift.Goals as goal

pub bounds-piece-at : goal.bounds-piece-at
bounds-piece-at g c =
    let laws = g.met.V.Visit g.world.𝓛 g.world.𝓜 g.world.𝓡 ((λ s x. x), (λ x. x), (λ x. x), λ x. x) in
    let v : VisitOf g.row.V-Acc.Denot = meaning g.V.Visit.zero_of g.V.Visit.adds g.V.Visit.opens_by g.V.Acc.Seen.seen_of c.args.visit.now in
    let kept = c.loop-i.invariant.kept in
    let bs = c.args.places.now.items in
    let j = c.index-body.result.now in
    let at : slice_get bs c.loop-i.i ≡ Some j = read_front bs kept.0 c.loop-i.i j (before_end bs c.loop-i.i _ _ c.loop-i-test.true c.len-to.ensures c.args.places.now.ok.0) (c.index-body.ensures ∙ ap (λ (xs : List ℕ). get_or xs c.loop-i.i j) kept.1) in
    let r = c.requires.fits in
    let start = subst (λ (t : Bool). Keeps v r.0 r.1 c.args.piece.now c.args.accs.now r.2 r.3 (r.4 ++ group t c.args.rec.now (drop c.args.from bs))) c.if-whole.false r.6 in
    let k = kept.3 r.0 r.1 r.2 r.3 r.4 start in
    sift_body v r.0 r.1 c.args.piece.now (λ b. record { swaps = λ a s t. laws.swaps c.args.visit.now b a s t }) c.loop-i.accs r.2 r.3 r.4 c.args.rec.now bs kept.0 c.loop-i.i j at k

pub opens-requires : goal.opens-requires
opens-requires g c =
    let laws = g.met.V.Visit g.world.𝓛 g.world.𝓜 g.world.𝓡 ((λ s x. x), (λ x. x), (λ x. x), λ x. x) in
    let v : VisitOf g.row.V-Acc.Denot = meaning g.V.Visit.zero_of g.V.Visit.adds g.V.Visit.opens_by g.V.Acc.Seen.seen_of c.args.visit.now in
    let kept = c.loop-i.invariant.kept in
    let bs = c.args.places.now.items in
    let j = c.index-body.result.now in
    let at : slice_get bs c.loop-i.i ≡ Some j = read_front bs kept.0 c.loop-i.i j (before_end bs c.loop-i.i _ _ c.loop-i-test.true c.len-to.ensures c.args.places.now.ok.0) (c.index-body.ensures ∙ ap (λ (xs : List ℕ). get_or xs c.loop-i.i j) kept.1) in
    let r = c.requires.fits in
    let start = subst (λ (t : Bool). Keeps v r.0 r.1 c.args.piece.now c.args.accs.now r.2 r.3 (r.4 ++ group t c.args.rec.now (drop c.args.from bs))) c.if-whole.false r.6 in
    let k = kept.3 r.0 r.1 r.2 r.3 r.4 start in
    record { not_empty = sift_some v r.0 r.1 c.args.piece.now (λ b. record { swaps = λ a s t. laws.swaps c.args.visit.now b a s t }) c.loop-i.accs r.2 r.3 r.4 c.args.rec.now bs kept.0 c.loop-i.i j at k }

pub bounds-accs-at : goal.bounds-accs-at
bounds-accs-at g c =
    let laws = g.met.V.Visit g.world.𝓛 g.world.𝓜 g.world.𝓡 ((λ s x. x), (λ x. x), (λ x. x), λ x. x) in
    let v : VisitOf g.row.V-Acc.Denot = meaning g.V.Visit.zero_of g.V.Visit.adds g.V.Visit.opens_by g.V.Acc.Seen.seen_of c.args.visit.now in
    let kept = c.loop-i.invariant.kept in
    let bs = c.args.places.now.items in
    let j = c.index-body.result.now in
    let at : slice_get bs c.loop-i.i ≡ Some j = read_front bs kept.0 c.loop-i.i j (before_end bs c.loop-i.i _ _ c.loop-i-test.true c.len-to.ensures c.args.places.now.ok.0) (c.index-body.ensures ∙ ap (λ (xs : List ℕ). get_or xs c.loop-i.i j) kept.1) in
    let r = c.requires.fits in
    let start = subst (λ (t : Bool). Keeps v r.0 r.1 c.args.piece.now c.args.accs.now r.2 r.3 (r.4 ++ group t c.args.rec.now (drop c.args.from bs))) c.if-whole.false r.6 in
    let k = kept.3 r.0 r.1 r.2 r.3 r.4 start in
    subst (λ (n : ℕ). j < n) (sym k.balance.long) (sift_body v r.0 r.1 c.args.piece.now (λ b. record { swaps = λ a s t. laws.swaps c.args.visit.now b a s t }) c.loop-i.accs r.2 r.3 r.4 c.args.rec.now bs kept.0 c.loop-i.i j at k)

pub offset_bounds-accs-at : goal.offset_bounds-accs-at
offset_bounds-accs-at g c =
    let laws = g.met.V.Visit g.world.𝓛 g.world.𝓜 g.world.𝓡 ((λ s x. x), (λ x. x), (λ x. x), λ x. x) in
    let v : VisitOf g.row.V-Acc.Denot = meaning g.V.Visit.zero_of g.V.Visit.adds g.V.Visit.opens_by g.V.Acc.Seen.seen_of c.args.visit.now in
    let kept = c.loop-i.invariant.kept in
    let bs = c.args.places.now.items in
    let j = c.index-body.result.now in
    let at : slice_get bs c.loop-i.i ≡ Some j = read_front bs kept.0 c.loop-i.i j (before_end bs c.loop-i.i _ _ c.loop-i-test.true c.len-to.ensures c.args.places.now.ok.0) (c.index-body.ensures ∙ ap (λ (xs : List ℕ). get_or xs c.loop-i.i j) kept.1) in
    let r = c.requires.fits in
    let start = subst (λ (t : Bool). Keeps v r.0 r.1 c.args.piece.now c.args.accs.now r.2 r.3 (r.4 ++ group t c.args.rec.now (drop c.args.from bs))) c.if-whole.false r.6 in
    let k = kept.3 r.0 r.1 r.2 r.3 r.4 start in
    let within : j < length c.loop-i.accs = subst (λ (n : ℕ). j < n) (sym k.balance.long) (sift_body v r.0 r.1 c.args.piece.now (λ b. record { swaps = λ a s t. laws.swaps c.args.visit.now b a s t }) c.loop-i.accs r.2 r.3 r.4 c.args.rec.now bs kept.0 c.loop-i.i j at k) in
    search rules

pub bounds-piece-at-else-opens : goal.bounds-piece-at-else-opens
bounds-piece-at-else-opens g c =
    let laws = g.met.V.Visit g.world.𝓛 g.world.𝓜 g.world.𝓡 ((λ s x. x), (λ x. x), (λ x. x), λ x. x) in
    let v : VisitOf g.row.V-Acc.Denot = meaning g.V.Visit.zero_of g.V.Visit.adds g.V.Visit.opens_by g.V.Acc.Seen.seen_of c.args.visit.now in
    let kept = c.loop-i.invariant.kept in
    let bs = c.args.places.now.items in
    let j = c.index-body.result.now in
    let at : slice_get bs c.loop-i.i ≡ Some j = read_front bs kept.0 c.loop-i.i j (before_end bs c.loop-i.i _ _ c.loop-i-test.true c.len-to.ensures c.args.places.now.ok.0) (c.index-body.ensures ∙ ap (λ (xs : List ℕ). get_or xs c.loop-i.i j) kept.1) in
    let r = c.requires.fits in
    let start = subst (λ (t : Bool). Keeps v r.0 r.1 c.args.piece.now c.args.accs.now r.2 r.3 (r.4 ++ group t c.args.rec.now (drop c.args.from bs))) c.if-whole.false r.6 in
    let k = kept.3 r.0 r.1 r.2 r.3 r.4 start in
    sift_body v r.0 r.1 c.args.piece.now (λ b. record { swaps = λ a s t. laws.swaps c.args.visit.now b a s t }) c.loop-i.accs r.2 r.3 r.4 c.args.rec.now bs kept.0 c.loop-i.i j at k

pub far-requires-clause-not_empty : goal.far-requires-clause-not_empty
far-requires-clause-not_empty g c =
    let laws = g.met.V.Visit g.world.𝓛 g.world.𝓜 g.world.𝓡 ((λ s x. x), (λ x. x), (λ x. x), λ x. x) in
    let v : VisitOf g.row.V-Acc.Denot = meaning g.V.Visit.zero_of g.V.Visit.adds g.V.Visit.opens_by g.V.Acc.Seen.seen_of c.args.visit.now in
    let kept = c.loop-i.invariant.kept in
    let bs = c.args.places.now.items in
    let j = c.index-body.result.now in
    let at : slice_get bs c.loop-i.i ≡ Some j = read_front bs kept.0 c.loop-i.i j (before_end bs c.loop-i.i _ _ c.loop-i-test.true c.len-to.ensures c.args.places.now.ok.0) (c.index-body.ensures ∙ ap (λ (xs : List ℕ). get_or xs c.loop-i.i j) kept.1) in
    let r = c.requires.fits in
    let start = subst (λ (t : Bool). Keeps v r.0 r.1 c.args.piece.now c.args.accs.now r.2 r.3 (r.4 ++ group t c.args.rec.now (drop c.args.from bs))) c.if-whole.false r.6 in
    let k = kept.3 r.0 r.1 r.2 r.3 r.4 start in
    sift_some v r.0 r.1 c.args.piece.now (λ b. record { swaps = λ a s t. laws.swaps c.args.visit.now b a s t }) c.loop-i.accs r.2 r.3 r.4 c.args.rec.now bs kept.0 c.loop-i.i j at k

pub far-requires-clause-room : goal.far-requires-clause-room
far-requires-clause-room g c =
    let laws = g.met.V.Visit g.world.𝓛 g.world.𝓜 g.world.𝓡 ((λ s x. x), (λ x. x), (λ x. x), λ x. x) in
    let v : VisitOf g.row.V-Acc.Denot = meaning g.V.Visit.zero_of g.V.Visit.adds g.V.Visit.opens_by g.V.Acc.Seen.seen_of c.args.visit.now in
    let kept = c.loop-i.invariant.kept in
    let bs = c.args.places.now.items in
    let j = c.index-body.result.now in
    let at : slice_get bs c.loop-i.i ≡ Some j = read_front bs kept.0 c.loop-i.i j (before_end bs c.loop-i.i _ _ c.loop-i-test.true c.len-to.ensures c.args.places.now.ok.0) (c.index-body.ensures ∙ ap (λ (xs : List ℕ). get_or xs c.loop-i.i j) kept.1) in
    let r = c.requires.fits in
    let start = subst (λ (t : Bool). Keeps v r.0 r.1 c.args.piece.now c.args.accs.now r.2 r.3 (r.4 ++ group t c.args.rec.now (drop c.args.from bs))) c.if-whole.false r.6 in
    let k = kept.3 r.0 r.1 r.2 r.3 r.4 start in
    let within = sift_body v r.0 r.1 c.args.piece.now (λ b. record { swaps = λ a s t. laws.swaps c.args.visit.now b a s t }) c.loop-i.accs r.2 r.3 r.4 c.args.rec.now bs kept.0 c.loop-i.i j at k in
    let pb : slice_get c.args.piece.now j ≡ Some c.index-piece-at-else-opens.result = got c.args.piece.now j c.index-piece-at-else-opens.result within c.index-piece-at-else-opens.is in
    let pa : slice_get c.loop-i.accs j ≡ Some (get_or c.loop-i.accs j c.index-accs-at.result) = slice_get-get_or c.loop-i.accs j c.index-accs-at.result (subst (λ (n : ℕ). j < n) (sym k.balance.long) within) in
    sift_fits v r.0 r.1 c.args.piece.now (λ b. record { swaps = λ a s t. laws.swaps c.args.visit.now b a s t }) c.loop-i.accs r.2 r.3 r.4 c.args.rec.now bs kept.0 c.loop-i.i j at k (λ b a t. laws.sees c.args.visit.now b a t) r.5 c.index-piece-at-else-opens.result (get_or c.loop-i.accs j c.index-accs-at.result) pb pa

pub loop-i-preserved : goal.loop-i-preserved
loop-i-preserved g c =
    let laws = g.met.V.Visit g.world.𝓛 g.world.𝓜 g.world.𝓡 ((λ s x. x), (λ x. x), (λ x. x), λ x. x) in
    let v : VisitOf g.row.V-Acc.Denot = meaning g.V.Visit.zero_of g.V.Visit.adds g.V.Visit.opens_by g.V.Acc.Seen.seen_of c.args.visit.now in
    let kept = c.loop-i.invariant.kept in
    let bs = c.args.places.now.items in
    let j = c.index-body.result.now in
    let at : slice_get bs c.loop-i.i ≡ Some j = read_front bs kept.0 c.loop-i.i j (before_end bs c.loop-i.i _ _ c.loop-i-test.true c.len-to.ensures c.args.places.now.ok.0) (c.index-body.ensures ∙ ap (λ (xs : List ℕ). get_or xs c.loop-i.i j) kept.1) in
    let r = c.requires.fits in
    let start = subst (λ (t : Bool). Keeps v r.0 r.1 c.args.piece.now c.args.accs.now r.2 r.3 (r.4 ++ group t c.args.rec.now (drop c.args.from bs))) c.if-whole.false r.6 in
    let k = kept.3 r.0 r.1 r.2 r.3 r.4 start in
    let within = sift_body v r.0 r.1 c.args.piece.now (λ b. record { swaps = λ a s t. laws.swaps c.args.visit.now b a s t }) c.loop-i.accs r.2 r.3 r.4 c.args.rec.now bs kept.0 c.loop-i.i j at k in
    elim c.if-opens.branch [
      | then-opens+in_ok-push n ↦
          let pb : slice_get c.args.piece.now j ≡ Some c.index-piece-at.result = got c.args.piece.now j c.index-piece-at.result within c.index-piece-at.is in
          record {
            kept = (
              kept.0 ++ j ∷ [],
              ap (λ v. v.items) n.places-is ∙ n.in_ok-push.ensures.items ∙ ap (λ (xs : List ℕ). xs ++ j ∷ []) kept.1 ∙ append_assoc bs kept.0 (j ∷ []),
              All-append (λ (q : ℕ). (b : BodyValue) → slice_get c.args.piece.now q ≡ Some b → IsOpened (v.opens b) (pair_with q false c.args.rec.now)) kept.0 (j ∷ []) kept.2
                  (All-one (λ (q : ℕ). (b : BodyValue) → slice_get c.args.piece.now q ≡ Some b → IsOpened (v.opens b) (pair_with q false c.args.rec.now)) j
                  (λ b e. inr (subst (λ (y : BodyValue). v.opens y c.args.rec.now ≡ true) (some_same (sym pb ∙ e)) (sym c.opens.ensures.value ∙ n.if-opens.true)))),
              (λ w me tally slots keep h. subst (λ xs. Keeps v w me c.args.piece.now xs tally slots (keep ++ group false c.args.rec.now ((kept.0 ++ j ∷ []) ++ drop (c.loop-i.i + 1) bs))) (sym n.accs-is) (sift_on v w me c.args.piece.now (λ b. record { swaps = λ a s t. laws.swaps c.args.visit.now b a s t }) c.loop-i.accs tally slots keep c.args.rec.now bs kept.0 c.loop-i.i j at (kept.3 w me tally slots keep h))),
            );
            low = omega (arith, c.loop-i.invariant.low);
          }
      | else-opens+in_ok-far n ↦
          let pb : slice_get c.args.piece.now j ≡ Some n.index-piece-at-else-opens.result = got c.args.piece.now j n.index-piece-at-else-opens.result within n.index-piece-at-else-opens.is in
          let pb' : slice_get c.args.piece.now j ≡ Some c.index-piece-at.result = got c.args.piece.now j c.index-piece-at.result within c.index-piece-at.is in
          let pa : slice_get c.loop-i.accs j ≡ Some (get_or c.loop-i.accs j n.index-accs-at.result) = slice_get-get_or c.loop-i.accs j n.index-accs-at.result (subst (λ (n : ℕ). j < n) (sym k.balance.long) within) in
          record {
            kept = (
              kept.0,
              ap (λ v. v.items) n.places-is ∙ kept.1,
              kept.2,
              (λ w me tally slots keep h. subst (λ xs. Keeps v w me c.args.piece.now xs tally slots (keep ++ group false c.args.rec.now (kept.0 ++ drop (c.loop-i.i + 1) bs))) (sym n.accs-is)
                  (sift_far v w me c.args.piece.now (λ b. record { swaps = λ a s t. laws.swaps c.args.visit.now b a s t }) c.loop-i.accs tally slots keep c.args.rec.now bs kept.0 c.loop-i.i j at (kept.3 w me tally slots keep h) n.index-piece-at-else-opens.result (get_or c.loop-i.accs j n.index-accs-at.result) n.far.new.acc pb pa n.in_ok-far.ensures.added_or_unchanged
                  (subst (λ (y : BodyValue). v.opens y c.args.rec.now ≡ false) (some_same (sym pb' ∙ pb)) (sym c.opens.ensures.value ∙ n.if-opens.false)))),
            );
            low = omega (arith, c.loop-i.invariant.low);
          }
    ]

pub loop-i-init : goal.loop-i-init
loop-i-init g c = record {
  kept = ([], sym (append-nil c.args.places.now.items), All-nil _, (λ w me tally slots keep h. h));
  low = omega arith;
}

pub returns-then-whole : goal.returns-then-whole
returns-then-whole g c = record {
  pushed = ([], sym (append-nil c.args.places.now.items));
  within = c.requires.within;
  opened = (λ k d h b e. inl c.if-whole.true);
  kept = (λ w me tally slots keep h. h);
}

pub returns : goal.returns
returns g c =
    let kept = c.loop-i.invariant.kept in
    let bs = c.args.places.now.items in
    let v : VisitOf g.row.V-Acc.Denot = meaning g.V.Visit.zero_of g.V.Visit.adds g.V.Visit.opens_by g.V.Acc.Seen.seen_of c.args.visit.now in
    let back : drop c.len-to.result c.loop-i.places.items ≡ kept.0 = ap (drop c.len-to.result) kept.1 ∙ drop_front bs kept.0 c.len-to.result (omega (arith, c.len-to.ensures, c.args.places.now.ok.0)) in
    let none : drop c.loop-i.i bs ≡ [] = drop_all c.loop-i.i bs (omega (arith, c.loop-i-test.false, c.len-to.ensures, c.args.places.now.ok.0)) in
    record {
      pushed = (kept.0, kept.1);
      within = omega (arith, ap length kept.1, c.len-to.ensures, c.args.places.now.ok.0, length-append bs kept.0);
      opened = subst (λ (t : Bool). AreOpened v.opens c.args.piece.now t c.args.rec.now (drop c.len-to.result c.loop-i.places.items)) (sym c.if-whole.false) (subst (AreOpened v.opens c.args.piece.now false c.args.rec.now) (sym back) kept.2);
      kept = (λ w me tally slots keep h.
          let start = subst (λ (t : Bool). Keeps v w me c.args.piece.now c.args.accs.now tally slots (keep ++ group t c.args.rec.now (drop c.args.from bs))) c.if-whole.false h in
          subst (λ (t : Bool). Keeps v w me c.args.piece.now c.loop-i.accs tally slots (keep ++ group t c.args.rec.now (drop c.len-to.result c.loop-i.places.items))) (sym c.if-whole.false)
          (subst (λ (xs : List ℕ). Keeps v w me c.args.piece.now c.loop-i.accs tally slots (keep ++ group false c.args.rec.now xs)) (ap (λ (xs : List ℕ). kept.0 ++ xs) none ∙ append-nil kept.0 ∙ sym back)
          (kept.3 w me tally slots keep start)));
    }
