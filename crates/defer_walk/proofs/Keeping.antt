-- Sums, counts and traces, while pairs are replaced, moved and asked for.
use Rattle.std.proofs.Common.{ℕ, ◌≡◌, ◌<◌, true, false, List, [], ◌∷◌, ◌++◌, length, flat_map, set, eqb, sym, refl, ap, ◌∙◌, subst, inl, inr, arith, Some}
use Rattle.std.specs.Prelude.{All, Contains, ◌⊎◌, ◌↔◌, slice_get, sum_by}
use Rattle.std.proofs.lemmas.Bool.{cases_eq, eq-eqb, ne_eqb}
use Rattle.std.proofs.lemmas.Option.{slice_get_within, get_or_from_slice_get}
use Rattle.std.proofs.lemmas.List.{append-nil, length-append, length-set}
use Rattle.std.proofs.lemmas.List.Elements.{All-append, All-nil, All-cons, All-head, All-tail, All-weaker, Contains-append_left, Contains-append_right, Contains-append_cases}
use Rattle.std.proofs.lemmas.List.Sums.{sum_by-append, sum_by-cons}
use Rattle.hot_units.specs.Values.{BodyValue}
use Rattle.hot_units.proofs.Members.{nil_has}
use Rattle.hot_model.specs.Trees.{Term, added}
use Rattle.hot_model.proofs.Walks.{added-append}
use Rattle.rank_model.specs.World.{World}
use Rattle.rank_model.specs.Pairs.{PairValue, IsPair, rest_of, still_opened, still_asked, rests_at, MaySwap}
use Rattle.rank_model.proofs.Swaps.{added-exchange, rests-append}
use Rattle.defer_walk.specs.declared.asks.Slot.{Slot}
use Rattle.defer_walk.specs.Asked.{asked_keys}
use Rattle.defer_walk.specs.Settling.{Settles, now_opened}
use Rattle.defer_walk.specs.Tallies.{TallyValue, Notes, IsSameTally}
use Rattle.defer_walk.specs.Standing.{VisitOf, fold_in, opened_by, asked_by, AreStored, IsTraced, left_for, left_to_open}
use Rattle.defer_walk.specs.Turning.{Keeps}
use Rattle.defer_walk.proofs.Slots.{some_same, get_set_same, get_set_other}

-- what holds of a joined list holds of its front
pub All-front : {A : Type 0} (P : A → Type 0) (xs ys : List A) → All P (xs ++ ys) → All P xs
All-front P [] ys h = All-nil P
All-front P (x ∷ xs) ys h = All-cons P x xs (All-head P x (xs ++ ys) h) (All-front P xs ys (All-tail P x (xs ++ ys) h))

-- and of its back
pub All-back : {A : Type 0} (P : A → Type 0) (xs ys : List A) → All P (xs ++ ys) → All P ys
All-back P [] ys h = h
All-back P (x ∷ xs) ys h = All-back P xs ys (All-tail P x (xs ++ ys) h)

-- a list of one element
pub All-one : {A : Type 0} (P : A → Type 0) (x : A) → P x → All P (x ∷ [])
All-one P x h = All-cons P x [] h (All-nil P)

-- an element at a place is one of the list
pub get_has : {A : Type 0} (xs : List A) (i : ℕ) (x : A) → slice_get xs i ≡ Some x → Contains xs x
get_has xs i x e = (i, slice_get_within xs i x e, get_or_from_slice_get xs i x x e)

-- what rests of pairs of one body
module _ {X : Type 0} (rest : PairValue → List X) where
  -- all of it where all pairs are the body's
  pub rests_same : (i : ℕ) (xs : List PairValue) → All (λ q. q.body ≡ i) xs → rests_at rest i xs ≡ flat_map rest xs
  rests_same i [] h = refl
  rests_same i (x ∷ xs) h =
      let t : eqb x.body i ≡ true = eq-eqb _ _ (All-head (λ (q : PairValue). q.body ≡ i) x xs h) in
      rw t (ap (λ (ys : List X). rest x ++ ys) (rests_same i xs (All-tail (λ (q : PairValue). q.body ≡ i) x xs h)))

  -- nothing for another body
  pub rests_other : (i j : ℕ) → (i ≡ j → ⊥) → (xs : List PairValue) → All (λ q. q.body ≡ i) xs → rests_at rest j xs ≡ []
  rests_other i j n [] h = refl
  rests_other i j n (x ∷ xs) h =
      let t : eqb x.body j ≡ false = ne_eqb _ _ (λ e. n (sym (All-head (λ (q : PairValue). q.body ≡ i) x xs h) ∙ e)) in
      rw t (rests_other i j n xs (All-tail (λ (q : PairValue). q.body ≡ i) x xs h))

  -- of one pair for its body
  pub rests_one : (p : PairValue) → rests_at rest p.body (p ∷ []) ≡ rest p
  rests_one p = rests_same p.body (p ∷ []) (All-one (λ (q : PairValue). q.body ≡ p.body) p refl) ∙ append-nil (rest p)

  -- and for another one nothing
  pub rests_none : (p : PairValue) (j : ℕ) → (p.body ≡ j → ⊥) → rests_at rest j (p ∷ []) ≡ []
  rests_none p j n = rests_other p.body j n (p ∷ []) (All-one (λ (q : PairValue). q.body ≡ p.body) p refl)

added-end : {A : Type 0} (add : A → Term → A) → MaySwap add → (a : A) (xs ys : List Term) → added add a (xs ++ ys) ≡ added add (added add a ys) xs
added-end add m a xs ys = added-append add a xs ys ∙ added-exchange add m a xs ys

-- the lists of keys that rest of a pair
module _ (rest : BodyValue → PairValue → List ℕ) (all : BodyValue → List ℕ) (bodies : List BodyValue) where
  -- the pair at the end has its cells among those that rest
  pub end_rests : (done : List ℕ) (keep : List PairValue) (p : PairValue) (b : BodyValue) (k : ℕ) → slice_get bodies p.body ≡ Some b → IsTraced rest all bodies done (keep ++ p ∷ []) → Contains (rest b p) k → Contains (all b) k
  end_rests done keep p b k pb t h =
      t.rests p.body b k pb
      (subst (λ (ks : List ℕ). Contains ks k) (sym (rests-append (rest b) p.body keep (p ∷ [])))
      (Contains-append_right (rests_at (rest b) p.body keep) (rests_at (rest b) p.body (p ∷ [])) k (subst (λ (ks : List ℕ). Contains ks k) (sym (rests_one (rest b) p)) h)))

  -- the cells stay traced where others stand in the place of a pair
  pub traced_settled : (done done' here : List ℕ) (keep next : List PairValue) (p : PairValue) (b₀ : BodyValue) → slice_get bodies p.body ≡ Some b₀ → rest b₀ p ≡ here ++ flat_map (rest b₀) next → All (λ q. q.body ≡ p.body) next
      → ((k : ℕ) → Contains done' k ↔ (Contains done k ⊎ Contains here k)) → IsTraced rest all bodies done (keep ++ p ∷ []) → IsTraced rest all bodies done' (keep ++ next)
  traced_settled done done' here keep next p b₀ pb eq same grown t = record {
    sound = λ k h.
        elim ((grown k).0 h) [
          | inl f ↦ t.sound k f
          | inr f ↦ (b₀, get_has bodies p.body b₀ pb, end_rests done keep p b₀ k pb t (subst (λ (ks : List ℕ). Contains ks k) (sym eq) (Contains-append_left here (flat_map (rest b₀) next) k f)))
        ];
    rests = λ i b k e h.
        elim (Contains-append_cases (rests_at (rest b) i keep) (rests_at (rest b) i next) k (subst (λ (ks : List ℕ). Contains ks k) (rests-append (rest b) i keep next) h)) [
          | inl f ↦ t.rests i b k e (subst (λ (ks : List ℕ). Contains ks k) (sym (rests-append (rest b) i keep (p ∷ []))) (Contains-append_left (rests_at (rest b) i keep) (rests_at (rest b) i (p ∷ [])) k f))
          | inr f ↦ elim (cases_eq p.body i) [
            | inl q ↦
                let s : b ≡ b₀ = some_same (sym e ∙ ap (slice_get bodies) (sym q) ∙ pb) in
                let g : Contains (rests_at (rest b₀) p.body next) k = subst (λ (x : BodyValue). Contains (rests_at (rest x) p.body next) k) s (subst (λ (j : ℕ). Contains (rests_at (rest b) j next) k) (sym q) f) in
                subst (λ (x : BodyValue). Contains (all x) k) (sym s)
                (end_rests done keep p b₀ k pb t (subst (λ (ks : List ℕ). Contains ks k) (sym eq) (Contains-append_right here (flat_map (rest b₀) next) k (subst (λ (ks : List ℕ). Contains ks k) (rests_same (rest b₀) p.body next same) g))))
            | inr n ↦ absurd (nil_has k (subst (λ (ks : List ℕ). Contains ks k) (rests_other (rest b) p.body i n next same) f))
          ]
        ];
    complete = λ i b k e h.
        elim (t.complete i b k e h) [
          | inl f ↦ inl ((grown k).1 (inl f))
          | inr f ↦ elim (Contains-append_cases (rests_at (rest b) i keep) (rests_at (rest b) i (p ∷ [])) k (subst (λ (ks : List ℕ). Contains ks k) (rests-append (rest b) i keep (p ∷ [])) f)) [
            | inl g ↦ inr (subst (λ (ks : List ℕ). Contains ks k) (sym (rests-append (rest b) i keep next)) (Contains-append_left (rests_at (rest b) i keep) (rests_at (rest b) i next) k g))
            | inr g ↦ elim (cases_eq p.body i) [
              | inl q ↦
                  let s : b ≡ b₀ = some_same (sym e ∙ ap (slice_get bodies) (sym q) ∙ pb) in
                  let g' : Contains (rests_at (rest b₀) p.body (p ∷ [])) k = subst (λ (x : BodyValue). Contains (rests_at (rest x) p.body (p ∷ [])) k) s (subst (λ (j : ℕ). Contains (rests_at (rest b) j (p ∷ [])) k) (sym q) g) in
                  elim (Contains-append_cases here (flat_map (rest b₀) next) k (subst (λ (ks : List ℕ). Contains ks k) (rests_one (rest b₀) p ∙ eq) g')) [
                    | inl x ↦ inl ((grown k).1 (inr x))
                    | inr x ↦
                        let there : Contains (rests_at (rest b₀) p.body next) k = subst (λ (ks : List ℕ). Contains ks k) (sym (rests_same (rest b₀) p.body next same)) x in
                        inr (subst (λ (ks : List ℕ). Contains ks k) (sym (rests-append (rest b) i keep next))
                        (Contains-append_right (rests_at (rest b) i keep) (rests_at (rest b) i next) k
                        (subst (λ (j : ℕ). Contains (rests_at (rest b) j next) k) q (subst (λ (x : BodyValue). Contains (rests_at (rest x) p.body next) k) (sym s) there))))
                  ]
              | inr n ↦ absurd (nil_has k (subst (λ (ks : List ℕ). Contains ks k) (rests_none (rest b) p i n) g))
            ]
          ]
        ];
  }

  -- whatever rests, rests in any order
  pub traced_moved : (done : List ℕ) (ps qs : List PairValue) → ((r : PairValue → List ℕ) (i k : ℕ) → Contains (rests_at r i ps) k ↔ Contains (rests_at r i qs) k) → IsTraced rest all bodies done ps → IsTraced rest all bodies done qs
  traced_moved done ps qs m t = record {
    sound = t.sound;
    rests = λ i b k e h. t.rests i b k e ((m (rest b) i k).1 h);
    complete = λ i b k e h. elim (t.complete i b k e h) [ inl f ↦ inl f | inr f ↦ inr ((m (rest b) i k).0 f) ];
  }

  -- more of what the bodies have was done
  pub traced_more : (done done' : List ℕ) (ps : List PairValue) → ((k : ℕ) → Contains done k → Contains done' k) → ((k : ℕ) → Contains done' k → Contains done k ⊎ ((b : BodyValue) × Contains bodies b × Contains (all b) k))
      → IsTraced rest all bodies done ps → IsTraced rest all bodies done' ps
  traced_more done done' ps up down t = record {
    sound = λ k h. elim (down k h) [ inl f ↦ t.sound k f | inr f ↦ f ];
    rests = t.rests;
    complete = λ i b k e h. elim (t.complete i b k e h) [ inl f ↦ inl (up k f) | inr f ↦ inr f ];
  }

-- two blocks of a list may change places
pub All-blocks : {A : Type 0} (P : A → Type 0) (xs ys zs us : List A) → All P (xs ++ (ys ++ (zs ++ us))) → All P (xs ++ (zs ++ (ys ++ us)))
All-blocks P xs ys zs us h =
    let back = All-back P xs (ys ++ (zs ++ us)) h in
    let last = All-back P ys (zs ++ us) back in
    All-append P xs (zs ++ (ys ++ us)) (All-front P xs (ys ++ (zs ++ us)) h)
    (All-append P zs (ys ++ us) (All-front P zs us last) (All-append P ys us (All-front P ys (zs ++ us) back) (All-back P zs us last)))

module _ {X : Type 0} (r : PairValue → List X) (i : ℕ) where
  -- what rests of four blocks of pairs
  pub rests_blocks : (xs ys zs us : List PairValue) → rests_at r i (xs ++ (ys ++ (zs ++ us))) ≡ rests_at r i xs ++ (rests_at r i ys ++ (rests_at r i zs ++ rests_at r i us))
  rests_blocks xs ys zs us =
      rests-append r i xs (ys ++ (zs ++ us)) ∙ ap (λ (ts : List X). rests_at r i xs ++ ts) (rests-append r i ys (zs ++ us) ∙ ap (λ (ts : List X). rests_at r i ys ++ ts) (rests-append r i zs us))

  -- no cell is lost where two blocks change places
  pub moved_rests : (xs ys zs us : List PairValue) (k : X) → Contains (rests_at r i (xs ++ (ys ++ (zs ++ us)))) k → Contains (rests_at r i (xs ++ (zs ++ (ys ++ us)))) k
  moved_rests xs ys zs us k h =
      let a = rests_at r i xs in
      let b = rests_at r i ys in
      let c = rests_at r i zs in
      let d = rests_at r i us in
      subst (λ (ks : List X). Contains ks k) (sym (rests_blocks xs zs ys us))
      (elim (Contains-append_cases a (b ++ (c ++ d)) k (subst (λ (ks : List X). Contains ks k) (rests_blocks xs ys zs us) h)) [
        | inl f ↦ Contains-append_left a (c ++ (b ++ d)) k f
        | inr f ↦ Contains-append_right a (c ++ (b ++ d)) k (elim (Contains-append_cases b (c ++ d) k f) [
          | inl g ↦ Contains-append_right c (b ++ d) k (Contains-append_left b d k g)
          | inr g ↦ elim (Contains-append_cases c d k g) [
            | inl m ↦ Contains-append_left c (b ++ d) k m
            | inr m ↦ Contains-append_right c (b ++ d) k (Contains-append_right b d k m)
          ]
        ])
      ])

added-blocks : {A : Type 0} (add : A → Term → A) → MaySwap add → (a : A) (xs ys zs us : List Term) → added add a (xs ++ (ys ++ (zs ++ us))) ≡ added add a (xs ++ (zs ++ (ys ++ us)))
added-blocks {A = A} add m a xs ys zs us =
    let o = added add a xs in
    added-append add a xs (ys ++ (zs ++ us)) ∙ added-append add o ys (zs ++ us) ∙ added-append add (added add o ys) zs us
    ∙ ap (λ (x : A). added add x us) (added-exchange add m o ys zs)
    ∙ sym (added-append add (added add o zs) ys us) ∙ sym (added-append add o zs (ys ++ us)) ∙ sym (added-append add a xs (zs ++ (ys ++ us)))

-- what one visit keeps
module _ {A : Type 0} (v : VisitOf A) (w : World) (me : ℕ) (bodies : List BodyValue) where
  -- the cells that pairs of one body may still open
  left_same : (i : ℕ) (b : BodyValue) → slice_get bodies i ≡ Some b → (ps : List PairValue) → All (λ q. q.body ≡ i) ps → sum_by (left_to_open v w bodies) ps ≡ length (flat_map (still_opened (v.opens b) w) ps)
  left_same i b e [] h = refl
  left_same i b e (q ∷ qs) h =
      let at : slice_get bodies q.body ≡ Some b = ap (slice_get bodies) (All-head (λ (q : PairValue). q.body ≡ i) q qs h) ∙ e in
      let one : left_to_open v w bodies q ≡ length (still_opened (v.opens b) w q) = ap (left_for v w q) at in
      let more = left_same i b e qs (All-tail (λ (q : PairValue). q.body ≡ i) q qs h) in
      omega (arith, one, more, sum_by-cons (left_to_open v w bodies) q qs, length-append (still_opened (v.opens b) w q) (flat_map (still_opened (v.opens b) w) qs))

  module _ (swap : (b : BodyValue) → MaySwap (v.adds b)) where
    sums_settled : (accs : List A) (keep next : List PairValue) (p : PairValue) (b₀ : BodyValue) (a₀ a₁ : A) → slice_get bodies p.body ≡ Some b₀ → slice_get accs p.body ≡ Some a₀
        → added (v.adds b₀) a₀ (rest_of (v.opens b₀) w p) ≡ added (v.adds b₀) a₁ (flat_map (rest_of (v.opens b₀) w) next) → All (λ q. q.body ≡ p.body) next
        → ((i : ℕ) (b : BodyValue) (a : A) → slice_get bodies i ≡ Some b → slice_get accs i ≡ Some a → added (v.adds b) a (rests_at (rest_of (v.opens b) w) i (keep ++ p ∷ [])) ≡ fold_in v w b)
        → (i : ℕ) (b : BodyValue) (a : A) → slice_get bodies i ≡ Some b → slice_get (set accs p.body a₁) i ≡ Some a → added (v.adds b) a (rests_at (rest_of (v.opens b) w) i (keep ++ next)) ≡ fold_in v w b
    sums_settled accs keep next p b₀ a₀ a₁ pb pa bal same sums i b a eb ea =
        elim (cases_eq p.body i) [
          | inl e ↦ mine e
          | inr n ↦
              let old : rests_at (rest_of (v.opens b) w) i (keep ++ p ∷ []) ≡ rests_at (rest_of (v.opens b) w) i keep =
              rests-append (rest_of (v.opens b) w) i keep (p ∷ []) ∙ ap (λ (ts : List Term). rests_at (rest_of (v.opens b) w) i keep ++ ts) (rests_none (rest_of (v.opens b) w) p i n) ∙ append-nil (rests_at (rest_of (v.opens b) w) i keep) in
              let new : rests_at (rest_of (v.opens b) w) i (keep ++ next) ≡ rests_at (rest_of (v.opens b) w) i keep =
              rests-append (rest_of (v.opens b) w) i keep next ∙ ap (λ (ts : List Term). rests_at (rest_of (v.opens b) w) i keep ++ ts) (rests_other (rest_of (v.opens b) w) p.body i n next same) ∙ append-nil (rests_at (rest_of (v.opens b) w) i keep) in
              ap (added (v.adds b) a) (new ∙ sym old) ∙ sums i b a eb (sym (get_set_other accs p.body i a₁ n) ∙ ea)
        ]
      where
        mine : p.body ≡ i → added (v.adds b) a (rests_at (rest_of (v.opens b) w) i (keep ++ next)) ≡ fold_in v w b
        mine e =
            let eb₀ : b ≡ b₀ = some_same (sym eb ∙ ap (slice_get bodies) (sym e) ∙ pb) in
            let ea₁ : a ≡ a₁ = get_set_same accs p.body a₁ a (ap (slice_get (set accs p.body a₁)) e ∙ ea) in
            let r = rest_of (v.opens b₀) w in
            let goal : added (v.adds b₀) a₁ (rests_at r p.body (keep ++ next)) ≡ fold_in v w b₀ =
            ap (added (v.adds b₀) a₁) (rests-append r p.body keep next ∙ ap (λ (ts : List Term). rests_at r p.body keep ++ ts) (rests_same r p.body next same))
            ∙ added-end (v.adds b₀) (swap b₀) a₁ (rests_at r p.body keep) (flat_map r next)
            ∙ ap (λ (x : A). added (v.adds b₀) x (rests_at r p.body keep)) (sym bal)
            ∙ sym (added-end (v.adds b₀) (swap b₀) a₀ (rests_at r p.body keep) (r p))
            ∙ ap (added (v.adds b₀) a₀) (ap (λ (ts : List Term). rests_at r p.body keep ++ ts) (sym (rests_one r p)) ∙ sym (rests-append r p.body keep (p ∷ [])))
            ∙ sums p.body b₀ a₀ pb pa in
            subst (λ (j : ℕ). added (v.adds b) a (rests_at (rest_of (v.opens b) w) j (keep ++ next)) ≡ fold_in v w b) e
            (subst (λ (x : BodyValue). added (v.adds x) a (rests_at (rest_of (v.opens x) w) p.body (keep ++ next)) ≡ fold_in v w x) (sym eb₀)
            (subst (λ (x : A). added (v.adds b₀) x (rests_at r p.body (keep ++ next)) ≡ fold_in v w b₀) (sym ea₁) goal))

    All-settled : (P : PairValue → Type 0) (keep next : List PairValue) (p : PairValue) → All P (keep ++ p ∷ []) → All P next → All P (keep ++ next)
    All-settled P keep next p h k = All-append P keep next (All-front P keep (p ∷ []) h) k

    -- other pairs took the place of the one at the end
    pub keeps_settled : (accs : List A) (tally tally' : TallyValue) (slots : List Slot) (keep next : List PairValue) (p : PairValue) (b₀ : BodyValue) (a₀ a₁ : A) (here : List ℕ) → slice_get bodies p.body ≡ Some b₀ → slice_get accs p.body ≡ Some a₀
        → Settles (v.adds b₀) (v.opens b₀) w me p a₀ a₁ here next → Notes tally tally' (now_opened (v.opens b₀) p) → ((k : ℕ) → Contains here k → Contains (asked_keys slots) k)
        → Keeps v w me bodies accs tally slots (keep ++ p ∷ []) → Keeps v w me bodies (set accs p.body a₁) tally' slots (keep ++ next)
    keeps_settled accs tally tally' slots keep next p b₀ a₀ a₁ here pb pa s n known r = record {
      store = r.store;
      balance = record {
        long = length-set accs p.body a₁ ∙ r.balance.long;
        none = r.balance.none;
        places = All-settled (λ q. q.body < length bodies) keep next p r.balance.places (All-weaker (λ (q : PairValue). q.body ≡ p.body) (λ (q : PairValue). q.body < length bodies) (λ q e. subst (λ (i : ℕ). i < length bodies) (sym e) (slice_get_within bodies p.body b₀ pb)) next s.bodies);
        cells = All-settled (IsPair w) keep next p r.balance.cells s.pairs;
        sums = sums_settled accs keep next p b₀ a₀ a₁ pb pa s.balance s.bodies r.balance.sums;
      };
      count = record {
        opened =
            let one : left_to_open v w bodies p ≡ length (still_opened (v.opens b₀) w p) = ap (left_for v w p) pb in
            let all = ap length s.opened in
            let split = length-append (now_opened (v.opens b₀) p) (flat_map (still_opened (v.opens b₀) w) next) in
            let left = left_same p.body b₀ pb next s.bodies in
            let before = sum_by-append (left_to_open v w bodies) keep (p ∷ []) in
            let after = sum_by-append (left_to_open v w bodies) keep next in
            let single = sum_by-cons (left_to_open v w bodies) p [] in
            let whole = r.count.opened in
            let noted = n.count in
            omega (arith, one, all, split, left, before, after, single, whole, noted);
        cells = traced_settled (λ b. still_opened (v.opens b) w) (opened_by v w) bodies tally.cells tally'.cells (now_opened (v.opens b₀) p) keep next p b₀ pb s.opened s.bodies n.has r.count.cells;
        asks = traced_settled (λ b. still_asked (v.opens b) w me) (asked_by v w me) bodies (asked_keys slots) (asked_keys slots) here keep next p b₀ pb s.asked s.bodies
            (λ k. ((λ h. inl h), (λ h. elim h [ inl f ↦ f | inr f ↦ known k f ]))) r.count.asks;
      };
    }

    -- two blocks of pairs may change places
    pub keeps_blocks : (accs : List A) (tally : TallyValue) (slots : List Slot) (xs ys zs us : List PairValue) → Keeps v w me bodies accs tally slots (xs ++ (ys ++ (zs ++ us))) → Keeps v w me bodies accs tally slots (xs ++ (zs ++ (ys ++ us)))
    keeps_blocks accs tally slots xs ys zs us r = record {
      store = r.store;
      balance = record {
        long = r.balance.long;
        none = r.balance.none;
        places = All-blocks (λ q. q.body < length bodies) xs ys zs us r.balance.places;
        cells = All-blocks (IsPair w) xs ys zs us r.balance.cells;
        sums = λ i b a eb ea.
            let f = rest_of (v.opens b) w in
            ap (added (v.adds b) a) (rests_blocks f i xs zs ys us)
            ∙ added-blocks (v.adds b) (swap b) a (rests_at f i xs) (rests_at f i zs) (rests_at f i ys) (rests_at f i us)
            ∙ ap (added (v.adds b) a) (sym (rests_blocks f i xs ys zs us))
            ∙ r.balance.sums i b a eb ea;
      };
      count = record {
        opened =
            let g = left_to_open v w bodies in
            let whole = r.count.opened in
            omega (arith, whole, sum_by-append g xs (ys ++ (zs ++ us)), sum_by-append g ys (zs ++ us), sum_by-append g zs us, sum_by-append g xs (zs ++ (ys ++ us)), sum_by-append g zs (ys ++ us), sum_by-append g ys us);
        cells = traced_moved (λ b. still_opened (v.opens b) w) (opened_by v w) bodies tally.cells (xs ++ (ys ++ (zs ++ us))) (xs ++ (zs ++ (ys ++ us))) (λ f i k. (moved_rests f i xs ys zs us k, moved_rests f i xs zs ys us k)) r.count.cells;
        asks = traced_moved (λ b. still_asked (v.opens b) w me) (asked_by v w me) bodies (asked_keys slots) (xs ++ (ys ++ (zs ++ us))) (xs ++ (zs ++ (ys ++ us))) (λ f i k. (moved_rests f i xs ys zs us k, moved_rests f i xs zs ys us k)) r.count.asks;
      };
    }

    -- the tally may be another one with the same number and cells
    pub keeps_tally : (accs : List A) (tally tally' : TallyValue) (slots : List Slot) (pairs : List PairValue) → IsSameTally tally tally' → Keeps v w me bodies accs tally slots pairs → Keeps v w me bodies accs tally' slots pairs
    keeps_tally accs tally tally' slots pairs same r = record {
      store = r.store;
      balance = r.balance;
      count = record {
        opened = omega (arith, same.count, r.count.opened);
        cells = record {
          sound = λ k h. r.count.cells.sound k ((same.has k).0 h);
          rests = r.count.cells.rests;
          complete = λ i b k e h. elim (r.count.cells.complete i b k e h) [ inl f ↦ inl ((same.has k).1 f) | inr f ↦ inr f ];
        };
        asks = r.count.asks;
      };
    }

    -- more cells were asked for, that bodies ask for
    pub keeps_asked : (accs : List A) (tally : TallyValue) (slots slots' : List Slot) (pairs : List PairValue) → AreStored v w me slots' → ((k : ℕ) → Contains (asked_keys slots) k → Contains (asked_keys slots') k)
        → ((k : ℕ) → Contains (asked_keys slots') k → Contains (asked_keys slots) k ⊎ ((b : BodyValue) × Contains bodies b × Contains (asked_by v w me b) k))
        → Keeps v w me bodies accs tally slots pairs → Keeps v w me bodies accs tally slots' pairs
    keeps_asked accs tally slots slots' pairs stored up down r = record {
      store = stored;
      balance = r.balance;
      count = record {
        opened = r.count.opened;
        cells = r.count.cells;
        asks = traced_more (λ b. still_asked (v.opens b) w me) (asked_by v w me) bodies (asked_keys slots) (asked_keys slots') pairs up down r.count.asks;
      };
    }
