-- Pairs that wait are put in and taken out.
use Rattle.std.proofs.Common.{ℕ, ◌≡◌, Bool, List, [], ◌∷◌, ◌++◌, map, refl, sym, ap, ◌∙◌, subst, inl, inr, Option, None, append_assoc}
use Rattle.std.specs.Prelude.{All, Contains, IsSome, ◌⊎◌}
use Rattle.std.proofs.lemmas.List.{append-nil, map-append}
use Rattle.std.proofs.lemmas.List.Elements.{All-append, All-nil, All-head, All-tail, All-cons, All-weaker}
use Rattle.hot_units.specs.Values.{BodyValue}
use Rattle.hot_units.proofs.Members.{all_members, map_has}
use Rattle.hot_model.specs.declared.answer.Answer.{Answer}
use Rattle.rank_model.specs.World.{World}
use Rattle.rank_model.specs.Pairs.{PairValue, MaySwap}
use Rattle.defer_walk.specs.declared.asks.Slot.{Slot}
use Rattle.defer_walk.specs.declared.listed.Listed.{Listed}
use Rattle.defer_walk.specs.declared.held.Held.{Held}
use Rattle.defer_walk.specs.Asked.{stored_at, Extends}
use Rattle.defer_walk.specs.Tallies.{TallyValue}
use Rattle.defer_walk.specs.Grouping.{listed_as, listed_of, all_listed}
use Rattle.defer_walk.specs.Standing.{VisitOf, Waits, AreUnanswered, IsAwake, pair_in, pairs_in}
use Rattle.defer_walk.specs.Turning.{Beginning, Keeps, Runs}
use Rattle.defer_walk.specs.Waiting.{Inserts, Takes, AreWoken}
use Rattle.defer_walk.proofs.Keeping.{All-front, All-back, keeps_blocks}
use Rattle.defer_walk.proofs.Turnings.{All-has}
use Rattle.defer_walk.proofs.Slots.{stored_extends, keys_extend}
use Rattle.defer_walk.proofs.Walking.{unanswered_in}

-- and with more groups
pub takes_all : (hs gs : List Held) (old mid new : List Listed) → Takes hs old mid → Takes gs mid new → Takes (hs ++ gs) old new
takes_all [] gs old mid new e t = subst (λ (ls : List Listed). Takes gs ls new) (sym e) t
takes_all (x ∷ xs) gs old mid new s t = (s.0, s.1, takes_all xs gs s.0 mid new s.2 t)

-- what holds of all pairs holds of those that were taken out, and of those that are left
pub taken_hold : (P : Listed → Type 0) (hs : List Held) (old new : List Listed) → Takes hs old new → All P old → All P (all_listed hs) × All P new
taken_hold P [] old new e k = (All-nil P, subst (All P) e k)
taken_hold P (h ∷ hs) old new t k =
    let i = t.1 in
    let split = subst (All P) i.new_is k in
    let behind = All-back P i.front (listed_of h ++ i.back) split in
    let left = subst (All P) (sym i.old_is) (All-append P i.front i.back (All-front P i.front (listed_of h ++ i.back) split) (All-back P (listed_of h) i.back behind)) in
    let rest = taken_hold P hs t.0 new t.2 left in
    (All-append P (listed_of h) (all_listed hs) (All-front P (listed_of h) i.back behind) rest.0, rest.1)

-- the pairs of a world that were put in
inserted_in : (w : World) (more old new : List Listed) (i : Inserts more old new) → pairs_in w new ≡ pairs_in w i.front ++ (pairs_in w more ++ pairs_in w i.back)
inserted_in w more old new i =
    ap (pairs_in w) i.new_is
    ∙ map-append (pair_in w) i.front (more ++ i.back)
    ∙ ap (λ (ps : List PairValue). pairs_in w i.front ++ ps) (map-append (pair_in w) more i.back)

left_in : (w : World) (more old new : List Listed) (i : Inserts more old new) → pairs_in w old ≡ pairs_in w i.front ++ pairs_in w i.back
left_in w more old new i = ap (pairs_in w) i.old_is ∙ map-append (pair_in w) i.front i.back

-- what holds of the pairs with more at the end holds where they were put in
inserted_hold : (w : World) (P : PairValue → Type 0) (more old new : List Listed) → Inserts more old new → All P (pairs_in w old ++ pairs_in w more) → All P (pairs_in w new)
inserted_hold w P more old new i k =
    let m = pairs_in w more in
    let f = pairs_in w i.front in
    let b = pairs_in w i.back in
    let both = subst (All P) (left_in w more old new i) (All-front P (pairs_in w old) m k) in
    subst (All P) (sym (inserted_in w more old new i))
    (All-append P f (m ++ b) (All-front P f b both) (All-append P m b (All-back P (pairs_in w old) m k) (All-back P f b both)))

-- a pair of a world waits where the listed one does
pub waits_in : (w : World) (P : PairValue → Type 0) (ls : List Listed) → All (λ l. P (pair_in w l)) ls → All P (pairs_in w ls)
waits_in w P [] h = All-nil P
waits_in w P (l ∷ ls) h = All-cons P (pair_in w l) (pairs_in w ls) (All-head (λ (x : Listed). P (pair_in w x)) l ls h) (waits_in w P ls (All-tail (λ (x : Listed). P (pair_in w x)) l ls h))

-- and back
pub waits_back : (w : World) (P : PairValue → Type 0) (ls : List Listed) → All P (pairs_in w ls) → All (λ l. P (pair_in w l)) ls
waits_back w P [] h = All-nil (λ (x : Listed). P (pair_in w x))
waits_back w P (l ∷ ls) h = All-cons (λ (x : Listed). P (pair_in w x)) l ls (All-head P (pair_in w l) (pairs_in w ls) h) (waits_back w P ls (All-tail P (pair_in w l) (pairs_in w ls) h))

-- once the bodies of all woken cells were taken out, the others wait for cells that lack their answers
pub left_absent : (keys : List ℕ) (slots : List Slot) (hs : List Held) (old new : List Listed) → AreWoken keys slots old → Takes hs old new → ((key : ℕ) → Contains keys key → All (λ p. p.key ≡ key → ⊥) new) → AreUnanswered slots new
left_absent keys slots hs old new woken t none =
    let left = (taken_hold (λ (p : Listed). (stored_at slots p.key ≡ None) ⊎ Contains keys p.key) hs old new t woken.others).1 in
    all_members (λ (p : Listed). stored_at slots p.key ≡ None) new (λ p m.
    elim (All-has (λ (p : Listed). (stored_at slots p.key ≡ None) ⊎ Contains keys p.key) new p left m) [
      | inl e ↦ e
      | inr h ↦ absurd (All-has (λ (q : Listed). q.key ≡ p.key → ⊥) new p (none p.key h) m refl)
    ])

-- the pairs that were taken out are awake
pub taken_awake : (slots : List Slot) (pairs : List Listed) (hs : List Held) (new : List Listed) → Takes hs pairs new → All (λ p. IsSome (stored_at slots p.key)) (all_listed hs) → All (λ p. IsAwake slots pairs p.key) (all_listed hs)
taken_awake slots pairs hs new t some =
    let there = (taken_hold (λ (p : Listed). Contains (map (λ (q : Listed). q.key) pairs) p.key) hs pairs new t (all_members (λ (p : Listed). Contains (map (λ (q : Listed). q.key) pairs) p.key) pairs (λ p m. map_has (λ (q : Listed). q.key) pairs p m))).0 in
    all_members (λ (p : Listed). IsAwake slots pairs p.key) (all_listed hs) (λ p m. (
      All-has (λ (q : Listed). Contains (map (λ (x : Listed). x.key) pairs) q.key) (all_listed hs) p there m,
      All-has (λ (q : Listed). IsSome (stored_at slots q.key)) (all_listed hs) p some m,
    ))

-- what holds of these keys holds of the pairs of groups with them
held_keys : (P : ℕ → Type 0) (keys : List ℕ) → All P keys → (hs : List Held) → All (λ h. Contains keys h.key) hs → All (λ p. P p.key) (all_listed hs)
held_keys P keys k [] f = All-nil (λ (p : Listed). P p.key)
held_keys P keys k (h ∷ hs) f =
    All-append (λ (p : Listed). P p.key) (listed_of h) (all_listed hs) (each h.key h.whole h.bodies.items (All-has P keys h.key k (All-head (λ (x : Held). Contains keys x.key) h hs f)))
    (held_keys P keys k hs (All-tail (λ (x : Held). Contains keys x.key) h hs f))
  where
    each : (key : ℕ) (whole : Bool) (bs : List ℕ) → P key → All (λ p. P p.key) (listed_as key whole bs)
    each key whole [] p = All-nil (λ (q : Listed). P q.key)
    each key whole (b ∷ bs) p = All-cons (λ (q : Listed). P q.key) (record { body = b; whole = whole; key = key }) (listed_as key whole bs) p (each key whole bs p)

module _ {A : Type 0} (v : VisitOf A) (w : World) (me : ℕ) (start : Beginning) (bodies : List BodyValue) (swap : (b : BodyValue) → MaySwap (v.adds b)) where
  -- pairs that wait may be put in anywhere
  pub runs_inserted : (accs : List A) (tally : TallyValue) (slots : List Slot) (rest : List PairValue) (more old new : List Listed) → Inserts more old new
      → Runs v w me start bodies accs tally slots rest (pairs_in w old ++ pairs_in w more) → Runs v w me start bodies accs tally slots rest (pairs_in w new)
  runs_inserted accs tally slots rest more old new i r =
      let m = pairs_in w more in
      let f = pairs_in w i.front in
      let b = pairs_in w i.back in
      let apart : (pairs_in w old ++ m) ++ rest ≡ f ++ (b ++ (m ++ rest)) =
      append_assoc (pairs_in w old) m rest ∙ ap (λ (ps : List PairValue). ps ++ (m ++ rest)) (left_in w more old new i) ∙ append_assoc f b (m ++ rest) in
      let joined : pairs_in w new ++ rest ≡ f ++ (m ++ (b ++ rest)) =
      ap (λ (ps : List PairValue). ps ++ rest) (inserted_in w more old new i) ∙ append_assoc f (m ++ b) rest ∙ ap (λ (ps : List PairValue). f ++ ps) (append_assoc m b rest) in
      record {
        keeps = subst (Keeps v w me bodies accs tally slots) (sym joined) (keeps_blocks v w me bodies swap accs tally slots f b m rest (subst (Keeps v w me bodies accs tally slots) apart r.keeps));
        asks = r.asks;
        clear = r.clear;
        waits = inserted_hold w (Waits v w me bodies slots) more old new i r.waits;
        absent = inserted_hold w (λ (p : PairValue). stored_at slots p.rec.key ≡ None) more old new i r.absent;
      }

  -- pairs that were taken out go behind the others
  keeps_taken : (accs : List A) (tally : TallyValue) (slots : List Slot) (hs : List Held) (old new : List Listed) (out : List PairValue) → Takes hs old new
      → Keeps v w me bodies accs tally slots (pairs_in w old ++ out) → Keeps v w me bodies accs tally slots (pairs_in w new ++ (out ++ pairs_in w (all_listed hs)))
  keeps_taken accs tally slots [] old new out e k = subst (Keeps v w me bodies accs tally slots) (ap (λ (ls : List Listed). pairs_in w ls ++ out) e ∙ ap (λ (ps : List PairValue). pairs_in w new ++ ps) (sym (append-nil out))) k
  keeps_taken accs tally slots (h ∷ hs) old new out t k =
      let i = t.1 in
      let m = pairs_in w (listed_of h) in
      let f = pairs_in w i.front in
      let b = pairs_in w i.back in
      let apart : pairs_in w old ++ out ≡ f ++ (m ++ ((b ++ out) ++ [])) =
      ap (λ (ps : List PairValue). ps ++ out) (inserted_in w (listed_of h) t.0 old i) ∙ append_assoc f (m ++ b) out ∙ ap (λ (ps : List PairValue). f ++ ps) (append_assoc m b out)
      ∙ ap (λ (ps : List PairValue). f ++ (m ++ ps)) (sym (append-nil (b ++ out))) in
      let joined : pairs_in w t.0 ++ (out ++ m) ≡ f ++ ((b ++ out) ++ (m ++ [])) =
      ap (λ (ps : List PairValue). ps ++ (out ++ m)) (left_in w (listed_of h) t.0 old i) ∙ append_assoc f b (out ++ m) ∙ ap (λ (ps : List PairValue). f ++ ps) (sym (append_assoc b out m))
      ∙ ap (λ (ps : List PairValue). f ++ ((b ++ out) ++ ps)) (sym (append-nil m)) in
      let moved : Keeps v w me bodies accs tally slots (pairs_in w t.0 ++ (out ++ m)) =
      subst (Keeps v w me bodies accs tally slots) (sym joined) (keeps_blocks v w me bodies swap accs tally slots f m (b ++ out) [] (subst (Keeps v w me bodies accs tally slots) apart k)) in
      subst (λ (ps : List PairValue). Keeps v w me bodies accs tally slots (pairs_in w new ++ ps))
      (append_assoc out m (pairs_in w (all_listed hs)) ∙ ap (λ (ps : List PairValue). out ++ ps) (sym (map-append (pair_in w) (listed_of h) (all_listed hs))))
      (keeps_taken accs tally slots hs t.0 new (out ++ m) t.2 moved)

  -- an advance goes on with the pairs that were taken out, and the others wait
  pub runs_taken : (accs : List A) (tally : TallyValue) (slots : List Slot) (hs : List Held) (old new : List Listed) → Takes hs old new → All (Waits v w me bodies slots) (pairs_in w new) → AreUnanswered slots new
      → Runs v w me start bodies accs tally slots (pairs_in w old) [] → Runs v w me start bodies accs tally slots (pairs_in w (all_listed hs)) (pairs_in w new)
  runs_taken accs tally slots hs old new t waits absent r = record {
    keeps = keeps_taken accs tally slots hs old new [] t (subst (Keeps v w me bodies accs tally slots) (sym (append-nil (pairs_in w old))) r.keeps);
    asks = r.asks;
    clear = r.clear;
    waits = waits;
    absent = unanswered_in w slots new absent;
  }

  -- an advance goes on with the bodies of the woken cells
  pub resumes : (accs : List A) (tally : TallyValue) (slots : List Slot) (keys : List ℕ) (hs : List Held) (old new : List Listed) → AreWoken keys slots old → All (λ h. Contains keys h.key) hs → Takes hs old new
      → ((key : ℕ) → Contains keys key → All (λ p. p.key ≡ key → ⊥) new) → start.pairs ≡ old → All (Waits v w me bodies start.slots) (pairs_in w old) → Runs v w me start bodies accs tally slots (pairs_in w old) []
      → Runs v w me start bodies accs tally slots (pairs_in w (all_listed hs)) (pairs_in w new) × All (λ p. IsAwake start.slots start.pairs p.key) (all_listed hs) × All (Waits v w me bodies start.slots) (pairs_in w (all_listed hs))
  resumes accs tally slots keys hs old new woken from t none were waited r =
      let x : Extends start.slots slots = record { more = r.asks.more; new_is = r.asks.slots_are; unanswered = r.asks.unanswered } in
      let W = Waits v w me bodies start.slots in
      let both = taken_hold (λ (l : Listed). W (pair_in w l)) hs old new t (waits_back w W old waited) in
      let still = All-weaker W (Waits v w me bodies slots) (λ q k. record { opened = k.opened; away = k.away; asked = keys_extend start.slots slots q.rec.key x k.asked }) (pairs_in w new) (waits_in w W new both.1) in
      let some : All (λ (k : ℕ). IsSome (stored_at start.slots k)) keys = All-weaker (λ (k : ℕ). IsSome (stored_at slots k)) (λ (k : ℕ). IsSome (stored_at start.slots k)) (λ k h. subst (λ (o : Option Answer). IsSome o) (stored_extends start.slots slots k x) h) keys woken.answered in (
        runs_taken accs tally slots hs old new t still (left_absent keys slots hs old new woken t none) r,
        subst (λ (ps : List Listed). All (λ (p : Listed). IsAwake start.slots ps p.key) (all_listed hs)) (sym were) (taken_awake start.slots old hs new t (held_keys (λ (k : ℕ). IsSome (stored_at start.slots k)) keys some hs from)),
        waits_in w W (all_listed hs) both.0,
      )
