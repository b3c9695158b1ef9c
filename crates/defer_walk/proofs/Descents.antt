-- Bodies that go down from a cell in an advance.
use Rattle.std.proofs.Common.{ℕ, zero, suc, ◌≡◌, ◌+◌, ◌-◌, ◌*◌, ◌<◌, ◌≤◌, Bool, true, false, List, [], ◌∷◌, ◌++◌, length, flat_map, take, drop, get_or, sym, refl, ap, ◌∙◌, subst, inl, inr, arith, Option, Some, None, append_assoc}
use Rattle.std.specs.Prelude.{option_to_list, All, Contains, ◌⊎◌, IfSome, IsSome, slice_get}
use Rattle.std.proofs.Math.Nat.{suc-mul}
use Rattle.std.proofs.lemmas.List.{append-nil, map-append, take_more, take_all, length-drop}
use Rattle.std.proofs.lemmas.List.Concat.{flat_map-append}
use Rattle.std.proofs.lemmas.List.Elements.{All-append, All-nil, All-head, All-tail, All-weaker, Contains-append_cases}
use Rattle.hot_units.specs.Values.{BodyValue, CellValue}
use Rattle.hot_units.specs.Keys.{IsCell, height, child, digits, parent}
use Rattle.hot_units.proofs.Members.{has_map, nil_has}
use Rattle.hot_model.specs.Trees.{cell_record}
use Rattle.hot_model.proofs.Parts.{digits-at}
use Rattle.hot_model.proofs.Fronts.{child_covers, covers-self, child_cell, height_child}
use Rattle.hot_model.proofs.Walks.{some_length}
use Rattle.hot_model.proofs.Heights.{height_is, height_level, has_children}
use Rattle.rank_model.specs.World.{World, IsGood, piece, bodies_in, record_in}
use Rattle.rank_model.specs.Branches.{IsBranch}
use Rattle.rank_model.specs.Needs.{part_of, is_away, Needs}
use Rattle.rank_model.specs.Answers.{child_records, true_answer}
use Rattle.rank_model.specs.Pairs.{PairValue, IsPair, pair_with, still_asked, MaySwap}
use Rattle.rank_model.specs.declared.part.Part.TheVariants.{Away, Inner, Spread, Leaf}
use Rattle.rank_model.proofs.Owners.{one_owner, covered_own, top_is_high}
use Rattle.rank_model.proofs.Aways.{away-is, leaf-is, spread-is, inner-is, away_own, own_away}
use Rattle.rank_model.proofs.Asks.{top_not_away}
use Rattle.rank_model.proofs.Demands.{needs-are-asks}
use Rattle.rank_model.proofs.Records.{record_some}
use Rattle.rank_model.proofs.Steps.{outer_own}
use Rattle.defer_walk.specs.declared.asks.Slot.{Slot}
use Rattle.defer_walk.specs.declared.listed.Listed.{Listed}
use Rattle.defer_walk.specs.Asked.{asked_keys, stored_at, Grows, Extends}
use Rattle.defer_walk.specs.Settling.{IsOpened, IsChildOf, IsParted}
use Rattle.defer_walk.specs.Tallies.{TallyValue, IsSameTally, noted}
use Rattle.defer_walk.specs.Grouping.{group, by_children, AreOpened, opened_keys, listed_as}
use Rattle.defer_walk.specs.Standing.{VisitOf, asked_by, IsAsk, AreStored, Waits, IsAwake, IsNewAsk, pairs_in}
use Rattle.defer_walk.specs.Turning.{Beginning, ComesFrom, IsClear, Keeps, Runs, IsLeafGroup}
use Rattle.defer_walk.proofs.Slots.{has_key, stored_none, stored_more, stored_extends, keys_extend, grows_extends}
use Rattle.defer_walk.proofs.Settles.{pair_full, waiting_asks, inner_settles, spread_settles, get_some}
use Rattle.defer_walk.proofs.Keeping.{All-one, get_has, end_rests, keeps_asked, keeps_blocks, keeps_tally}
use Rattle.defer_walk.proofs.Turnings.{All-has, away_test, child_branch}
use Rattle.defer_walk.proofs.Blocks.{to_last, first_pair, first_body, parted}

-- a fact of a cell's pair is one of any body's
pub any_body : (w : World) (i j : ℕ) (whole : Bool) (rec : CellValue) → IsPair w (pair_with i whole rec) → IsPair w (pair_with j whole rec)
any_body w i j whole rec is = record { cell = is.cell; rec = is.rec; leaf = is.leaf }

-- the number of opened pairs after notes
pub noted_opened : (keys : List ℕ) (t : TallyValue) (n : ℕ) → (noted keys t n).opened ≡ t.opened + n * length keys
noted_opened keys t zero = omega arith
noted_opened keys t (suc n) = omega (arith, noted_opened keys t n, suc-mul n (length keys))

-- the bodies that wait, with the record that their cell has in the world
pub pairs_held : (w : World) (whole : Bool) (rec : CellValue) (key : ℕ) → record_in w rec.key ≡ Some rec → key ≡ rec.key → (bs : List ℕ) → pairs_in w (listed_as key whole bs) ≡ group whole rec bs
pairs_held w whole rec key r e [] = refl
pairs_held w whole rec key r e (b ∷ bs) =
    let same : cell_record w.bodies key ≡ rec = ap (λ (c : ℕ). cell_record w.bodies c) e ∙ sym (record_some w rec.key rec r).1 in
    ap (λ (c : CellValue). pair_with b whole c ∷ pairs_in w (listed_as key whole bs)) same ∙ ap (λ (ps : List PairValue). pair_with b whole rec ∷ ps) (pairs_held w whole rec key r e bs)

-- a child of a cell of another rank is of that rank too
pub away_below : (w : World) (me c k : ℕ) → IsCell c → IsChildOf c k → 0 < length (bodies_in w k) → is_away w me c ≡ true → is_away w me k ≡ true
away_below w me c k i b t a =
    let low : suc i.0 ≤ 21 = (let z = height_is c i.0 i.1 i.2 in omega (arith, z, b.0, i.1)) in
    let d = b.1.0 in
    let o = away_own w me c a in
    let full : 0 < length (bodies_in w (child c d)) = subst (λ (x : ℕ). 0 < length (bodies_in w x)) b.1.2 t in
    let lower = covered_own w _ c (child c d) i (child_cell c d i.0 low i.2 b.1.1) (child_covers c d i.0 low i.2 b.1.1) o.0 in
    subst (λ (x : ℕ). is_away w me x ≡ true) (sym b.1.2) (own_away w me _ (child c d) full lower o.1)

-- a parted cell is high, and not of another rank
pub parted_here : (w : World) (me c : ℕ) → IsCell c → IsParted w me c → (0 < height c) × (is_away w me c ≡ false)
parted_here w me c i h = elim h.1 [
  | inl e ↦
      let f = (inner-is w me c).0 e in
      let s = has_children w.leaf w.bodies c i f.0 in
      ((let z = s.high in omega (arith, z)), f.1)
  | inr e ↦
      let f = (spread-is w me c i).0 e in
      let below = top_is_high w c i.0 i.1 i.2 f.0 in
      ((let z = height_is c i.0 i.1 i.2 in omega (arith, z, below)), top_not_away w me c f.0)
]

module _ {A : Type 0} (v : VisitOf A) (w : World) (me : ℕ) (start : Beginning) (bodies : List BodyValue) (swap : (b : BodyValue) → MaySwap (v.adds b)) where
  -- other work, that is kept
  pub runs_with : (accs accs' : List A) (tally tally' : TallyValue) (slots : List Slot) (rest rest' waiting : List PairValue) → Keeps v w me bodies accs' tally' slots (waiting ++ rest') → Runs v w me start bodies accs tally slots rest waiting → Runs v w me start bodies accs' tally' slots rest' waiting
  runs_with accs accs' tally tally' slots rest rest' waiting k r = record { keeps = k; asks = r.asks; clear = r.clear; waits = r.waits; absent = r.absent }

  -- work below a cell at hand comes from where it should
  pub comes_below : (t whole flag : Bool) (rec r : CellValue) (d : ℕ) → IsCell rec.key → 0 < length (bodies_in w rec.key) → IsParted w me rec.key → d < 8 → record_in w (child rec.key d) ≡ Some r → ComesFrom t w me start (pair_with 0 whole rec) → ComesFrom t w me start (pair_with 0 flag r)
  comes_below false whole flag rec r d i full h low e c = λ a.
      let f = record_some w (child rec.key d) r e in
      let k : r.key ≡ child rec.key d = ap (λ (x : CellValue). x.key) f.1 in
      let p = parted_here w me rec.key i h in
      let some : 0 < length (bodies_in w r.key) = subst (λ (x : ℕ). 0 < length (bodies_in w x)) (sym k) (some_length (bodies_in w (child rec.key d)) f.0) in
      child_branch w me rec.key r.key i full some (p.0, (d, low, k)) p.1 a
  comes_below true whole flag rec r d i full h low e c = absurd (let e : true ≡ false = sym c.1 ∙ (parted_here w me rec.key i h).1 in cc)

  module _ (accs : List A) (tally : TallyValue) (slots : List Slot) (keep waiting : List PairValue) (whole : Bool) (rec : CellValue) (bs : List ℕ) (r : Runs v w me start bodies accs tally slots (keep ++ group whole rec bs) waiting) where
    -- what waits and what is kept stand before the group
    pub group_keeps : Keeps v w me bodies accs tally slots ((waiting ++ keep) ++ group whole rec bs)
    group_keeps = subst (Keeps v w me bodies accs tally slots) (sym (append_assoc waiting keep (group whole rec bs))) r.keeps

    -- the cell of a group with bodies is one of the world
    pub group_pair : 0 < length bs → IsPair w (pair_with 0 whole rec)
    group_pair some = by_first bs some group_keeps
      where
        by_first : (xs : List ℕ) → 0 < length xs → Keeps v w me bodies accs tally slots ((waiting ++ keep) ++ group whole rec xs) → IsPair w (pair_with 0 whole rec)
        by_first [] some k = absurd (omega arith)
        by_first (j ∷ xs) some k = any_body w j 0 whole rec (first_pair v w me bodies swap accs tally slots (waiting ++ keep) (group whole rec xs) (pair_with j whole rec) k)

    -- some of the bodies go on
    pub runs_sifted : (accs' : List A) (bs' : List ℕ) → (Keeps v w me bodies accs tally slots ((waiting ++ keep) ++ group whole rec bs) → Keeps v w me bodies accs' tally slots ((waiting ++ keep) ++ group whole rec bs')) → Runs v w me start bodies accs' tally slots (keep ++ group whole rec bs') waiting
    runs_sifted accs' bs' f = runs_with accs accs' tally tally slots (keep ++ group whole rec bs) (keep ++ group whole rec bs') waiting (subst (Keeps v w me bodies accs' tally slots) (append_assoc waiting keep (group whole rec bs')) (f group_keeps)) r

    -- bodies get those of a leaf that is at hand
    pub group_leaf : (others : List BodyValue) → IsGood w → 0 < length bs → AreOpened v.opens bodies whole rec bs → part_of w me rec.key ≡ Leaf → others ≡ bodies_in w rec.key → IsLeafGroup v w me bodies accs tally slots (waiting ++ keep) whole rec bs others
    group_leaf others good some opened part are =
        let is = group_pair some in
        let full = pair_full w (pair_with 0 whole rec) is in
        let l = (leaf-is w me rec.key full.0).0 part in
        let none = outer_own w me (height rec.key) rec.key (omega arith) (height_level rec.key is.cell) (record_some w rec.key rec is.rec).0 l.0 in
        record {
          good = good;
          keeps = group_keeps;
          leaf = l.1;
          others_are = are;
          opened = opened;
          asked = λ k h. absurd (nil_has k (subst (λ (ks : List ℕ). Contains ks k) none h));
        }

    -- and the work is done
    pub runs_leaf : (accs' : List A) (tally' : TallyValue) → IsSameTally (noted (opened_keys whole rec.key) tally (length bs)) tally' → Keeps v w me bodies accs' (noted (opened_keys whole rec.key) tally (length bs)) slots (waiting ++ keep) → Runs v w me start bodies accs' tally' slots keep waiting
    runs_leaf accs' tally' same k = runs_with accs accs' tally tally' slots (keep ++ group whole rec bs) keep waiting (keeps_tally v w me bodies swap accs' (noted (opened_keys whole rec.key) tally (length bs)) tally' slots (waiting ++ keep) same k) r

    -- bodies go on with the children of a cell at hand
    pub group_inner : 0 < length bs → AreOpened v.opens bodies whole rec bs → part_of w me rec.key ≡ Inner → Keeps v w me bodies accs (noted (opened_keys whole rec.key) tally (length bs)) slots ((waiting ++ keep) ++ by_children false bs (child_records w rec.key))
    group_inner some opened part =
        let i = (inner-is w me rec.key).0 part in
        parted v w me bodies swap accs tally slots whole false rec [] (λ j b a is o. inner_settles (v.adds b) (v.opens b) w me (pair_with j whole rec) a is [] o i.0 (rw (i.1) refl)) (λ k h. absurd (nil_has k h)) bs (waiting ++ keep) opened group_keeps

    -- bodies go on with the children of a cell of several ranks, which are added whole
    pub group_spread : IsGood w → 0 < length bs → AreOpened v.opens bodies whole rec bs → part_of w me rec.key ≡ Spread → Keeps v w me bodies accs (noted (opened_keys whole rec.key) tally (length bs)) slots ((waiting ++ keep) ++ by_children true bs (child_records w rec.key))
    group_spread good some opened part =
        parted v w me bodies swap accs tally slots whole true rec [] (λ j b a is o. spread_settles (v.adds b) (v.opens b) w me (pair_with j whole rec) a is good o part) (λ k h. absurd (nil_has k h)) bs (waiting ++ keep) opened group_keeps

    -- and the walk goes on with these
    pub runs_parted : (flag : Bool) (tally' : TallyValue) → IsSameTally (noted (opened_keys whole rec.key) tally (length bs)) tally' → Keeps v w me bodies accs (noted (opened_keys whole rec.key) tally (length bs)) slots ((waiting ++ keep) ++ by_children flag bs (child_records w rec.key))
        → Runs v w me start bodies accs tally' slots (keep ++ by_children flag bs (child_records w rec.key)) waiting
    runs_parted flag tally' same k = runs_with accs accs tally tally' slots (keep ++ group whole rec bs) (keep ++ by_children flag bs (child_records w rec.key)) waiting
        (subst (Keeps v w me bodies accs tally' slots) (append_assoc waiting keep (by_children flag bs (child_records w rec.key))) (keeps_tally v w me bodies swap accs (noted (opened_keys whole rec.key) tally (length bs)) tally' slots ((waiting ++ keep) ++ by_children flag bs (child_records w rec.key)) same k)) r

    -- what was stored at the start is stored still
    stored_since : (k : ℕ) → stored_at slots k ≡ stored_at start.slots k
    stored_since k = ap (λ (ss : List Slot). stored_at ss k) r.asks.slots_are ∙ stored_more start.slots r.asks.more k r.asks.unanswered

    -- bodies wait for a cell
    module _ (comes : ComesFrom start.advanced w me start (pair_with 0 whole rec)) (some : 0 < length bs) (own : bodies ≡ piece w me) (owner : ℕ) (new : List Slot) (g : Grows owner rec.key slots new) (away : part_of w me rec.key ≡ Away owner) (opened : AreOpened v.opens bodies whole rec bs) where
      x : Extends slots new
      x = grows_extends owner rec.key slots new g

      is : IsPair w (pair_with 0 whole rec)
      is = group_pair some

      full : 0 < length (bodies_in w rec.key)
      full = (pair_full w (pair_with 0 whole rec) is).0

      away_is : is_away w me rec.key ≡ true
      away_is = away_test w me owner rec.key is.cell full away

      -- some body asks for the cell
      wanted : (b : BodyValue) × Contains bodies b × Contains (asked_by v w me b) rec.key
      wanted = by_first bs some opened group_keeps
        where
          by_first : (xs : List ℕ) → 0 < length xs → AreOpened v.opens bodies whole rec xs → Keeps v w me bodies accs tally slots ((waiting ++ keep) ++ group whole rec xs) → (b : BodyValue) × Contains bodies b × Contains (asked_by v w me b) rec.key
          by_first [] some o k = absurd (omega arith)
          by_first (j ∷ xs) some o k =
              let p : PairValue = pair_with j whole rec in
              let one = first_pair v w me bodies swap accs tally slots (waiting ++ keep) (group whole rec xs) p k in
              let b = get_some bodies j (first_body v w me bodies swap accs tally slots (waiting ++ keep) (group whole rec xs) p k) in
              let opens : IsOpened (v.opens b.0) p = All-head (λ (q : ℕ). (b : BodyValue) → slice_get bodies q ≡ Some b → IsOpened (v.opens b) (pair_with q whole rec)) j xs o b.0 b.1 in
              let last = to_last v w me bodies swap accs tally slots (waiting ++ keep) (group whole rec xs) p k in (
                b.0,
                get_has bodies j b.0 b.1,
                end_rests (λ b. still_asked (v.opens b) w me) (asked_by v w me) bodies (asked_keys slots) ((waiting ++ keep) ++ group whole rec xs) p b.0 rec.key b.1 last.count.asks (waiting_asks (v.adds b.0) (v.opens b.0) w me p v.nothing one opens away_is),
              )

      -- the cell was not answered
      absent_by : (t : Bool) → ComesFrom t w me start (pair_with 0 whole rec) → IsClear t start.slots start.pairs → stored_at start.slots rec.key ≡ None
      absent_by false c e = ap (λ (ss : List Slot). stored_at ss rec.key) e
      absent_by true c e = stored_none start.slots rec.key (λ h.
          let k = has_key start.slots rec.key h in
          let l = has_map (λ (x : Listed). x.key) start.pairs (parent rec.key) c.0.0 in
          let none = All-has (λ (x : Listed). parent k.1.key ≡ x.key → ⊥) start.pairs l.0 (All-has (λ (s : Slot). All (λ (x : Listed). parent s.key ≡ x.key → ⊥) start.pairs) start.slots k.1 e (get_has start.slots k.0 k.1 k.2)) l.1 in
          none (ap parent k.3 ∙ l.2))

      -- what becomes asked
      new_ask_by : (t : Bool) → ComesFrom t w me start (pair_with 0 whole rec) → (s : Slot) → s.owner ≡ owner → s.key ≡ rec.key → IsNewAsk t w start.slots start.pairs s
      new_ask_by false c s f h =
          let b = c away_is in
          let o = ((away-is w me owner rec.key is.cell full).0 away).0 in
          let same : b.0 ≡ owner = one_owner w b.0 owner rec.key is.cell full (rec.key, b.1, covers-self rec.key is.cell.0 is.cell.1 is.cell.2) o in
          subst (λ (k : ℕ). IsBranch w s.owner k) (sym h) (subst (λ (q : ℕ). IsBranch w q rec.key) (same ∙ sym f) b.1)
      new_ask_by true c s f h = subst (λ (k : ℕ). IsAwake start.slots start.pairs (parent k)) (sym h) c.0

      chained_by : (t : Bool) (s : Slot) → IsNewAsk t w start.slots start.pairs s → IsBranch w s.owner s.key ⊎ IsSome (stored_at new (parent s.key))
      chained_by false s h = inl h
      chained_by true s h = inr (subst IsSome (sym (stored_extends slots new (parent s.key) x ∙ stored_since (parent s.key))) h.1)

      new_ask : (s : Slot) → (s.owner ≡ owner) × (s.key ≡ rec.key) × (s.answer ≡ None) → IsNewAsk start.advanced w start.slots start.pairs s
      new_ask s h = new_ask_by start.advanced comes s h.0 h.1

      one_stored : (s : Slot) → (s.owner ≡ owner) × (s.key ≡ rec.key) × (s.answer ≡ None) → IsAsk v w me new s
      one_stored s h = record {
        cell = subst IsCell (sym h.1) is.cell;
        some = subst (λ (k : ℕ). 0 < length (bodies_in w k)) (sym h.1) full;
        away = subst (λ (k : ℕ). part_of w me k ≡ Away s.owner) (sym h.1) (away ∙ ap Away (sym h.0));
        needed = subst (Needs v.opens w me) (sym h.1) ((needs-are-asks v.opens w me rec.key).1 (wanted.0, subst (λ (xs : List BodyValue). Contains xs wanted.0) own wanted.1, wanted.2));
        chained = chained_by start.advanced s (new_ask s h);
      }

      -- what is stored stays true with a cell asked for
      pub group_stored : AreStored v w me new
      group_stored = record {
        truth = subst (All (λ (s : Slot). IfSome s.answer (λ a. a ≡ true_answer w s.key))) (sym g.new_is)
            (All-append (λ (s : Slot). IfSome s.answer (λ a. a ≡ true_answer w s.key)) slots g.more r.keeps.store.truth
            (All-weaker (λ (s : Slot). (s.owner ≡ owner) × (s.key ≡ rec.key) × (s.answer ≡ None)) (λ (s : Slot). IfSome s.answer (λ a. a ≡ true_answer w s.key)) (λ s h. subst (λ o'. IfSome o' (λ a. a ≡ true_answer w s.key)) (sym h.2) tt) g.more g.each));
        asks = subst (All (IsAsk v w me new)) (sym g.new_is)
            (All-append (IsAsk v w me new) slots g.more
            (All-weaker (IsAsk v w me slots) (IsAsk v w me new) (λ s h. record { cell = h.cell; some = h.some; away = h.away; needed = h.needed; chained = elim h.chained [ inl f ↦ inl f | inr f ↦ inr (subst IsSome (sym (stored_extends slots new (parent s.key) x)) f) ] }) slots r.keeps.store.asks)
            (All-weaker (λ (s : Slot). (s.owner ≡ owner) × (s.key ≡ rec.key) × (s.answer ≡ None)) (IsAsk v w me new) one_stored g.more g.each));
      }

      -- each of them waits
      each_waits : Contains (asked_keys new) rec.key → (xs : List ℕ) → AreOpened v.opens bodies whole rec xs → All (Waits v w me bodies new) (group whole rec xs)
      each_waits there [] o = All-nil (Waits v w me bodies new)
      each_waits there (j ∷ xs) o =
          let P = λ (q : ℕ). (b : BodyValue) → slice_get bodies q ≡ Some b → IsOpened (v.opens b) (pair_with q whole rec) in
          All-append (Waits v w me bodies new) (pair_with j whole rec ∷ []) (group whole rec xs) (All-one (Waits v w me bodies new) (pair_with j whole rec) (record { opened = All-head P j xs o; away = (owner, away); asked = there })) (each_waits there xs (All-tail P j xs o))

      each_absent : (xs : List ℕ) → All (λ (q : PairValue). stored_at new q.rec.key ≡ None) (group whole rec xs)
      each_absent [] = All-nil (λ (q : PairValue). stored_at new q.rec.key ≡ None)
      each_absent (j ∷ xs) = All-append (λ (q : PairValue). stored_at new q.rec.key ≡ None) (pair_with j whole rec ∷ []) (group whole rec xs)
          (All-one (λ (q : PairValue). stored_at new q.rec.key ≡ None) (pair_with j whole rec) (stored_extends slots new rec.key x ∙ stored_since rec.key ∙ absent_by start.advanced comes r.clear)) (each_absent xs)

      -- and the bodies wait for it
      pub runs_held : Contains (asked_keys new) rec.key → Runs v w me start bodies accs tally new keep (waiting ++ group whole rec bs)
      runs_held there =
          let p = group whole rec bs in
          let moved = keeps_blocks v w me bodies swap accs tally new waiting keep p []
          (subst (λ (ps : List PairValue). Keeps v w me bodies accs tally new (waiting ++ (keep ++ ps))) (sym (append-nil p))
          (keeps_asked v w me bodies swap accs tally slots new (waiting ++ (keep ++ p)) group_stored (λ k h. keys_extend slots new k x h) down r.keeps)) in
          record {
            keeps = subst (Keeps v w me bodies accs tally new) (ap (λ (ps : List PairValue). waiting ++ (p ++ ps)) (append-nil keep) ∙ sym (append_assoc waiting p keep)) moved;
            asks = record {
              more = r.asks.more ++ g.more;
              slots_are = g.new_is ∙ ap (λ (ss : List Slot). ss ++ g.more) r.asks.slots_are ∙ append_assoc start.slots r.asks.more g.more;
              unanswered = All-append (λ (s : Slot). s.answer ≡ None) r.asks.more g.more r.asks.unanswered (All-weaker (λ (s : Slot). (s.owner ≡ owner) × (s.key ≡ rec.key) × (s.answer ≡ None)) (λ (s : Slot). s.answer ≡ None) (λ s h. h.2) g.more g.each);
              each = All-append (IsNewAsk start.advanced w start.slots start.pairs) r.asks.more g.more r.asks.each
                  (All-weaker (λ (s : Slot). (s.owner ≡ owner) × (s.key ≡ rec.key) × (s.answer ≡ None)) (IsNewAsk start.advanced w start.slots start.pairs) new_ask g.more g.each);
            };
            clear = r.clear;
            waits = All-append (Waits v w me bodies new) waiting p
                (All-weaker (Waits v w me bodies slots) (Waits v w me bodies new) (λ q h. record { opened = h.opened; away = h.away; asked = keys_extend slots new q.rec.key x h.asked }) waiting r.waits)
                (each_waits there bs opened);
            absent = All-append (λ (q : PairValue). stored_at new q.rec.key ≡ None) waiting p
                (All-weaker (λ (q : PairValue). stored_at slots q.rec.key ≡ None) (λ (q : PairValue). stored_at new q.rec.key ≡ None) (λ q h. stored_extends slots new q.rec.key x ∙ h) waiting r.absent)
                (each_absent bs);
          }
        where
          down : (k : ℕ) → Contains (asked_keys new) k → Contains (asked_keys slots) k ⊎ ((b : BodyValue) × Contains bodies b × Contains (asked_by v w me b) k)
          down k h =
              elim (Contains-append_cases (asked_keys slots) (asked_keys g.more) k (subst (λ (ks : List ℕ). Contains ks k) (ap asked_keys g.new_is ∙ map-append (λ (s : Slot). s.key) slots g.more) h)) [
                | inl f ↦ inl f
                | inr f ↦
                    let m = has_map (λ (s : Slot). s.key) g.more k f in
                    let e = All-has (λ (s : Slot). (s.owner ≡ owner) × (s.key ≡ rec.key) × (s.answer ≡ None)) g.more m.0 g.each m.1 in
                    inr (wanted.0, wanted.1, subst (Contains (asked_by v w me wanted.0)) (sym (m.2 ∙ e.1)) wanted.2)
              ]

-- the first children
abbrev pub records_to : World → ℕ → ℕ → List CellValue
records_to w c i = flat_map (λ d. option_to_list (record_in w (child c d))) (take i digits)

-- one more child, or none
pub records_more : (w : World) (c i : ℕ) → i < 8 → records_to w c (i + 1) ≡ records_to w c i ++ option_to_list (record_in w (child c i))
records_more w c i h =
    let part : ℕ → List CellValue = λ d. option_to_list (record_in w (child c d)) in
    let t : take (i + 1) digits ≡ take i digits ++ (get_or digits i 0 ∷ []) = take_more digits i 0 h in
    let u : take (i + 1) digits ≡ take i digits ++ (i ∷ []) = t ∙ ap (λ (n : ℕ). take i digits ++ (n ∷ [])) (digits-at i h) in
    ap (flat_map part) u ∙ (flat_map-append part (take i digits) (i ∷ []) ∙ ap (λ (rs : List CellValue). flat_map part (take i digits) ++ rs) (append-nil (part i)))

-- the last child that is left, at `8 - back`
pub children_last : (w : World) (c back : ℕ) (flag : Bool) (bs : List ℕ) (keep : List PairValue) (r : CellValue) → back < 8 → record_in w (child c (7 - back)) ≡ Some r
    → keep ++ by_children flag bs (records_to w c (8 - back)) ≡ (keep ++ by_children flag bs (records_to w c (8 - (back + 1)))) ++ group flag r bs
children_last w c back flag bs keep r h e =
    let i = 7 - back in
    let up : 8 - back ≡ i + 1 = omega (arith, h) in
    let down : i ≡ 8 - (back + 1) = omega (arith, h) in
    let more = records_more w c i (omega (arith, h)) ∙ ap (λ (o : Option CellValue). records_to w c i ++ option_to_list o) e in
    let split = flat_map-append (λ (x : CellValue). group flag x bs) (records_to w c i) (r ∷ []) ∙ ap (λ (ps : List PairValue). by_children flag bs (records_to w c i) ++ ps) (append-nil (group flag r bs)) in
    ap (λ (n : ℕ). keep ++ by_children flag bs (records_to w c n)) up ∙ ap (λ (rs : List CellValue). keep ++ by_children flag bs rs) more ∙ ap (λ (ps : List PairValue). keep ++ ps) split
    ∙ sym (append_assoc keep (by_children flag bs (records_to w c i)) (group flag r bs)) ∙ ap (λ (n : ℕ). (keep ++ by_children flag bs (records_to w c n)) ++ group flag r bs) down

-- a child without bodies adds no record
pub children_none : (w : World) (c back : ℕ) → back < 8 → record_in w (child c (7 - back)) ≡ None → records_to w c (8 - back) ≡ records_to w c (8 - (back + 1))
children_none w c back h e =
    let i = 7 - back in
    let up : 8 - back ≡ i + 1 = omega (arith, h) in
    let down : i ≡ 8 - (back + 1) = omega (arith, h) in
    ap (records_to w c) up ∙ records_more w c i (omega (arith, h)) ∙ ap (λ (o : Option CellValue). records_to w c i ++ option_to_list o) e ∙ append-nil (records_to w c i) ∙ ap (records_to w c) down

-- no child is left
pub children_done : (w : World) (c back : ℕ) (flag : Bool) (bs : List ℕ) (keep : List PairValue) → 8 ≤ back → keep ++ by_children flag bs (records_to w c (8 - back)) ≡ keep
children_done w c back flag bs keep h =
    let z : 8 - back ≡ 0 = omega (arith, h) in
    ap (λ (n : ℕ). keep ++ by_children flag bs (records_to w c n)) z ∙ append-nil keep

-- the front of a joined list
pub take_front : {A : Type 0} (xs ys zs : List A) (n : ℕ) → n ≡ length xs → zs ≡ xs ++ ys → take n zs ≡ xs
take_front {A = A} xs ys zs n e f = ap (take n) f ∙ subst (λ (m : ℕ). take m (xs ++ ys) ≡ xs) (sym e) (by_front xs)
  where
    by_front : (xs : List A) → take (length xs) (xs ++ ys) ≡ xs
    by_front [] = refl
    by_front (x ∷ xs) = ap (λ (zs : List A). x ∷ zs) (by_front xs)

-- a child is lower
pub child_lower : (w : World) (c d : ℕ) (r : CellValue) → IsCell c → 0 < height c → d < 8 → record_in w (child c d) ≡ Some r → height r.key < height c
child_lower w c d r i high h e =
    let low : suc i.0 ≤ 21 = (let z = height_is c i.0 i.1 i.2 in omega (arith, z, high, i.1)) in
    let k : r.key ≡ child c d = ap (λ (x : CellValue). x.key) (record_some w (child c d) r e).1 in
    omega (arith, ap height k, height_child c d i.0 low i.2 h)

-- a slice from a place to the end
pub slice_back : (xs : List ℕ) (n : ℕ) → take (length xs - n) (drop n xs) ≡ drop n xs
slice_back xs n = take_all (length xs - n) (drop n xs) (omega (arith, length-drop n xs))

-- the same state under other names
pub runs_same : {A : Type 0} (v : VisitOf A) (w : World) (me : ℕ) (start : Beginning) (bodies : List BodyValue) (accs accs' : List A) (tally tally' : TallyValue) (slots slots' : List Slot) (rest rest' waiting waiting' : List PairValue) → accs' ≡ accs → tally' ≡ tally → slots' ≡ slots → rest' ≡ rest → waiting' ≡ waiting
    → Runs v w me start bodies accs tally slots rest waiting → Runs v w me start bodies accs' tally' slots' rest' waiting'
runs_same v w me start bodies accs accs' tally tally' slots slots' rest rest' waiting waiting' a b c d e r = rw (a, b, c, d, e) r

-- bodies are left behind a place before the end
pub some_left : (xs : List ℕ) (n m l : ℕ) → n ≤ length xs → (n ≡ m → ⊥) → m ≡ l → l ≡ length xs → 0 < length (drop n xs)
some_left xs n m l within other e f = omega (arith, length-drop n xs, within, other, e, f)

-- children are counted from the last
pub from_last : (back : ℕ) → 7 - back < 8
from_last back = omega arith

-- and none behind the end
pub at_end : (xs : List ℕ) (n m l : ℕ) → n ≡ m → m ≡ l → l ≡ length xs → length xs ≤ n
at_end xs n m l e f g = omega (arith, e, f, g)
