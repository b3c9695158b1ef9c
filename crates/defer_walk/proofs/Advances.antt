-- How an advance takes up the bodies that wait.
use Rattle.std.proofs.Common.{ℕ, zero, suc, ◌≡◌, ◌<◌, ◌≤◌, Bool, true, false, List, [], ◌∷◌, ◌++◌, length, eqb, sym, refl, ap, ◌∙◌, subst, inl, arith, Option, Some, None, append_assoc}
use Rattle.std.specs.Prelude.{All, Contains, IsSome, slice_get, if◌then◌else◌}
use Rattle.std.proofs.lemmas.Bool.{eqb-true, eq-eqb}
use Rattle.std.proofs.lemmas.List.{append-nil, map-append}
use Rattle.std.proofs.lemmas.List.Concat.{flat_map-append}
use Rattle.std.proofs.lemmas.List.Elements.{All-nil, All-head, All-tail, All-cons}
use Rattle.hot_units.specs.Values.{BodyValue, CellValue}
use Rattle.hot_units.specs.Keys.{height, child, parent}
use Rattle.hot_units.proofs.Members.{all_members, head_has, tail_has, map_has}
use Rattle.hot_model.specs.Trees.{is_empty, cell_record}
use Rattle.hot_model.specs.declared.answer.Answer.{Answer}
use Rattle.hot_model.specs.declared.answer.Answer.TheVariants.{Bodies, Children}
use Rattle.hot_model.proofs.Parts.{inside-root}
use Rattle.hot_model.proofs.Fronts.{root_is_cell, parent_of_child}
use Rattle.hot_model.proofs.Walks.{some_length, full_length}
use Rattle.hot_model.proofs.Heights.{has_children}
use Rattle.rank_model.specs.World.{World, IsGood, piece, bodies_in, record_in}
use Rattle.rank_model.specs.Branches.{IsBranch}
use Rattle.rank_model.specs.Needs.{is_away}
use Rattle.rank_model.specs.Answers.{child_records, true_answer}
use Rattle.rank_model.specs.Pairs.{PairValue, pair_with, MaySwap}
use Rattle.rank_model.proofs.Aways.{away_own}
use Rattle.rank_model.proofs.Records.{child_record_is, record_some}
use Rattle.rank_model.proofs.Levels.{outer_of_away}
use Rattle.defer_walk.specs.declared.asks.Slot.{Slot}
use Rattle.defer_walk.specs.declared.listed.Listed.{Listed}
use Rattle.defer_walk.specs.declared.held.Held.{Held}
use Rattle.defer_walk.specs.Asked.{asked_keys, stored_at, Extends}
use Rattle.defer_walk.specs.Settling.{IsOpened}
use Rattle.defer_walk.specs.Tallies.{TallyValue, IsSameTally, noted}
use Rattle.defer_walk.specs.Grouping.{group, by_children, AreOpened, opened_keys, listed_as, listed_of, all_listed, places_to}
use Rattle.defer_walk.specs.Standing.{VisitOf, IsAsk, Waits, IsAwake, pair_in, pairs_in, roots}
use Rattle.defer_walk.specs.Turning.{Beginning, ComesFrom, Keeps, Runs, IsLeafGroup}
use Rattle.defer_walk.proofs.Slots.{stored_true, stored_extends}
use Rattle.defer_walk.proofs.Noted.{one_has}
use Rattle.defer_walk.proofs.Settles.{bodies_answer, children_answer, inner_settles}
use Rattle.defer_walk.proofs.Keeping.{All-front, All-back, keeps_tally}
use Rattle.defer_walk.proofs.Turnings.{All-has, away_test, filter_short}
use Rattle.defer_walk.proofs.Blocks.{parted}
use Rattle.defer_walk.proofs.Descents.{group_keeps, runs_with, away_below}

-- a root that is all of one other rank is its branch
pub root_branch : (w : World) (me : ℕ) → 0 < length (bodies_in w 1) → is_away w me 1 ≡ true → (q : ℕ) × IsBranch w q 1
root_branch w me t a = let o = away_own w me 1 a in (_, record { cell = root_is_cell; some = t; own = o.0; outermost = inl refl })

-- a walk that begins at the root comes from where it should
pub root_comes : (w : World) (me : ℕ) (start : Beginning) (root : CellValue) (t whole : Bool) → t ≡ false → record_in w 1 ≡ Some root → ComesFrom t w me start (pair_with 0 whole root)
root_comes w me start root t whole e r = subst (λ (x : Bool). ComesFrom x w me start (pair_with 0 whole root)) (sym e) (λ a.
    let f = record_some w 1 root r in
    let k : root.key ≡ 1 = ap (λ (x : CellValue). x.key) f.1 in
    let b = root_branch w me (some_length (bodies_in w 1) f.0) (subst (λ (x : ℕ). is_away w me x ≡ true) k a) in
    (b.0, subst (IsBranch w b.0) (sym k) b.1))

-- all bodies with the root
pub roots_group : (w : World) (root : CellValue) → record_in w 1 ≡ Some root → (n : ℕ) → pairs_in w (roots n) ≡ group false root (places_to n)
roots_group w root r zero = refl
roots_group w root r (suc n) =
    let same : cell_record w.bodies 1 ≡ root = sym (record_some w 1 root r).1 in
    map-append (pair_in w) (roots n) ((record { body = n; whole = false; key = 1 }) ∷ [])
    ∙ ap (λ (ps : List PairValue). ps ++ pair_with n false (cell_record w.bodies 1) ∷ []) (roots_group w root r n)
    ∙ ap (λ (c : CellValue). group false root (places_to n) ++ pair_with n false c ∷ []) same
    ∙ sym (map-append (λ (b : ℕ). pair_with b false root) (places_to n) (n ∷ []))

-- the bodies of a chunk with the root, behind those that come later
pub chunk_group : (root : CellValue) (keep : ℕ) (to : ℕ) (chunk : List ℕ) → places_to keep ++ chunk ≡ places_to to → group false root (places_to to) ≡ group false root (places_to keep) ++ group false root chunk
chunk_group root keep to chunk e = ap (group false root) (sym e) ∙ map-append (λ (b : ℕ). pair_with b false root) (places_to keep) chunk

-- the last of the children that are left
pub children_snoc : (flag : Bool) (bs : List ℕ) (keep : List PairValue) (rs : List CellValue) (r : CellValue) → keep ++ by_children flag bs (rs ++ r ∷ []) ≡ (keep ++ by_children flag bs rs) ++ group flag r bs
children_snoc flag bs keep rs r =
    ap (λ (ps : List PairValue). keep ++ ps) (flat_map-append (λ (x : CellValue). group flag x bs) rs (r ∷ []) ∙ ap (λ (ps : List PairValue). by_children flag bs rs ++ ps) (append-nil (group flag r bs)))
    ∙ sym (append_assoc keep (by_children flag bs rs) (group flag r bs))

-- the bodies that wait for one cell more
pub held_snoc : (w : World) (hs : List Held) (h : Held) → pairs_in w (all_listed (hs ++ h ∷ [])) ≡ pairs_in w (all_listed hs) ++ pairs_in w (listed_of h)
held_snoc w hs h =
    ap (pairs_in w) (flat_map-append listed_of hs (h ∷ []) ∙ ap (λ (ls : List Listed). all_listed hs ++ ls) (append-nil (listed_of h)))
    ∙ map-append (pair_in w) (all_listed hs) (listed_of h)

-- the bodies that wait for a cell are at it
pub held_group : (w : World) (whole : Bool) (key : ℕ) (bs : List ℕ) → pairs_in w (listed_as key whole bs) ≡ group whole (cell_record w.bodies key) bs
held_group w whole key [] = refl
held_group w whole key (b ∷ bs) = ap (λ (ps : List PairValue). pair_with b whole (cell_record w.bodies key) ∷ ps) (held_group w whole key bs)

-- an answer is stored at a cell that was asked for
pub stored_key : (xs : List Slot) (k : ℕ) (a : Answer) → stored_at xs k ≡ Some a → (s : Slot) × Contains xs s × (s.key ≡ k)
stored_key [] k a e = absurd (cc)
stored_key (x ∷ xs) k a e = by_test (λ f. stored_key xs k a f) (eqb x.key k) refl e
  where
    by_test : (stored_at xs k ≡ Some a → (s : Slot) × Contains xs s × (s.key ≡ k)) → (t : Bool) → eqb x.key k ≡ t → (if t then x.answer else stored_at xs k) ≡ Some a → (s : Slot) × Contains (x ∷ xs) s × (s.key ≡ k)
    by_test more true f g = (x, head_has x xs, eqb-true x.key k f)
    by_test more false f g = let r = more g in (r.0, tail_has x xs r.0 r.1, r.2)

module _ {A : Type 0} (v : VisitOf A) (w : World) (me : ℕ) (start : Beginning) (bodies : List BodyValue) (swap : (b : BodyValue) → MaySwap (v.adds b)) where
  -- a body that waits is opened or to be added whole
  pub are_opened : (slots : List Slot) (key : ℕ) (whole : Bool) (bs : List ℕ) → All (Waits v w me bodies slots) (pairs_in w (listed_as key whole bs)) → AreOpened v.opens bodies whole (cell_record w.bodies key) bs
  are_opened slots key whole [] h = All-nil (λ (i : ℕ). (b : BodyValue) → slice_get bodies i ≡ Some b → IsOpened (v.opens b) (pair_with i whole (cell_record w.bodies key)))
  are_opened slots key whole (j ∷ bs) h =
      let p = pair_in w (record { body = j; whole = whole; key = key }) in
      let ps = pairs_in w (listed_as key whole bs) in
      All-cons (λ (i : ℕ). (b : BodyValue) → slice_get bodies i ≡ Some b → IsOpened (v.opens b) (pair_with i whole (cell_record w.bodies key))) j bs (All-head (Waits v w me bodies slots) p ps h).opened (are_opened slots key whole bs (All-tail (Waits v w me bodies slots) p ps h))

  module _ (accs : List A) (tally : TallyValue) (slots : List Slot) (keep waiting : List PairValue) (key : ℕ) (whole : Bool) (bs : List ℕ) (answer : Answer) (got : stored_at slots key ≡ Some answer) (waited : All (Waits v w me bodies start.slots) (pairs_in w (listed_as key whole bs)))
      (r : Runs v w me start bodies accs tally slots (keep ++ pairs_in w (listed_as key whole bs)) waiting) where
    abbrev rec : CellValue
    rec = cell_record w.bodies key

    -- bodies that waited are a group of their cell
    pub woken_runs : Runs v w me start bodies accs tally slots (keep ++ group whole (cell_record w.bodies key) bs) waiting
    woken_runs = subst (λ (ps : List PairValue). Runs v w me start bodies accs tally slots (keep ++ ps) waiting) (held_group w whole key bs) r

    asked : IsAsk v w me slots (record { owner = (stored_key slots key answer got).0.owner; key = key; answer = None })
    asked =
        let s = stored_key slots key answer got in
        let a = All-has (IsAsk v w me slots) slots s.0 r.keeps.store.asks s.1 in
        subst (λ (k : ℕ). IsAsk v w me slots (record { owner = s.0.owner; key = k; answer = None })) s.2 (record { cell = a.cell; some = a.some; away = a.away; needed = a.needed; chained = a.chained })

    away : is_away w me key ≡ true
    away = away_test w me (stored_key slots key answer got).0.owner key asked.cell asked.some asked.away

    there : Contains (asked_keys slots) key
    there = let s = stored_key slots key answer got in subst (λ (k : ℕ). Contains (asked_keys slots) k) s.2 (map_has (λ (x : Slot). x.key) slots s.0 s.1)

    true_here : answer ≡ true_answer w key
    true_here = stored_true w slots key answer r.keeps.store.truth got

    opened : AreOpened v.opens bodies whole rec bs
    opened = are_opened start.slots key whole bs waited

    -- the bodies of a leaf
    pub woken_leaf : IsGood w → (xs others : List BodyValue) → answer ≡ Bodies xs → others ≡ xs → IsLeafGroup v w me bodies accs tally slots (waiting ++ keep) whole (cell_record w.bodies key) bs others
    woken_leaf good xs others e f =
        let l = bodies_answer w key xs (sym e ∙ true_here) in
        record {
          good = good;
          keeps = group_keeps v w me start bodies swap accs tally slots keep waiting whole rec bs woken_runs;
          leaf = l.0;
          others_are = f ∙ l.1;
          opened = opened;
          asked = λ k h. subst (Contains (asked_keys slots)) (sym (one_has key k (subst (λ (ks : List ℕ). Contains ks k) (outer_of_away w me key (full_length (bodies_in w key) asked.some) away) h))) there;
        }

    -- bodies that got those of a leaf are done
    pub woken_done : (accs' : List A) (tally' : TallyValue) → IsSameTally (noted (opened_keys whole key) tally (length bs)) tally' → Keeps v w me bodies accs' (noted (opened_keys whole key) tally (length bs)) slots (waiting ++ keep) → Runs v w me start bodies accs' tally' slots (keep ++ []) waiting
    woken_done accs' tally' same k = runs_with v w me start bodies swap accs accs' tally tally' slots (keep ++ group whole rec bs) (keep ++ []) waiting
        (subst (λ (ps : List PairValue). Keeps v w me bodies accs' tally' slots (waiting ++ ps)) (sym (append-nil keep)) (keeps_tally v w me bodies swap accs' (noted (opened_keys whole key) tally (length bs)) tally' slots (waiting ++ keep) same k)) woken_runs

    -- or the children
    pub woken_keeps : (xs : List CellValue) → answer ≡ Children xs → Keeps v w me bodies accs (noted (opened_keys whole key) tally (length bs)) slots ((waiting ++ keep) ++ by_children false bs xs)
    woken_keeps xs e =
        let l = children_answer w key xs (sym e ∙ true_here) in
        subst (λ (rs : List CellValue). Keeps v w me bodies accs (noted (opened_keys whole key) tally (length bs)) slots ((waiting ++ keep) ++ by_children false bs rs)) (sym l.1)
        (parted v w me bodies swap accs tally slots whole false rec (key ∷ []) (λ j b a is o. inner_settles (v.adds b) (v.opens b) w me (pair_with j whole rec) a is (key ∷ []) o l.0 (rw away refl)) (λ k h. subst (Contains (asked_keys slots)) (sym (one_has key k h)) there) bs (waiting ++ keep) opened
        (group_keeps v w me start bodies swap accs tally slots keep waiting whole rec bs woken_runs))

    -- bodies whose cell was answered by its children go on with these
    pub woken_parted : (tally' : TallyValue) (xs : List CellValue) → IsSameTally (noted (opened_keys whole key) tally (length bs)) tally' → Keeps v w me bodies accs (noted (opened_keys whole key) tally (length bs)) slots ((waiting ++ keep) ++ by_children false bs xs) → Runs v w me start bodies accs tally' slots (keep ++ by_children false bs xs) waiting
    woken_parted tally' xs same k = runs_with v w me start bodies swap accs accs tally tally' slots (keep ++ group whole rec bs) (keep ++ by_children false bs xs) waiting
        (subst (Keeps v w me bodies accs tally' slots) (append_assoc waiting keep (by_children false bs xs)) (keeps_tally v w me bodies swap accs (noted (opened_keys whole key) tally (length bs)) tally' slots ((waiting ++ keep) ++ by_children false bs xs) same k)) woken_runs

    -- and these come from where they should
    pub woken_comes : (xs : List CellValue) → answer ≡ Children xs → start.advanced ≡ true → IsAwake start.slots start.pairs key → All (λ (r : CellValue). ComesFrom start.advanced w me start (pair_with 0 false r)) xs
    woken_comes xs e late awake =
        let l = children_answer w key xs (sym e ∙ true_here) in
        let high = has_children w.leaf w.bodies key asked.cell l.0 in
        subst (λ (t : Bool). All (λ (r : CellValue). ComesFrom t w me start (pair_with 0 false r)) xs) (sym late)
        (subst (All (λ (r : CellValue). ComesFrom true w me start (pair_with 0 false r))) (sym l.1)
        (all_members (λ (r : CellValue). ComesFrom true w me start (pair_with 0 false r)) (child_records w key) (λ r m.
        let d = child_record_is w key r m in
        let k : r.key ≡ child key d.0 = ap (λ (x : CellValue). x.key) d.3 in
        let up : 0 < height key = (let z = high.high in omega (arith, z)) in (
          subst (IsAwake start.slots start.pairs) (sym (ap parent k ∙ parent_of_child key d.0 d.1)) awake,
          away_below w me key r.key asked.cell (up, (d.0, d.1, k)) (subst (λ (x : ℕ). 0 < length (bodies_in w x)) (sym k) d.2) away,
        ))))

-- without bodies there are no pairs
pub none_left : (w : World) (me n : ℕ) (bodies : List BodyValue) → n ≡ length bodies → bodies ≡ piece w me → record_in w 1 ≡ None → roots n ≡ []
none_left w me n bodies long own none =
    let few : length bodies ≤ length w.bodies = subst (λ (xs : List BodyValue). length xs ≤ length w.bodies) (sym own) (filter_short _ w.bodies) in
    ap roots (let z : n ≡ 0 = omega (arith, long, few, no_bodies w none) in z)
  where
    no_bodies : (w : World) → record_in w 1 ≡ None → length w.bodies ≡ 0
    no_bodies w e = by_test (is_empty (bodies_in w 1)) refl e
      where
        by_test : (t : Bool) → is_empty (bodies_in w 1) ≡ t → (if t then None else Some (cell_record w.bodies 1)) ≡ None → length w.bodies ≡ 0
        by_test true f g = ap length (sym (inside-root w.bodies)) ∙ eqb-true _ _ f
        by_test false f g = absurd (cc)

-- the bodies that wait for one of the cells
pub more_left : (all ls ws more : List Held) (h : Held) → all ≡ ls ++ more → ls ≡ ws ++ h ∷ [] → all ≡ ws ++ (h ∷ more)
more_left all ls ws more h e f = e ∙ ap (λ (xs : List Held). xs ++ more) f ∙ append_assoc ws (h ∷ []) more

listed_there : (all ls ws more : List Held) (h : Held) → all ≡ ls ++ more → ls ≡ ws ++ h ∷ [] → all_listed all ≡ all_listed ws ++ (listed_of h ++ all_listed more)
listed_there all ls ws more h e f = ap all_listed (more_left all ls ws more h e f) ∙ flat_map-append listed_of ws (h ∷ more)

-- what holds of all pairs that wait holds of those of one cell
pub waits_of : (w : World) (P : PairValue → Type 0) (all ls ws more : List Held) (h : Held) → all ≡ ls ++ more → ls ≡ ws ++ h ∷ [] → All P (pairs_in w (all_listed all)) → All P (pairs_in w (listed_of h))
waits_of w P all ls ws more h e f k =
    let split = ap (pairs_in w) (listed_there all ls ws more h e f) ∙ map-append (pair_in w) (all_listed ws) (listed_of h ++ all_listed more) ∙ ap (λ (ps : List PairValue). pairs_in w (all_listed ws) ++ ps) (map-append (pair_in w) (listed_of h) (all_listed more)) in
    All-front P (pairs_in w (listed_of h)) (pairs_in w (all_listed more)) (All-back P (pairs_in w (all_listed ws)) (pairs_in w (listed_of h) ++ pairs_in w (all_listed more)) (subst (All P) split k))

-- what holds of the keys of all pairs holds of the key of a cell for which a body waits
pub key_of_held : (P : ℕ → Type 0) (all ls ws more : List Held) (h : Held) → 0 < length h.bodies.items → all ≡ ls ++ more → ls ≡ ws ++ h ∷ [] → All (λ p. P p.key) (all_listed all) → P h.key
key_of_held P all ls ws more h some e f k =
    let split = subst (All (λ (p : Listed). P p.key)) (listed_there all ls ws more h e f) k in
    by_first h.key h.whole h.bodies.items some (All-front (λ (p : Listed). P p.key) (listed_of h) (all_listed more) (All-back (λ (p : Listed). P p.key) (all_listed ws) (listed_of h ++ all_listed more) split))
  where
    by_first : (key : ℕ) (whole : Bool) (bs : List ℕ) → 0 < length bs → All (λ p. P p.key) (listed_as key whole bs) → P key
    by_first key whole [] s a = absurd (omega arith)
    by_first key whole (b ∷ bs) s a = All-head (λ (p : Listed). P p.key) (record { body = b; whole = whole; key = key }) (listed_as key whole bs) a

-- a cell that is awake has its answer
pub awake_stored : {A : Type 0} (v : VisitOf A) (w : World) (me : ℕ) (start : Beginning) (bodies : List BodyValue) (accs : List A) (tally : TallyValue) (slots : List Slot) (rest waiting : List PairValue) → Runs v w me start bodies accs tally slots rest waiting
    → (key : ℕ) → IsAwake start.slots start.pairs key → stored_at slots key ≡ None → ⊥
awake_stored v w me start bodies accs tally slots rest waiting r key awake none =
    let x : Extends start.slots slots = record { more = r.asks.more; new_is = r.asks.slots_are; unanswered = r.asks.unanswered } in
    let f : IsSome (stored_at start.slots key) = awake.1 in
    by_answer (stored_at start.slots key) (sym (stored_extends start.slots slots key x) ∙ none) f
  where
    by_answer : (o : Option Answer) → o ≡ None → IsSome o → ⊥
    by_answer None e f = absurd (let g : false ≡ true = f in cc)
    by_answer (Some a) e f = absurd (cc)

-- whether any body waits
pub some_items : (bs : List ℕ) → eqb (length bs) 0 ≡ false → 0 < length bs
some_items [] e = absurd (let f : eqb 0 0 ≡ true = eq-eqb 0 0 refl in let y : false ≡ true = sym e ∙ f in cc)
some_items (b ∷ bs) e = omega arith

-- or none does
pub no_items : (bs : List ℕ) → eqb (length bs) 0 ≡ true → bs ≡ []
no_items [] e = refl
no_items (b ∷ bs) e = absurd (omega (arith, eqb-true (length (b ∷ bs)) 0 e))
