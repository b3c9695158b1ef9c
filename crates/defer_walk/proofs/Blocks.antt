-- What becomes of bodies at one cell.
use Rattle.std.proofs.Common.{ℕ, zero, suc, ◌≡◌, ◌+◌, ◌<◌, ◌≤◌, Bool, true, false, List, [], ◌∷◌, ◌++◌, length, map, drop, set, get_or, sym, refl, ap, ◌∙◌, subst, inl, inr, arith, Some, append_assoc, add-one}
use Rattle.std.specs.Prelude.{Result, Ok, Err, OnOk, Contains, ◌⊎◌, ◌↔◌, slice_get, if◌then◌else◌}
use Rattle.std.proofs.lemmas.List.{append-nil, map-append, drop_all}
use Rattle.std.proofs.lemmas.List.Elements.{All-head, All-tail, Contains-append_left, Contains-append_right, Contains-append_cases}
use Rattle.hot_units.specs.Limits.{max_all_mass}
use Rattle.hot_units.specs.Values.{BodyValue, CellValue}
use Rattle.hot_units.specs.Bodies.{mass_of}
use Rattle.hot_units.proofs.Members.{nil_has}
use Rattle.hot_model.specs.Trees.{Term, Far, Near, added, mass_of_term}
use Rattle.rank_model.specs.World.{World, IsGood, bodies_in, is_leaf}
use Rattle.rank_model.specs.Needs.{outer_of}
use Rattle.rank_model.specs.Answers.{child_records}
use Rattle.rank_model.specs.Pairs.{PairValue, IsPair, pair_with, child_pairs, MaySwap}
use Rattle.defer_walk.specs.declared.asks.Slot.{Slot}
use Rattle.defer_walk.specs.Asked.{asked_keys}
use Rattle.defer_walk.specs.Settling.{IsOpened, Settles, now_opened}
use Rattle.defer_walk.specs.Tallies.{TallyValue, Notes, NotesTimes, IsSameTally, noted}
use Rattle.defer_walk.specs.Grouping.{group, by_children, AreOpened, opened_keys}
use Rattle.defer_walk.specs.Standing.{VisitOf}
use Rattle.defer_walk.specs.Turning.{Keeps}
use Rattle.defer_walk.proofs.Slots.{set_same}
use Rattle.defer_walk.proofs.Noted.{one_has, has_one}
use Rattle.defer_walk.proofs.Settles.{pair_full, settles_far, leaf_settles, get_some, drop_get}
use Rattle.defer_walk.proofs.Keeping.{All-back, get_has, keeps_settled, keeps_blocks}
use Rattle.defer_walk.proofs.Turnings.{All-has, keeps_fits}

-- the cell that is opened with a pair that is opened or added whole
pub noted_is : (opens : CellValue → Bool) (p : PairValue) → IsOpened opens p → now_opened opens p ≡ opened_keys p.whole p.rec.key
noted_is opens p o = by_whole p.whole refl
  where
    by_whole : (t : Bool) → p.whole ≡ t → (if t then [] else (if opens p.rec then p.rec.key ∷ [] else [])) ≡ (if t then [] else p.rec.key ∷ [])
    by_whole true e = refl
    by_whole false e = elim o [
      | inl f ↦ absurd (let h : true ≡ false = sym f ∙ e in cc)
      | inr f ↦ rw f refl
    ]

-- one pair more is noted
pub noted_step : (keys : List ℕ) (t : TallyValue) (n : ℕ) → Notes (noted keys t n) (noted keys t (suc n)) keys
noted_step keys t n = record {
  count = refl;
  has = λ k. (
    (λ h. Contains-append_cases (noted keys t n).cells keys k h),
    (λ h. elim h [ inl f ↦ Contains-append_left (noted keys t n).cells keys k f | inr f ↦ Contains-append_right (noted keys t n).cells keys k f ]),
  );
}

-- or none
pub notes_none : (t : TallyValue) → Notes t t []
notes_none t = record {
  count = omega arith;
  has = λ k. ((λ h. inl h), (λ h. elim h [ inl f ↦ f | inr f ↦ absurd (nil_has k f) ]));
}

module _ {A : Type 0} (v : VisitOf A) (w : World) (me : ℕ) (bodies : List BodyValue) (swap : (b : BodyValue) → MaySwap (v.adds b)) where
  -- a pair is taken to the end
  pub to_last : (accs : List A) (tally : TallyValue) (slots : List Slot) (keep ps : List PairValue) (p : PairValue) → Keeps v w me bodies accs tally slots (keep ++ (p ∷ ps)) → Keeps v w me bodies accs tally slots ((keep ++ ps) ++ p ∷ [])
  to_last accs tally slots keep ps p k =
      subst (Keeps v w me bodies accs tally slots) (sym (append_assoc keep ps (p ∷ [])))
      (keeps_blocks v w me bodies swap accs tally slots keep (p ∷ []) ps [] (subst (λ (qs : List PairValue). Keeps v w me bodies accs tally slots (keep ++ (p ∷ qs))) (sym (append-nil ps)) k))

  -- what is known of the first pair
  module _ (accs : List A) (tally : TallyValue) (slots : List Slot) (keep ps : List PairValue) (p : PairValue) (k : Keeps v w me bodies accs tally slots (keep ++ (p ∷ ps))) where
    -- the first pair is one of the world
    pub first_pair : IsPair w p
    first_pair = All-head (IsPair w) p ps (All-back (IsPair w) keep (p ∷ ps) k.balance.cells)

    -- its body is in the piece
    pub first_body : p.body < length bodies
    first_body = All-head (λ (q : PairValue). q.body < length bodies) p ps (All-back (λ (q : PairValue). q.body < length bodies) keep (p ∷ ps) k.balance.places)

    -- and the mass of its cell fits in what the body has seen
    pub first_fits : ((b : BodyValue) (a : A) (t : Term) → v.seen (v.adds b a t) ≡ v.seen a + mass_of_term t) → IsGood w → (b : BodyValue) (a : A) → slice_get bodies p.body ≡ Some b → slice_get accs p.body ≡ Some a → v.seen a + p.rec.mass ≤ max_all_mass
    first_fits = keeps_fits v w me bodies accs tally slots (keep ++ ps) p (to_last accs tally slots keep ps p k) first_pair first_body

    -- the pair is done
    pub first_done : (tally' : TallyValue) (b : BodyValue) (a a' : A) (here : List ℕ) → slice_get bodies p.body ≡ Some b → slice_get accs p.body ≡ Some a → Settles (v.adds b) (v.opens b) w me p a a' here []
        → Notes tally tally' (now_opened (v.opens b) p) → ((k : ℕ) → Contains here k → Contains (asked_keys slots) k) → Keeps v w me bodies (set accs p.body a') tally' slots (keep ++ ps)
    first_done tally' b a a' here pb pa s n known =
        subst (Keeps v w me bodies (set accs p.body a') tally' slots) (append-nil (keep ++ ps))
        (keeps_settled v w me bodies swap accs tally tally' slots (keep ++ ps) [] p b a a' here pb pa s n known (to_last accs tally slots keep ps p k))

  -- the first of the bodies that are left
  module _ (accs : List A) (tally : TallyValue) (slots : List Slot) (keep : List PairValue) (whole : Bool) (rec : CellValue) (bs : List ℕ) (i j : ℕ) (at : slice_get bs i ≡ Some j) (k : Keeps v w me bodies accs tally slots (keep ++ group whole rec (drop i bs))) where
    -- the next body's pair is the first of those left
    pub next_first : Keeps v w me bodies accs tally slots (keep ++ (pair_with j whole rec ∷ group whole rec (drop (i + 1) bs)))
    next_first = subst (λ (xs : List ℕ). Keeps v w me bodies accs tally slots (keep ++ group whole rec xs)) (drop_get bs i j at) k

    -- the next body is in the piece
    pub next_body : j < length bodies
    next_body = first_body accs tally slots keep (group whole rec (drop (i + 1) bs)) (pair_with j whole rec) next_first

    -- its pair is one of the world
    pub next_pair : IsPair w (pair_with j whole rec)
    next_pair = first_pair accs tally slots keep (group whole rec (drop (i + 1) bs)) (pair_with j whole rec) next_first

    -- the mass of the cell fits in what it has seen
    pub next_fits : ((b : BodyValue) (a : A) (t : Term) → v.seen (v.adds b a t) ≡ v.seen a + mass_of_term t) → IsGood w → (b : BodyValue) (a : A) → slice_get bodies j ≡ Some b → slice_get accs j ≡ Some a → v.seen a + rec.mass ≤ max_all_mass
    next_fits = first_fits accs tally slots keep (group whole rec (drop (i + 1) bs)) (pair_with j whole rec) next_first

    -- and so does that of a leaf's bodies
    pub next_leaf_fits : (others : List BodyValue) → others ≡ bodies_in w rec.key → ((b : BodyValue) (a : A) (t : Term) → v.seen (v.adds b a t) ≡ v.seen a + mass_of_term t) → IsGood w → (b : BodyValue) (a : A) → slice_get bodies j ≡ Some b → slice_get accs j ≡ Some a → v.seen a + mass_of others ≤ max_all_mass
    next_leaf_fits others e sees good b a pb pa = subst (λ (n : ℕ). v.seen a + n ≤ max_all_mass) ((pair_full w (pair_with j whole rec) next_pair).2 ∙ sym (ap mass_of e)) (next_fits sees good b a pb pa)

  -- one more body got the bodies of the leaf
  pub leaf_more : (accs : List A) (tally : TallyValue) (slots : List Slot) (keep : List PairValue) (whole : Bool) (rec : CellValue) (bs : List ℕ) (others : List BodyValue) (i j : ℕ) (b : BodyValue) (a a' : A)
      → slice_get bs i ≡ Some j → slice_get bodies j ≡ Some b → slice_get accs j ≡ Some a → a' ≡ added (v.adds b) a (map Near others) → is_leaf w rec.key ≡ true → others ≡ bodies_in w rec.key → AreOpened v.opens bodies whole rec bs
      → ((k : ℕ) → Contains (outer_of w me rec.key) k → Contains (asked_keys slots) k) → Keeps v w me bodies accs (noted (opened_keys whole rec.key) tally i) slots (keep ++ group whole rec (drop i bs))
      → Keeps v w me bodies (set accs j a') (noted (opened_keys whole rec.key) tally (i + 1)) slots (keep ++ group whole rec (drop (i + 1) bs))
  leaf_more accs tally slots keep whole rec bs others i j b a a' at pb pa new leaf are opened known k =
      let p : PairValue = pair_with j whole rec in
      let first : Keeps v w me bodies accs (noted (opened_keys whole rec.key) tally i) slots (keep ++ (p ∷ group whole rec (drop (i + 1) bs))) =
      subst (λ (xs : List ℕ). Keeps v w me bodies accs (noted (opened_keys whole rec.key) tally i) slots (keep ++ group whole rec xs)) (drop_get bs i j at) k in
      let is = first_pair accs (noted (opened_keys whole rec.key) tally i) slots keep (group whole rec (drop (i + 1) bs)) p first in
      let o : IsOpened (v.opens b) p = All-has (λ (q : ℕ). (b : BodyValue) → slice_get bodies q ≡ Some b → IsOpened (v.opens b) (pair_with q whole rec)) bs j opened (get_has bs i j at) b pb in
      subst (λ (n : ℕ). Keeps v w me bodies (set accs j a') (noted (opened_keys whole rec.key) tally n) slots (keep ++ group whole rec (drop (i + 1) bs))) (sym (add-one i))
      (first_done accs (noted (opened_keys whole rec.key) tally i) slots keep (group whole rec (drop (i + 1) bs)) p first (noted (opened_keys whole rec.key) tally (suc i)) b a a' (outer_of w me rec.key) pb pa
      (leaf_settles (v.adds b) (v.opens b) w me p a is (outer_of w me rec.key) o leaf refl a' (new ∙ ap (λ (xs : List BodyValue). added (v.adds b) a (map Near xs)) are))
      (subst (Notes (noted (opened_keys whole rec.key) tally i) (noted (opened_keys whole rec.key) tally (suc i))) (sym (noted_is (v.opens b) p o)) (noted_step (opened_keys whole rec.key) tally i)) known)

  -- the first of the bodies that were not tested
  module _ (accs : List A) (tally : TallyValue) (slots : List Slot) (keep : List PairValue) (rec : CellValue) (bs kept : List ℕ) (i j : ℕ) (at : slice_get bs i ≡ Some j) (k : Keeps v w me bodies accs tally slots (keep ++ group false rec (kept ++ drop i bs))) where
    sift_first : Keeps v w me bodies accs tally slots ((keep ++ group false rec kept) ++ (pair_with j false rec ∷ group false rec (drop (i + 1) bs)))
    sift_first = subst (Keeps v w me bodies accs tally slots)
        (ap (λ (xs : List ℕ). keep ++ group false rec (kept ++ xs)) (drop_get bs i j at)
        ∙ ap (λ (qs : List PairValue). keep ++ qs) (map-append (λ b. pair_with b false rec) kept (j ∷ drop (i + 1) bs))
        ∙ sym (append_assoc keep (group false rec kept) (pair_with j false rec ∷ group false rec (drop (i + 1) bs)))) k

    -- a body that is sifted is in the piece
    pub sift_body : j < length bodies
    sift_body = first_body accs tally slots (keep ++ group false rec kept) (group false rec (drop (i + 1) bs)) (pair_with j false rec) sift_first

    -- its pair is one of the world
    pub sift_pair : IsPair w (pair_with j false rec)
    sift_pair = first_pair accs tally slots (keep ++ group false rec kept) (group false rec (drop (i + 1) bs)) (pair_with j false rec) sift_first

    -- the cell has bodies
    pub sift_some : 0 < rec.count
    sift_some = let full = pair_full w (pair_with j false rec) sift_pair in subst (λ (n : ℕ). 0 < n) (sym full.1) full.0

    -- and its mass fits in what the body has seen
    pub sift_fits : ((b : BodyValue) (a : A) (t : Term) → v.seen (v.adds b a t) ≡ v.seen a + mass_of_term t) → IsGood w → (b : BodyValue) (a : A) → slice_get bodies j ≡ Some b → slice_get accs j ≡ Some a → v.seen a + rec.mass ≤ max_all_mass
    sift_fits = first_fits accs tally slots (keep ++ group false rec kept) (group false rec (drop (i + 1) bs)) (pair_with j false rec) sift_first

    -- a body that does not open the cell gets it as one source
    pub sift_far : (b : BodyValue) (a a' : A) → slice_get bodies j ≡ Some b → slice_get accs j ≡ Some a → a' ≡ v.adds b a (Far rec) → v.opens b rec ≡ false → Keeps v w me bodies (set accs j a') tally slots (keep ++ group false rec (kept ++ drop (i + 1) bs))
    sift_far b a a' pb pa new shut =
        let p : PairValue = pair_with j false rec in
        let ps = group false rec (drop (i + 1) bs) in
        subst (Keeps v w me bodies (set accs j a') tally slots) (append_assoc keep (group false rec kept) ps ∙ ap (λ (qs : List PairValue). keep ++ qs) (sym (map-append (λ b. pair_with b false rec) kept (drop (i + 1) bs))))
        (first_done accs tally slots (keep ++ group false rec kept) ps p sift_first tally b a a' [] pb pa (settles_far (v.adds b) (v.opens b) w me p a sift_pair refl shut a' new)
        (let e : now_opened (v.opens b) p ≡ [] = rw shut refl in subst (Notes tally tally) (sym e) (notes_none tally)) (λ x h. absurd (nil_has x h)))

    -- one that opens it goes on
    pub sift_on : Keeps v w me bodies accs tally slots (keep ++ group false rec ((kept ++ j ∷ []) ++ drop (i + 1) bs))
    sift_on = subst (λ (xs : List ℕ). Keeps v w me bodies accs tally slots (keep ++ group false rec xs)) (ap (λ (xs : List ℕ). kept ++ xs) (drop_get bs i j at) ∙ sym (append_assoc kept (j ∷ []) (drop (i + 1) bs))) k

  -- the pairs of one more body with each child, among those of the others
  weave : (accs : List A) (tally : TallyValue) (slots : List Slot) (flag : Bool) (j : ℕ) (bs : List ℕ) (rs : List CellValue) (front back : List PairValue)
      → Keeps v w me bodies accs tally slots (front ++ (map (pair_with j flag) rs ++ (by_children flag bs rs ++ back))) → Keeps v w me bodies accs tally slots (front ++ (by_children flag (j ∷ bs) rs ++ back))
  weave accs tally slots flag j bs [] front back k = k
  weave accs tally slots flag j bs (r ∷ rs) front back k =
      let q : PairValue = pair_with j flag r in
      let m = map (pair_with j flag) rs in
      let x = group flag r bs in
      let y = by_children flag bs rs in
      let z = by_children flag (j ∷ bs) rs in
      let one : Keeps v w me bodies accs tally slots ((front ++ q ∷ []) ++ (m ++ (x ++ (y ++ back)))) =
      subst (Keeps v w me bodies accs tally slots) (ap (λ (ps : List PairValue). front ++ (q ∷ (m ++ ps))) (append_assoc x y back) ∙ sym (append_assoc front (q ∷ []) (m ++ (x ++ (y ++ back))))) k in
      let two = keeps_blocks v w me bodies swap accs tally slots (front ++ q ∷ []) m x (y ++ back) one in
      let three = weave accs tally slots flag j bs rs ((front ++ q ∷ []) ++ x) back (subst (Keeps v w me bodies accs tally slots) (sym (append_assoc (front ++ q ∷ []) x (m ++ (y ++ back)))) two) in
      subst (Keeps v w me bodies accs tally slots) (append_assoc (front ++ q ∷ []) x (z ++ back) ∙ append_assoc front (q ∷ []) (x ++ (z ++ back)) ∙ ap (λ (ps : List PairValue). front ++ (q ∷ ps)) (sym (append_assoc x z back))) three

  -- bodies go on with the children of a cell
  pub parted : (accs : List A) (tally : TallyValue) (slots : List Slot) (whole flag : Bool) (rec : CellValue) (here : List ℕ)
      → ((j : ℕ) (b : BodyValue) (a : A) → IsPair w (pair_with j whole rec) → IsOpened (v.opens b) (pair_with j whole rec) → Settles (v.adds b) (v.opens b) w me (pair_with j whole rec) a a here (child_pairs w (pair_with j whole rec) flag))
      → ((k : ℕ) → Contains here k → Contains (asked_keys slots) k)
      → (bs : List ℕ) (keep : List PairValue) → AreOpened v.opens bodies whole rec bs → Keeps v w me bodies accs tally slots (keep ++ group whole rec bs)
      → Keeps v w me bodies accs (noted (opened_keys whole rec.key) tally (length bs)) slots (keep ++ by_children flag bs (child_records w rec.key))
  parted accs tally slots whole flag rec here f known [] keep opened k = subst (λ (ps : List PairValue). Keeps v w me bodies accs tally slots (keep ++ ps)) (sym (none (child_records w rec.key))) k
    where
      none : (rs : List CellValue) → by_children flag [] rs ≡ []
      none [] = refl
      none (r ∷ rs) = none rs
  parted accs tally slots whole flag rec here f known (j ∷ bs) keep opened k =
      let p : PairValue = pair_with j whole rec in
      let keys = opened_keys whole rec.key in
      let rs = child_records w rec.key in
      let y = by_children flag bs rs in
      let z = by_children flag (j ∷ bs) rs in
      let cs = map (pair_with j flag) rs in
      let is = first_pair accs tally slots keep (group whole rec bs) p k in
      let within = first_body accs tally slots keep (group whole rec bs) p k in
      let t = noted keys tally (length bs) in
      let b = get_some bodies j within in
      let a = get_some accs j (subst (λ (n : ℕ). j < n) (sym k.balance.long) within) in
      let o : IsOpened (v.opens b.0) p = All-head (λ (q : ℕ). (b : BodyValue) → slice_get bodies q ≡ Some b → IsOpened (v.opens b) (pair_with q whole rec)) j bs opened b.0 b.1 in
      let others = parted accs tally slots whole flag rec here f known bs (keep ++ p ∷ []) (All-tail (λ (q : ℕ). (b : BodyValue) → slice_get bodies q ≡ Some b → IsOpened (v.opens b) (pair_with q whole rec)) j bs opened)
      (subst (Keeps v w me bodies accs tally slots) (sym (append_assoc keep (p ∷ []) (group whole rec bs))) k) in
      let last = to_last accs t slots keep y p (subst (Keeps v w me bodies accs t slots) (append_assoc keep (p ∷ []) y) others) in
      let note = subst (Notes t (noted keys tally (suc (length bs)))) (sym (noted_is (v.opens b.0) p o)) (noted_step keys tally (length bs)) in
      let done = keeps_settled v w me bodies swap accs t (noted keys tally (suc (length bs))) slots (keep ++ y) cs p b.0 a.0 a.0 here b.1 a.1 (f j b.0 a.0 is o) note known last in
      let same = subst (λ (xs : List A). Keeps v w me bodies xs (noted keys tally (suc (length bs))) slots ((keep ++ y) ++ cs)) (set_same accs j a.0 a.1) done in
      let turned = keeps_blocks v w me bodies swap accs (noted keys tally (suc (length bs))) slots keep y cs [] (subst (Keeps v w me bodies accs (noted keys tally (suc (length bs))) slots) (append_assoc keep y cs ∙ ap (λ (ps : List PairValue). keep ++ (y ++ ps)) (sym (append-nil cs))) same) in
      subst (λ (ps : List PairValue). Keeps v w me bodies accs (noted keys tally (suc (length bs))) slots (keep ++ ps)) (append-nil z) (weave accs (noted keys tally (suc (length bs))) slots flag j bs rs keep [] turned)

-- no body is left
pub drop_end : {A : Type 0} (v : VisitOf A) (w : World) (me : ℕ) (bodies : List BodyValue) (accs : List A) (tally : TallyValue) (slots : List Slot) (keep : List PairValue) (whole : Bool) (rec : CellValue) (bs : List ℕ) (i : ℕ) → i ≤ length bs → length bs ≤ i
    → Keeps v w me bodies accs (noted (opened_keys whole rec.key) tally i) slots (keep ++ group whole rec (drop i bs)) → Keeps v w me bodies accs (noted (opened_keys whole rec.key) tally (length bs)) slots keep
drop_end v w me bodies accs tally slots keep whole rec bs i above below k =
    let n : i ≡ length bs = omega (arith, above, below) in
    let none : drop i bs ≡ [] = drop_all i bs below in
    subst (λ (ps : List PairValue). Keeps v w me bodies accs (noted (opened_keys whole rec.key) tally (length bs)) slots ps) (append-nil keep)
    (subst (λ (xs : List ℕ). Keeps v w me bodies accs (noted (opened_keys whole rec.key) tally (length bs)) slots (keep ++ group whole rec xs)) none
    (subst (λ (m : ℕ). Keeps v w me bodies accs (noted (opened_keys whole rec.key) tally m) slots (keep ++ group whole rec (drop i bs))) n k))

-- a place before the end of a list
pub before_end : (xs : List ℕ) (i n l : ℕ) → i < n → n ≡ l → l ≡ length xs → i < length xs
before_end xs i n l h e f = omega (arith, h, e, f)

-- what was read in front
pub read_front : {A : Type 0} (xs ys : List A) (i : ℕ) (x : A) → i < length xs → x ≡ get_or (xs ++ ys) i x → slice_get xs i ≡ Some x
read_front [] ys i x h e = absurd (omega arith)
read_front (y ∷ xs) ys zero x h e = ap Some (sym e)
read_front (y ∷ xs) ys (suc i) x h e = read_front xs ys i x (omega (arith, h)) e

-- what is left of a joined list without its front
pub drop_front : {A : Type 0} (xs ys : List A) (n : ℕ) → n ≡ length xs → drop n (xs ++ ys) ≡ ys
drop_front {A = A} xs ys n e = subst (λ (m : ℕ). drop m (xs ++ ys) ≡ ys) (sym e) (by_front xs)
  where
    by_front : (xs : List A) → drop (length xs) (xs ++ ys) ≡ ys
    by_front [] = refl
    by_front (x ∷ xs) = by_front xs

-- the tally after so many notes of one cell, or of none
pub noted_none : (t : TallyValue) (n : ℕ) → IsSameTally (noted [] t n) t
noted_none t zero = record { count = refl; has = λ k. ((λ h. h), (λ h. h)) }
noted_none t (suc n) =
    let s = noted_none t n in
    record {
      count = omega (arith, s.count);
      has = λ k. (
        (λ h. Contains-append_left (noted [] t n).cells [] k ((s.has k).0 h)),
        (λ h. elim (Contains-append_cases (noted [] t n).cells [] k h) [ inl f ↦ (s.has k).1 f | inr f ↦ absurd (nil_has k f) ]),
      );
    }

noted_count : (k : ℕ) (t : TallyValue) (n : ℕ) → (noted (k ∷ []) t n).opened ≡ t.opened + n
noted_count k t zero = omega arith
noted_count k t (suc n) = omega (arith, noted_count k t n)

noted_has : (c : ℕ) (t : TallyValue) (n k : ℕ) → Contains (noted (c ∷ []) t (suc n)).cells k ↔ (Contains t.cells k ⊎ (k ≡ c))
noted_has c t zero k = (
  (λ h. elim (Contains-append_cases t.cells (c ∷ []) k h) [ inl f ↦ inl f | inr f ↦ inr (one_has c k f) ]),
  (λ h. elim h [ inl f ↦ Contains-append_left t.cells (c ∷ []) k f | inr e ↦ Contains-append_right t.cells (c ∷ []) k (has_one c k e) ]),
)
noted_has c t (suc n) k =
    let s = noted_has c t n k in (
      (λ h. elim (Contains-append_cases (noted (c ∷ []) t (suc n)).cells (c ∷ []) k h) [ inl f ↦ s.0 f | inr f ↦ inr (one_has c k f) ]),
      (λ h. Contains-append_left (noted (c ∷ []) t (suc n)).cells (c ∷ []) k (s.1 h)),
    )

-- so many notes of one cell are one note of so many
pub noted_all : (c : ℕ) (t new : TallyValue) (n : ℕ) → 0 < n → NotesTimes t new c n → IsSameTally (noted (c ∷ []) t n) new
noted_all c t new zero some h = absurd (omega (arith, some))
noted_all c t new (suc n) some h = record {
  count = h.count ∙ sym (noted_count c t (suc n));
  has = λ k. ((λ x. (noted_has c t n k).1 ((h.has k).0 x)), (λ x. (h.has k).1 ((noted_has c t n k).0 x)));
}

-- what holds at Ok, and what follows from it
pub same_ok : {T E : Type 0} (r : Result T E) (P Q : Type 0) → (P → Q) → OnOk r P → OnOk r Q
same_ok (Ok x) P Q f h = f h
same_ok (Err e) P Q f h = h

-- what holds anyway holds at Ok
pub always_ok : {T E : Type 0} (r : Result T E) (Q : Type 0) → Q → OnOk r Q
always_ok (Ok x) Q h = h
always_ok (Err e) Q h = tt
