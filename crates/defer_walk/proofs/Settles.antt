-- What one turn leaves of a pair.
use Rattle.std.proofs.Common.{ℕ, zero, suc, ◌≡◌, ◌+◌, ◌^◌, ◌<◌, ◌≤◌, Bool, true, false, List, [], ◌∷◌, ◌++◌, length, map, flat_map, drop, sym, refl, ap, ◌∙◌, subst, inl, inr, arith, Some, add-one}
use Rattle.std.specs.Prelude.{All, Contains, slice_get, if◌then◌else◌}
use Rattle.std.proofs.Math.Nat.{pow-succ'}
use Rattle.std.proofs.Math.Seq.{drop-cons}
use Rattle.std.proofs.lemmas.Option.{slice_get_cases, slice_get_within, get_or_from_slice_get}
use Rattle.std.proofs.lemmas.List.{append-nil}
use Rattle.std.proofs.lemmas.List.Elements.{All-nil, All-map}
use Rattle.std.proofs.lemmas.List.Sums.{sum_by-cons}
use Rattle.hot_units.specs.Values.{BodyValue, CellValue}
use Rattle.hot_units.specs.Keys.{height}
use Rattle.hot_units.specs.Bodies.{mass_of, mass_of_body}
use Rattle.hot_units.proofs.Members.{all_members, has_map, head_has}
use Rattle.hot_model.specs.Trees.{Term, Far, Near, added, listed}
use Rattle.hot_model.specs.declared.answer.Answer.TheVariants.{Bodies, Children}
use Rattle.hot_model.proofs.Walks.{some_length}
use Rattle.hot_model.proofs.Heights.{height_is, has_children}
use Rattle.rank_model.specs.World.{World, IsGood, bodies_in, is_leaf}
use Rattle.rank_model.specs.Needs.{part_of, is_away, itself, outer_of}
use Rattle.rank_model.specs.Answers.{child_records, true_answer}
use Rattle.rank_model.specs.Pairs.{PairValue, IsPair, rest_of, still_asked, still_opened, pair_with, child_pairs}
use Rattle.rank_model.specs.declared.part.Part.TheVariants.{Spread}
use Rattle.rank_model.proofs.Owners.{top_is_high}
use Rattle.rank_model.proofs.Aways.{spread-is}
use Rattle.rank_model.proofs.Asks.{top_not_away}
use Rattle.rank_model.proofs.Records.{child_record_is, record_some}
use Rattle.rank_model.proofs.Levels.{outer_of_away}
use Rattle.rank_model.proofs.Steps.{rest_far, rest_leaf, rest_parted, opened_far, opened_leaf, opened_parted, asked_far, asked_leaf, asked_parted, whole_parted, whole_asked, children_are, children_lighter}
use Rattle.defer_walk.specs.Settling.{IsOpened, IsChildOf, Settles, now_opened}

-- a pair of the world has bodies, and its record has their number and mass
pub pair_full : (w : World) (p : PairValue) → IsPair w p → (0 < length (bodies_in w p.rec.key)) × (p.rec.count ≡ length (bodies_in w p.rec.key)) × (p.rec.mass ≡ mass_of (bodies_in w p.rec.key))
pair_full w p is =
    let r = record_some w p.rec.key p.rec is.rec in
    (some_length (bodies_in w p.rec.key) r.0, ap (λ (c : CellValue). c.count) r.1, ap (λ (c : CellValue). c.mass) r.1)

-- a power of nine is at least 1
pub nine_pos : (n : ℕ) → 0 < 9 ^ n
nine_pos zero = omega arith
nine_pos (suc n) = omega (arith, pow-succ' 9 n, nine_pos n)

same_bodies : (w : World) (p : PairValue) (whole : Bool) → All (λ q. q.body ≡ p.body) (child_pairs w p whole)
same_bodies w p whole = All-map (λ (q : PairValue). q.body ≡ p.body) (pair_with p.body whole) (child_records w p.rec.key) (λ k d h. refl)

-- the child pairs are of the children
same_parent : (w : World) (p : PairValue) (whole : Bool) → 0 < height p.rec.key → All (λ q. IsChildOf p.rec.key q.rec.key) (child_pairs w p whole)
same_parent w p whole high = all_members (λ (q : PairValue). IsChildOf p.rec.key q.rec.key) (child_pairs w p whole) (λ q m.
    let r = has_map (pair_with p.body whole) (child_records w p.rec.key) q m in
    let d = child_record_is w p.rec.key r.0 r.1 in
    (high, (d.0, d.1, ap (λ (x : PairValue). x.rec.key) r.2 ∙ ap (λ (x : CellValue). x.key) d.3)))

-- pairs that are added whole open no cell
whole_opens : (opens : CellValue → Bool) (w : World) (body : ℕ) (rs : List CellValue) → flat_map (still_opened opens w) (map (pair_with body true) rs) ≡ []
whole_opens opens w body [] = refl
whole_opens opens w body (r ∷ rs) = whole_opens opens w body rs

true_false : true ≡ false → {A : Type 0} → A
true_false e = absurd (let h : true ≡ false = e in cc)

-- what an answer tells of the cell
pub bodies_answer : (w : World) (c : ℕ) (xs : List BodyValue) → Bodies xs ≡ true_answer w c → (is_leaf w c ≡ true) × (xs ≡ bodies_in w c)
bodies_answer w c xs e = by_test (is_leaf w c) refl e
  where
    by_test : (t : Bool) → is_leaf w c ≡ t → Bodies xs ≡ (if t then Bodies (bodies_in w c) else Children (child_records w c)) → (is_leaf w c ≡ true) × (xs ≡ bodies_in w c)
    by_test true l f = (l, cc)
    by_test false l f = absurd (cc)

-- and its children where it is no leaf
pub children_answer : (w : World) (c : ℕ) (xs : List CellValue) → Children xs ≡ true_answer w c → (is_leaf w c ≡ false) × (xs ≡ child_records w c)
children_answer w c xs e = by_test (is_leaf w c) refl e
  where
    by_test : (t : Bool) → is_leaf w c ≡ t → Children xs ≡ (if t then Bodies (bodies_in w c) else Children (child_records w c)) → (is_leaf w c ≡ false) × (xs ≡ child_records w c)
    by_test true l f = absurd (cc)
    by_test false l f = (l, cc)

module _ {A : Type 0} (add : A → Term → A) (opens : CellValue → Bool) (w : World) (me : ℕ) (p : PairValue) (a : A) (is : IsPair w p) where
  -- what rests of a leaf that is added whole or opened
  leaf_rest : IsOpened opens p → is_leaf w p.rec.key ≡ true → rest_of opens w p ≡ listed w.bodies p.rec.key
  leaf_rest o l = by_whole p.whole refl
    where
      by_whole : (t : Bool) → p.whole ≡ t → rest_of opens w p ≡ listed w.bodies p.rec.key
      by_whole true e = rw e refl
      by_whole false e = elim o [
        | inl f ↦ true_false (sym f ∙ e)
        | inr f ↦ rest_leaf opens w me p is e f l
      ]

  leaf_asked : IsOpened opens p → is_leaf w p.rec.key ≡ true → still_asked opens w me p ≡ outer_of w me p.rec.key
  leaf_asked o l = by_whole p.whole refl
    where
      by_whole : (t : Bool) → p.whole ≡ t → still_asked opens w me p ≡ outer_of w me p.rec.key
      by_whole true e = rw e refl
      by_whole false e = elim o [
        | inl f ↦ true_false (sym f ∙ e)
        | inr f ↦ asked_leaf opens w me p is e f l
      ]

  leaf_opened : IsOpened opens p → is_leaf w p.rec.key ≡ true → still_opened opens w p ≡ now_opened opens p
  leaf_opened o l = by_whole p.whole refl
    where
      by_whole : (t : Bool) → p.whole ≡ t → still_opened opens w p ≡ now_opened opens p
      by_whole true e = rw e refl
      by_whole false e = elim o [
        | inl f ↦ true_false (sym f ∙ e)
        | inr f ↦ opened_leaf opens w me p is e f l ∙ rw (e, f) refl
      ]

  not_whole : is_leaf w p.rec.key ≡ false → p.whole ≡ false
  not_whole l = by_whole p.whole refl
    where
      by_whole : (t : Bool) → p.whole ≡ t → p.whole ≡ false
      by_whole false e = e
      by_whole true e = true_false (sym (is.leaf e) ∙ l)

  is_tested : IsOpened opens p → p.whole ≡ false → opens p.rec ≡ true
  is_tested o n = elim o [ inl g ↦ true_false (sym g ∙ n) | inr g ↦ g ]

  none_below : All (λ (q : PairValue). IsChildOf p.rec.key q.rec.key) []
  none_below = All-nil (λ (q : PairValue). IsChildOf p.rec.key q.rec.key)

  -- a pair whose cell is not opened: one term
  pub settles_far : p.whole ≡ false → opens p.rec ≡ false → (b : A) → b ≡ add a (Far p.rec) → Settles add opens w me p a b [] []
  settles_far n o b e = record {
    balance = ap (added add a) (rest_far opens w me p is n o) ∙ sym e;
    opened = opened_far opens w me p is n o ∙ rw (n, o) refl;
    asked = asked_far opens w me p is n o;
    bodies = All-nil (λ (q : PairValue). q.body ≡ p.body);
    below = none_below;
    pairs = All-nil (IsPair w);
    lighter = nine_pos (height p.rec.key);
  }

  -- the bodies of a leaf were added; `here` is what was asked for
  pub leaf_settles : (here : List ℕ) → IsOpened opens p → is_leaf w p.rec.key ≡ true → outer_of w me p.rec.key ≡ here → (b : A) → b ≡ added add a (map Near (bodies_in w p.rec.key)) → Settles add opens w me p a b here []
  leaf_settles here o l h b f = record {
    balance = ap (added add a) (leaf_rest o l) ∙ sym f;
    opened = leaf_opened o l ∙ sym (append-nil (now_opened opens p));
    asked = leaf_asked o l ∙ h ∙ sym (append-nil here);
    bodies = All-nil (λ (q : PairValue). q.body ≡ p.body);
    below = none_below;
    pairs = All-nil (IsPair w);
    lighter = nine_pos (height p.rec.key);
  }

  -- an opened cell that is no leaf: its children are to be tested
  pub inner_settles : (here : List ℕ) → IsOpened opens p → is_leaf w p.rec.key ≡ false → itself w me p.rec.key ≡ here → Settles add opens w me p a a here (child_pairs w p false)
  inner_settles here o l h =
      let n : p.whole ≡ false = not_whole l in
      let t : opens p.rec ≡ true = is_tested o n in
      let s = has_children w.leaf w.bodies p.rec.key is.cell l in
      let high : 0 < height p.rec.key = (let z = s.high in omega (arith, z)) in
      record {
        balance = ap (added add a) (rest_parted opens w me p is n t l);
        opened = opened_parted opens w me p is n t l ∙ rw (n, t) refl;
        asked = asked_parted opens w me p is n t l ∙ ap (λ (ks : List ℕ). ks ++ flat_map (still_asked opens w me) (child_pairs w p false)) h;
        bodies = same_bodies w p false;
        below = same_parent w p false high;
        pairs = children_are w p false is high (λ b. true_false (sym b));
        lighter = children_lighter w p false is.cell high;
      }

  -- a leaf of several ranks: its children are to be added whole
  pub spread_settles : IsGood w → IsOpened opens p → part_of w me p.rec.key ≡ Spread → Settles add opens w me p a a [] (child_pairs w p true)
  spread_settles g o e =
      let i = is.cell in
      let s = (spread-is w me p.rec.key i).0 e in
      let below = top_is_high w p.rec.key i.0 i.1 i.2 s.0 in
      let high : 0 < height p.rec.key = (let z = height_is p.rec.key i.0 i.1 i.2 in omega (arith, z, below)) in
      let q : PairValue = pair_with p.body true p.rec in
      let isq : IsPair w q = record { cell = i; rec = is.rec; leaf = (λ b. s.1) } in
      record {
        balance = ap (added add a) (leaf_rest o s.1 ∙ whole_parted opens w me q isq g refl high);
        opened = leaf_opened o s.1 ∙ sym (append-nil (now_opened opens p)) ∙ ap (λ (ks : List ℕ). now_opened opens p ++ ks) (sym (whole_opens opens w p.body (child_records w p.rec.key)));
        asked = leaf_asked o s.1 ∙ whole_asked opens w me q isq refl high (top_not_away w me p.rec.key s.0);
        bodies = same_bodies w p true;
        below = same_parent w p true high;
        pairs = children_are w p true is high (λ b. s.1);
        lighter = children_lighter w p true i high;
      }

  -- a pair that waits asks for its cell
  pub waiting_asks : IsOpened opens p → is_away w me p.rec.key ≡ true → Contains (still_asked opens w me p) p.rec.key
  waiting_asks o y = by_leaf (is_leaf w p.rec.key) refl
    where
      by_leaf : (t : Bool) → is_leaf w p.rec.key ≡ t → Contains (still_asked opens w me p) p.rec.key
      by_leaf true l = subst (λ (ks : List ℕ). Contains ks p.rec.key) (sym (leaf_asked o l ∙ outer_of_away w me p.rec.key (record_some w p.rec.key p.rec is.rec).0 y)) (head_has p.rec.key [])
      by_leaf false l =
          let n = not_whole l in
          let i : itself w me p.rec.key ≡ p.rec.key ∷ [] = rw y refl in
          let e : still_asked opens w me p ≡ (p.rec.key ∷ []) ++ flat_map (still_asked opens w me) (child_pairs w p false) =
          asked_parted opens w me p is n (is_tested o n) l ∙ ap (λ (ks : List ℕ). ks ++ flat_map (still_asked opens w me) (child_pairs w p false)) i in
          subst (λ (ks : List ℕ). Contains ks p.rec.key) (sym e) (head_has p.rec.key (flat_map (still_asked opens w me) (child_pairs w p false)))

-- one more body
pub drop_get : {A : Type 0} (xs : List A) (i : ℕ) (x : A) → slice_get xs i ≡ Some x → drop i xs ≡ x ∷ drop (i + 1) xs
drop_get xs i x e = rw add-one (drop-cons xs i x (slice_get_within xs i x e) ∙ ap (λ y. y ∷ drop (suc i) xs) (get_or_from_slice_get xs i x x e))

-- there is an element at each place of a list
pub get_some : {A : Type 0} (xs : List A) (i : ℕ) → i < length xs → (x : A) × (slice_get xs i ≡ Some x)
get_some xs i h =
    elim (slice_get_cases xs i).1 [
      | inl f ↦ (f.0, f.2)
      | inr f ↦ absurd (omega arith)
    ]

-- a body added, and those behind it left
pub near_value : {A : Type 0} (add : A → Term → A) (xs : List BodyValue) (i : ℕ) (x : BodyValue) (a b last : A) → slice_get xs i ≡ Some x → b ≡ add a (Near x)
    → added add a (map Near (drop i xs)) ≡ last → added add b (map Near (drop (i + 1) xs)) ≡ last
near_value add xs i x a b last e f h =
    let eq : added add a (map Near (x ∷ drop (i + 1) xs)) ≡ last = subst (λ (ys : List BodyValue). added add a (map Near ys) ≡ last) (drop_get xs i x e) h in
    rw f eq

-- their masses fit with that one seen
pub near_room : (xs : List BodyValue) (i : ℕ) (x : BodyValue) (s t n : ℕ) → slice_get xs i ≡ Some x → t ≡ s + x.mass → s + mass_of (drop i xs) ≤ n → t + mass_of (drop (i + 1) xs) ≤ n
near_room xs i x s t n e f h =
    let le : s + mass_of (x ∷ drop (i + 1) xs) ≤ n = subst (λ (ys : List BodyValue). s + mass_of ys ≤ n) (drop_get xs i x e) h in
    omega (arith, f, sum_by-cons mass_of_body x (drop (i + 1) xs))

-- and its own mass fits
pub near_fits : (xs : List BodyValue) (i : ℕ) (x : BodyValue) (s n : ℕ) → slice_get xs i ≡ Some x → s + mass_of (drop i xs) ≤ n → s + x.mass ≤ n
near_fits xs i x s n e h =
    let le : s + mass_of (x ∷ drop (i + 1) xs) ≤ n = subst (λ (ys : List BodyValue). s + mass_of ys ≤ n) (drop_get xs i x e) h in
    omega (arith, sum_by-cons mass_of_body x (drop (i + 1) xs))
