-- What rests of a pair, case by case: its terms, the cells that it opens and those that it asks for.
use Rattle.std.proofs.Common.{ℕ, zero, suc, ◌≡◌, ◌-◌, ◌*◌, ◌^◌, ◌<◌, ◌≤◌, Bool, true, false, cond, leb, List, [], ◌∷◌, ◌++◌, length, map, flat_map, sym, refl, ap, ◌∙◌, subst, inl, inr, arith, Some, None}
use Rattle.std.proofs.lemmas.Bool.{le-leb, cases_lt, lt-leb, eqb-true}
use Rattle.std.specs.Prelude.{Contains, All, if◌then◌else◌, option_to_list}
use Rattle.std.proofs.lemmas.List.Sums.{sum_by-cons}
use Rattle.std.proofs.Math.Nat.{pow-succ'}
use Rattle.hot_units.specs.Values.{BodyValue, CellValue}
use Rattle.hot_units.specs.Keys.{height, child, HasLevel, IsCell, contains, digits}
use Rattle.hot_units.proofs.Members.{head_has, all_members, has_map, tail_has, have_digits}
use Rattle.hot_model.specs.Trees.{inside, is_empty, cell_record, Far, Near, listed, terms_of, opened_of}
use Rattle.hot_model.proofs.Fronts.{height_child, child_cell, covers-contains, child_covers}
use Rattle.hot_model.proofs.Ranges.{rising_in_order}
use Rattle.hot_model.proofs.Walks.{full_length}
use Rattle.hot_model.proofs.Heights.{height_is, terms_of_nothing, terms_of_whole, terms_of_leaf, terms_of_parted}
use Rattle.hot_model.proofs.Children.{listed-children}
use Rattle.rank_model.specs.World.{World, bodies_in, is_leaf, IsGood, record_in}
use Rattle.rank_model.specs.Branches.{IsOfRank}
use Rattle.rank_model.specs.Needs.{is_away, itself, asks_of, outer_of, outer_in}
use Rattle.rank_model.specs.Answers.{child_records}
use Rattle.rank_model.specs.Pairs.{PairValue, IsPair, rest_of, still_opened, still_asked, pair_with, child_pairs, weight, weights}
use Rattle.rank_model.proofs.Owners.{first_of_own, covered_own}
use Rattle.rank_model.proofs.Aways.{away_own, leaf_above}
use Rattle.rank_model.proofs.Asks.{asks-empty, asks-shut, outer-empty, opened-empty, opened-shut, outer_sound}
use Rattle.rank_model.proofs.Records.{over_records, record_some, child_record_is, some_record}
use Rattle.rank_model.proofs.Levels.{opened_of_leaf, opened_of_parted, asks_of_leaf, asks_of_parted, outer_of_away, outer_of_parted}

flat_map_map : {X Y Z : Type 0} (f : Y → List Z) (g : X → Y) (xs : List X) → flat_map f (map g xs) ≡ flat_map (λ x. f (g x)) xs
flat_map_map f g [] = refl
flat_map_map {Z = Z} f g (x ∷ xs) = ap (λ (ys : List Z). f (g x) ++ ys) (flat_map_map f g xs)

near_nothing : (xs : List BodyValue) → is_empty xs ≡ true → map Near xs ≡ []
near_nothing [] e = refl
near_nothing (x ∷ xs) e = let f : suc (length xs) ≡ 0 = eqb-true _ _ e in absurd (omega (arith, f))

module _ (opens : CellValue → Bool) (w : World) (me : ℕ) (p : PairValue) (is : IsPair w p) where
  solid : is_empty (bodies_in w p.rec.key) ≡ false
  solid = (record_some w p.rec.key p.rec is.rec).0

  own : p.rec ≡ cell_record w.bodies p.rec.key
  own = (record_some w p.rec.key p.rec is.rec).1

  tested : (t : Bool) → opens p.rec ≡ t → opens (cell_record w.bodies p.rec.key) ≡ t
  tested t h = subst (λ (r : CellValue). opens r ≡ t) own h

  -- not opened: one term, and nothing else
  pub rest_far : p.whole ≡ false → opens p.rec ≡ false → rest_of opens w p ≡ Far p.rec ∷ []
  rest_far n o =
      let e : terms_of opens w.leaf w.bodies p.rec.key ≡ Far p.rec ∷ [] = terms_of_whole opens w.leaf w.bodies p.rec.key solid (tested false o) ∙ ap (λ (r : CellValue). Far r ∷ []) (sym own) in
      rw n e

  -- not opened: no cell may still be opened
  pub opened_far : p.whole ≡ false → opens p.rec ≡ false → still_opened opens w p ≡ []
  opened_far n o = rw n (opened-shut opens w (height p.rec.key) p.rec.key solid (tested false o))

  -- not opened: no cell may still be asked for
  pub asked_far : p.whole ≡ false → opens p.rec ≡ false → still_asked opens w me p ≡ []
  asked_far n o = rw n (asks-shut opens w me (height p.rec.key) p.rec.key solid (tested false o))

  -- an opened leaf: what rests of it whole
  pub rest_leaf : p.whole ≡ false → opens p.rec ≡ true → is_leaf w p.rec.key ≡ true → rest_of opens w p ≡ listed w.bodies p.rec.key
  rest_leaf n o l = rw n (terms_of_leaf opens w.leaf w.bodies p.rec.key is.cell solid (tested true o) l)

  -- an opened leaf: it alone may still be opened
  pub opened_leaf : p.whole ≡ false → opens p.rec ≡ true → is_leaf w p.rec.key ≡ true → still_opened opens w p ≡ p.rec.key ∷ []
  opened_leaf n o l = rw n (opened_of_leaf opens w p.rec.key is.cell solid (tested true o) l)

  -- an opened leaf: its outermost cells of other ranks may still be asked for
  pub asked_leaf : p.whole ≡ false → opens p.rec ≡ true → is_leaf w p.rec.key ≡ true → still_asked opens w me p ≡ outer_of w me p.rec.key
  asked_leaf n o l = rw n (asks_of_leaf opens w me p.rec.key is.cell solid (tested true o) l)

  -- opened and no leaf: what rests of its children
  pub rest_parted : p.whole ≡ false → opens p.rec ≡ true → is_leaf w p.rec.key ≡ false → rest_of opens w p ≡ flat_map (rest_of opens w) (child_pairs w p false)
  rest_parted n o l =
      let e : terms_of opens w.leaf w.bodies p.rec.key ≡ flat_map (rest_of opens w) (child_pairs w p false) =
      terms_of_parted opens w.leaf w.bodies p.rec.key is.cell solid (tested true o) l
      ∙ sym (flat_map_map (rest_of opens w) (pair_with p.body false) (child_records w p.rec.key)
      ∙ over_records w p.rec.key (λ r. rest_of opens w (pair_with p.body false r)) (λ d. terms_of opens w.leaf w.bodies (child p.rec.key d)) (λ d h e. refl) (λ d h e. terms_of_nothing opens w.leaf w.bodies (child p.rec.key d) e)) in
      rw n e

  -- opened and no leaf: itself, and what its child pairs may still open
  pub opened_parted : p.whole ≡ false → opens p.rec ≡ true → is_leaf w p.rec.key ≡ false → still_opened opens w p ≡ p.rec.key ∷ flat_map (still_opened opens w) (child_pairs w p false)
  opened_parted n o l =
      let e : opened_of opens w.leaf w.bodies p.rec.key ≡ p.rec.key ∷ flat_map (still_opened opens w) (child_pairs w p false) =
      opened_of_parted opens w p.rec.key is.cell solid (tested true o) l
      ∙ ap (λ (ks : List ℕ). p.rec.key ∷ ks) (sym (flat_map_map (still_opened opens w) (pair_with p.body false) (child_records w p.rec.key)
      ∙ over_records w p.rec.key (λ r. still_opened opens w (pair_with p.body false r)) (λ d. opened_of opens w.leaf w.bodies (child p.rec.key d)) (λ d h e. refl) (λ d h e. opened-empty opens w (height (child p.rec.key d)) (child p.rec.key d) e))) in
      rw n e

  -- opened and no leaf: itself if it is away, and what its child pairs may still ask for
  pub asked_parted : p.whole ≡ false → opens p.rec ≡ true → is_leaf w p.rec.key ≡ false → still_asked opens w me p ≡ itself w me p.rec.key ++ flat_map (still_asked opens w me) (child_pairs w p false)
  asked_parted n o l =
      let e : asks_of opens w me p.rec.key ≡ itself w me p.rec.key ++ flat_map (still_asked opens w me) (child_pairs w p false) =
      asks_of_parted opens w me p.rec.key is.cell solid (tested true o) l
      ∙ ap (λ (ks : List ℕ). itself w me p.rec.key ++ ks) (sym (flat_map_map (still_asked opens w me) (pair_with p.body false) (child_records w p.rec.key)
      ∙ over_records w p.rec.key (λ r. still_asked opens w me (pair_with p.body false r)) (λ d. asks_of opens w me (child p.rec.key d)) (λ d h e. refl) (λ d h e. asks-empty opens w me (height (child p.rec.key d)) (child p.rec.key d) e))) in
      rw n e

  -- a leaf of several ranks that is to be added whole: its children are
  pub whole_parted : IsGood w → p.whole ≡ true → 0 < height p.rec.key → rest_of opens w p ≡ flat_map (rest_of opens w) (child_pairs w p true)
  whole_parted g n h =
      let i = is.cell in
      let low : suc i.0 ≤ 21 = (let f = height_is p.rec.key i.0 i.1 i.2 in omega (arith, f, h, i.1)) in
      let e : listed w.bodies p.rec.key ≡ flat_map (rest_of opens w) (child_pairs w p true) =
      listed-children w.bodies p.rec.key i.0 low i.2 (rising_in_order w.bodies g.in_order)
      ∙ sym (flat_map_map (rest_of opens w) (pair_with p.body true) (child_records w p.rec.key)
      ∙ over_records w p.rec.key (λ r. rest_of opens w (pair_with p.body true r)) (λ d. listed w.bodies (child p.rec.key d)) (λ d h e. refl) (λ d h e. near_nothing (bodies_in w (child p.rec.key d)) e)) in
      rw n e

  -- to be added whole and not away: what its child pairs to be added whole may still ask for
  pub whole_asked : p.whole ≡ true → 0 < height p.rec.key → is_away w me p.rec.key ≡ false → still_asked opens w me p ≡ flat_map (still_asked opens w me) (child_pairs w p true)
  whole_asked n h a =
      let e : outer_of w me p.rec.key ≡ flat_map (still_asked opens w me) (child_pairs w p true) =
      outer_of_parted w me p.rec.key is.cell h solid a
      ∙ sym (flat_map_map (still_asked opens w me) (pair_with p.body true) (child_records w p.rec.key)
      ∙ over_records w p.rec.key (λ r. still_asked opens w me (pair_with p.body true r)) (λ d. outer_of w me (child p.rec.key d)) (λ d h e. refl) (λ d h e. outer-empty w me (height (child p.rec.key d)) (child p.rec.key d) e)) in
      rw n e

  -- to be added whole and away: itself alone may still be asked for
  pub whole_away : p.whole ≡ true → is_away w me p.rec.key ≡ true → still_asked opens w me p ≡ p.rec.key ∷ []
  whole_away n a = rw n (outer_of_away w me p.rec.key solid a)

-- of a cell whose bodies are all of this rank nothing is asked for
pub outer_own : (w : World) (me deep c : ℕ) → deep ≤ 21 → HasLevel c (21 - deep) → is_empty (bodies_in w c) ≡ false → IsOfRank w me c → outer_in w me deep c ≡ []
outer_own w me deep c h p e a = by_members (outer_in w me deep c) (λ k m. no_member k m)
  where
    by_members : (ks : List ℕ) → ((k : ℕ) → Contains ks k → ⊥) → ks ≡ []
    by_members [] f = refl
    by_members (k ∷ ks) f = absurd (f k (head_has k ks))

    no_member : (k : ℕ) → Contains (outer_in w me deep c) k → ⊥
    no_member k m =
        let s = (outer_sound w me deep c k h p m).0 in
        let lower : IsOfRank w me k = covered_own w me c k (21 - deep, omega arith, p) s.cell s.covered a in
        let o = away_own w me k s.away in
        o.1 (first_of_own w me (bodies_in w k) s.some lower)

-- the children of a leaf are leaves
pub leaf_child : (w : World) (c d : ℕ) → IsCell c → 0 < height c → d < 8 → is_leaf w c ≡ true → is_leaf w (child c d) ≡ true
leaf_child w c d i h k l =
    let f = height_is c i.0 i.1 i.2 in
    let low : suc i.0 ≤ 21 = omega (arith, f, h, i.1) in
    let g : is_leaf w c ≡ leb (length (bodies_in w c)) w.leaf = leaf_above w c i.0 (omega (arith, low)) i.2 in
    let few : length (bodies_in w c) ≤ w.leaf = leb_le (length (bodies_in w c)) w.leaf (sym g ∙ l) in
    let less : length (bodies_in w (child c d)) ≤ length (bodies_in w c) = inside_less_long w.bodies c (child c d) (λ b e. covers-contains c (child c d) b i (child_cell c d i.0 low i.2 k) (child_covers c d i.0 low i.2 k) e) in
    let t : leb (length (bodies_in w (child c d))) w.leaf ≡ true = le-leb _ _ (omega (arith, few, less)) in
    rw t refl
  where
    leb_le : (l m : ℕ) → leb l m ≡ true → l ≤ m
    leb_le l m h =
        elim (cases_lt m l) [
          | inl p ↦ absurd (let e : leb l m ≡ false = lt-leb _ _ p in let f : true ≡ false = sym h ∙ e in cc)
          | inr p ↦ p
        ]

    inside_less_long : (xs : List BodyValue) (j k : ℕ) → ((b : BodyValue) → contains k b ≡ true → contains j b ≡ true) → length (inside xs k) ≤ length (inside xs j)
    inside_less_long [] j k f = omega arith
    inside_less_long (x ∷ xs) j k f = by_tests (contains k x) (contains j x) (f x) (inside xs k) (inside xs j) (inside_less_long xs j k f)
      where
        by_tests : (s t : Bool) → (s ≡ true → t ≡ true) → (ys zs : List BodyValue) → length ys ≤ length zs → length (cond s (x ∷ ys) ys) ≤ length (cond t (x ∷ zs) zs)
        by_tests true true g ys zs l = omega (arith, l)
        by_tests true false g ys zs l = absurd (let e : false ≡ true = g refl in cc)
        by_tests false true g ys zs l = omega (arith, l)
        by_tests false false g ys zs l = l

-- the child pairs of a pair of the world are pairs of the world
pub children_are : (w : World) (p : PairValue) (whole : Bool) → IsPair w p → 0 < height p.rec.key → (whole ≡ true → is_leaf w p.rec.key ≡ true) → All (IsPair w) (child_pairs w p whole)
children_are w p whole is h l = all_members (IsPair w) (child_pairs w p whole) (λ q m. one q m)
  where
    i : IsCell p.rec.key
    i = is.cell

    low : suc i.0 ≤ 21
    low = let f = height_is p.rec.key i.0 i.1 i.2 in omega (arith, f, h, i.1)

    one : (q : PairValue) → Contains (child_pairs w p whole) q → IsPair w q
    one q m =
        let r = has_map (pair_with p.body whole) (child_records w p.rec.key) q m in
        let d = child_record_is w p.rec.key r.0 r.1 in
        let e : is_empty (bodies_in w (child p.rec.key d.0)) ≡ false = full_length (bodies_in w (child p.rec.key d.0)) d.2 in
        let made : IsPair w (pair_with p.body whole (cell_record w.bodies (child p.rec.key d.0))) =
        record {
          cell = child_cell p.rec.key d.0 i.0 low i.2 d.1;
          rec = some_record w (child p.rec.key d.0) e;
          leaf = (λ t. leaf_child w p.rec.key d.0 i h d.1 (l t));
        } in
        subst (IsPair w) (sym (r.2 ∙ ap (pair_with p.body whole) d.3)) made

-- and weigh less together
weights_children : (w : World) (p : PairValue) (whole : Bool) (n : ℕ) → ((d : ℕ) → d < 8 → height (child p.rec.key d) ≡ n) → weights (child_pairs w p whole) ≤ 8 * 9 ^ n
weights_children w p whole n f =
    let s = over digits (λ d m. f d (have_digits d m)) in
    omega (arith, s)
  where
    over : (ds : List ℕ) → ((d : ℕ) → Contains ds d → height (child p.rec.key d) ≡ n) → weights (map (pair_with p.body whole) (flat_map (λ d. option_to_list (record_in w (child p.rec.key d))) ds)) ≤ length ds * 9 ^ n
    over [] g = omega arith
    over (d ∷ ds) g =
        let rest = over ds (λ j m. g j (tail_has d ds j m)) in
        let e = g d (head_has d ds) in
        elim (is_empty (bodies_in w (child p.rec.key d))) as (λ (t : Bool). weights (map (pair_with p.body whole) (option_to_list (if t then None else Some (cell_record w.bodies (child p.rec.key d))) ++ flat_map (λ d. option_to_list (record_in w (child p.rec.key d))) ds)) ≤ suc (length ds) * 9 ^ n) [
          | true ↦ omega (arith, rest)
          | false ↦
              let w9 : 9 ^ height (child p.rec.key d) ≡ 9 ^ n = ap (λ (k : ℕ). 9 ^ k) e in
              omega (arith, rest, w9, sum_by-cons weight (pair_with p.body whole (cell_record w.bodies (child p.rec.key d))) (map (pair_with p.body whole) (flat_map (λ d. option_to_list (record_in w (child p.rec.key d))) ds)))
        ]

-- the child pairs of a pair above the deepest level weigh less together than the pair
pub children_lighter : (w : World) (p : PairValue) (whole : Bool) → IsCell p.rec.key → 0 < height p.rec.key → weights (child_pairs w p whole) < weight p
children_lighter w p whole i h =
    let n = height p.rec.key - 1 in
    let s : height p.rec.key ≡ suc n = omega (arith, h) in
    let low : suc i.0 ≤ 21 = (let f = height_is p.rec.key i.0 i.1 i.2 in omega (arith, f, h, i.1)) in
    let a = weights_children w p whole n (λ d k. let g = height_child p.rec.key d i.0 low i.2 k in omega (arith, s, g)) in
    let b : 9 ^ height p.rec.key ≡ 9 * 9 ^ n = ap (λ (k : ℕ). 9 ^ k) s ∙ pow-succ' 9 n in
    let z : 1 ≤ 9 ^ n = nine_pos n in
    omega (arith, a, b, z)
  where
    nine_pos : (n : ℕ) → 1 ≤ 9 ^ n
    nine_pos zero = omega arith
    nine_pos (suc n) = omega (arith, pow-succ' 9 n, nine_pos n)
