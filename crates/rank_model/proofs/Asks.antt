-- What the walk asks for is what is needed.
use Rattle.std.proofs.Common.{ℕ, zero, suc, ◌≡◌, ◌+◌, ◌-◌, ◌/◌, ◌%◌, ◌^◌, ◌<◌, ◌≤◌, Bool, true, false, leb, List, [], ◌∷◌, ◌++◌, length, flat_map, sym, refl, ap, ◌∙◌, subst, inl, inr, arith}
use Rattle.std.specs.Prelude.{Contains, ◌⊎◌, ◌≢◌, if◌then◌else◌}
use Rattle.std.proofs.Math.Nat.{mod-lt}
use Rattle.std.proofs.lemmas.Bool.{cases_lt}
use Rattle.std.proofs.lemmas.List.Elements.{Contains-append_left, Contains-append_right, Contains-append_cases}
use Rattle.hot_units.specs.Values.{CellValue}
use Rattle.hot_units.specs.Keys.{HasLevel, child, digits, IsCell, covers, parent}
use Rattle.hot_units.proofs.Members.{nil_has, cons_cases, has_flat, have_digits, head_has, flat_has, digits_have, tail_has}
use Rattle.hot_model.specs.Trees.{is_empty, cell_record, opened_in}
use Rattle.hot_model.proofs.Parts.{child-level}
use Rattle.hot_model.proofs.Fronts.{drop_digits, drop_twice, covers_level, covers_front, front_covers, covers-self, covers-trans, parent_of_child, covers-parent, child_cell, child_covers}
use Rattle.hot_model.proofs.Walks.{some_length, full_length}
use Rattle.rank_model.specs.World.{World, bodies_in, is_leaf}
use Rattle.rank_model.specs.Branches.{IsOfRank, HasOther, IsBranch, first_rank, IsTop}
use Rattle.rank_model.specs.Needs.{asks_in, outer_in, itself, is_away}
use Rattle.rank_model.proofs.Owners.{one_or_more, top_has_other, covered_own, first_of_own, above_branch, covering_top, rank_in_own}
use Rattle.rank_model.proofs.Aways.{leaf_deepest, leaf_above, away_own, own_away}

-- whether the recursion ends at a cell with `deep` levels below it
abbrev pub is_last : World → ℕ → ℕ → Bool
is_last w zero c = true
is_last w (suc deep) c = leb (length (bodies_in w c)) w.leaf

-- at a cell with `deep` levels below it the recursion ends exactly where the cell is a leaf
pub last-is-leaf : (w : World) (deep c : ℕ) → deep ≤ 21 → HasLevel c (21 - deep) → is_last w deep c ≡ is_leaf w c
last-is-leaf w zero c h p = sym (leaf_deepest w c (let e : 21 - 0 ≡ 21 = omega arith in subst (λ (n : ℕ). HasLevel c n) e p))
last-is-leaf w (suc deep) c h p = sym (leaf_above w c (21 - suc deep) (omega (arith, h)) p)

-- the four ways of a recursion at a cell
pub data Way (w : World) (opens : CellValue → Bool) (deep c : ℕ) : Type 0 where
  Empty : is_empty (bodies_in w c) ≡ true → Way w opens deep c
  Shut : is_empty (bodies_in w c) ≡ false → opens (cell_record w.bodies c) ≡ false → Way w opens deep c
  Last : is_empty (bodies_in w c) ≡ false → opens (cell_record w.bodies c) ≡ true → is_last w deep c ≡ true → Way w opens deep c
  Parted : is_empty (bodies_in w c) ≡ false → opens (cell_record w.bodies c) ≡ true → is_last w deep c ≡ false → Way w opens deep c

-- a recursion goes one of these ways at every cell
pub way : (w : World) (opens : CellValue → Bool) (deep c : ℕ) → Way w opens deep c
way w opens deep c = by_tests (is_empty (bodies_in w c)) (opens (cell_record w.bodies c)) (is_last w deep c) refl refl refl
  where
    by_tests : (e o l : Bool) → is_empty (bodies_in w c) ≡ e → opens (cell_record w.bodies c) ≡ o → is_last w deep c ≡ l → Way w opens deep c
    by_tests true o l p q r = Empty p
    by_tests false false l p q r = Shut p q
    by_tests false true true p q r = Last p q r
    by_tests false true false p q r = Parted p q r

-- each recursion in each of the ways
pub opened-empty : (opens : CellValue → Bool) (w : World) (deep c : ℕ) → is_empty (bodies_in w c) ≡ true → opened_in opens w.leaf w.bodies deep c ≡ []
unfolding opened_in
opened-empty opens w zero c e = rw e refl
opened-empty opens w (suc deep) c e = rw e refl

-- a cell with bodies that is not opened: nothing in it is opened
pub opened-shut : (opens : CellValue → Bool) (w : World) (deep c : ℕ) → is_empty (bodies_in w c) ≡ false → opens (cell_record w.bodies c) ≡ false → opened_in opens w.leaf w.bodies deep c ≡ []
unfolding opened_in
opened-shut opens w zero c e o = rw (e, o) refl
opened-shut opens w (suc deep) c e o = rw (e, o) refl

-- an opened cell with bodies at which the recursion ends: it alone is opened
pub opened-last : (opens : CellValue → Bool) (w : World) (deep c : ℕ) → is_empty (bodies_in w c) ≡ false → opens (cell_record w.bodies c) ≡ true → is_last w deep c ≡ true → opened_in opens w.leaf w.bodies deep c ≡ c ∷ []
unfolding opened_in
opened-last opens w zero c e o l = rw (e, o) refl
opened-last opens w (suc deep) c e o l = rw (e, o, l) refl

-- an opened cell with bodies at which it goes on: itself, then what is opened in its children
pub opened-parted : (opens : CellValue → Bool) (w : World) (deep c : ℕ) → is_empty (bodies_in w c) ≡ false → opens (cell_record w.bodies c) ≡ true → is_last w (suc deep) c ≡ false → opened_in opens w.leaf w.bodies (suc deep) c ≡ c ∷ flat_map (λ d. opened_in opens w.leaf w.bodies deep (child c d)) digits
unfolding opened_in
opened-parted opens w deep c e o l = rw (e, o, l) refl

-- a cell without bodies: nothing in it is asked for
pub asks-empty : (opens : CellValue → Bool) (w : World) (me deep c : ℕ) → is_empty (bodies_in w c) ≡ true → asks_in opens w me deep c ≡ []
unfolding asks_in
asks-empty opens w me zero c e = rw e refl
asks-empty opens w me (suc deep) c e = rw e refl

-- a cell with bodies that is not opened: nothing in it is asked for
pub asks-shut : (opens : CellValue → Bool) (w : World) (me deep c : ℕ) → is_empty (bodies_in w c) ≡ false → opens (cell_record w.bodies c) ≡ false → asks_in opens w me deep c ≡ []
unfolding asks_in
asks-shut opens w me zero c e o = rw (e, o) refl
asks-shut opens w me (suc deep) c e o = rw (e, o) refl

-- an opened cell with bodies at which it ends: its outermost cells of other ranks
pub asks-last : (opens : CellValue → Bool) (w : World) (me deep c : ℕ) → is_empty (bodies_in w c) ≡ false → opens (cell_record w.bodies c) ≡ true → is_last w deep c ≡ true → asks_in opens w me deep c ≡ outer_in w me deep c
unfolding asks_in
asks-last opens w me zero c e o l = rw (e, o) refl
asks-last opens w me (suc deep) c e o l = rw (e, o, l) refl

-- an opened cell with bodies at which it goes on: itself if it is away, then its children's
pub asks-parted : (opens : CellValue → Bool) (w : World) (me deep c : ℕ) → is_empty (bodies_in w c) ≡ false → opens (cell_record w.bodies c) ≡ true → is_last w (suc deep) c ≡ false → asks_in opens w me (suc deep) c ≡ itself w me c ++ flat_map (λ d. asks_in opens w me deep (child c d)) digits
unfolding asks_in
asks-parted opens w me deep c e o l = rw (e, o, l) refl

-- a cell without bodies: no outermost cells of other ranks
pub outer-empty : (w : World) (me deep c : ℕ) → is_empty (bodies_in w c) ≡ true → outer_in w me deep c ≡ []
unfolding outer_in
outer-empty w me zero c e = rw e refl
outer-empty w me (suc deep) c e = rw e refl

-- a cell with bodies, all of one other rank: it is the one outermost cell in itself
pub outer-away : (w : World) (me deep c : ℕ) → is_empty (bodies_in w c) ≡ false → is_away w me c ≡ true → outer_in w me deep c ≡ c ∷ []
unfolding outer_in
outer-away w me zero c e a = rw (e, a) refl
outer-away w me (suc deep) c e a = rw (e, a) refl

-- a cell with bodies, not all of one other rank, and with no level below it: none
pub outer-deepest : (w : World) (me c : ℕ) → is_empty (bodies_in w c) ≡ false → is_away w me c ≡ false → outer_in w me 0 c ≡ []
unfolding outer_in
outer-deepest w me c e a = rw (e, a) refl

-- a cell with bodies, not all of one other rank, and with levels below it: those of its children
pub outer-parted : (w : World) (me deep c : ℕ) → is_empty (bodies_in w c) ≡ false → is_away w me c ≡ false → outer_in w me (suc deep) c ≡ flat_map (λ d. outer_in w me deep (child c d)) digits
unfolding outer_in
outer-parted w me deep c e a = rw (e, a) refl

-- what is known of a cell of another rank in a cell c
pub record IsAwayIn (w : World) (me c k : ℕ) : Type 0 where
  pub cell : IsCell k
  pub some : 0 < length (bodies_in w k)
  pub away : is_away w me k ≡ true
  pub covered : covers c k ≡ true

-- a cell with bodies, all of one other rank, is such a cell in itself
pub away_in_itself : (w : World) (me c k l : ℕ) → l ≤ 21 → HasLevel c l → is_empty (bodies_in w c) ≡ false → is_away w me c ≡ true → k ≡ c → IsAwayIn w me c k
away_in_itself w me c k l h p e a f =
    subst (IsAwayIn w me c) (sym f) (record { cell = (l, h, p); some = some_length (bodies_in w c) e; away = a; covered = covers-self c l h p })

-- a cell of another rank in a child of a cell is one in the cell
pub away_in_more : (w : World) (me c d k l : ℕ) → suc l ≤ 21 → HasLevel c l → d < 8 → IsAwayIn w me (child c d) k → IsAwayIn w me c k
away_in_more w me c d k l h p m a =
    record { cell = a.cell; some = a.some; away = a.away; covered = covers-trans c (child c d) k (l, omega arith, p) (child_cell c d l h p m) a.cell (child_covers c d l h p m) a.covered }

-- a child of another rank of a cell that is not of one is a branch
pub away_child : (w : World) (me c d l : ℕ) → suc l ≤ 21 → HasLevel c l → d < 8 → is_away w me c ≡ false → 0 < length (bodies_in w c) → 0 < length (bodies_in w (child c d)) → is_away w me (child c d) ≡ true → (q : ℕ) × IsBranch w q (child c d)
away_child w me c d l h p m n s t a =
    let own = away_own w me (child c d) a in
    let i = child_cell c d l h p m in
    elim (one_or_more w c (l, omega arith, p) s) [
      | inl o ↦
          let lower : IsOfRank w o.0 (child c d) = covered_own w o.0 c (child c d) (l, omega arith, p) i (child_covers c d l h p m) o.1 in
          let same : first_rank w (bodies_in w (child c d)) ≡ o.0 = first_of_own w o.0 (bodies_in w (child c d)) t lower in
          let f : is_away w me c ≡ true = own_away w me o.0 c s o.1 (λ e. own.1 (same ∙ e)) in
          absurd (let g : true ≡ false = sym f ∙ n in cc)
      | inr o ↦
          (first_rank w (bodies_in w (child c d)), record { cell = i; some = t; own = own.0; outermost = inr (subst (HasOther w (first_rank w (bodies_in w (child c d)))) (sym (parent_of_child c d m)) (top_has_other w (first_rank w (bodies_in w (child c d))) c o)) })
    ]

-- the member of a list of one is that one
pub one_item : (c k : ℕ) → Contains (c ∷ []) k → k ≡ c
one_item c k h =
    elim (cons_cases c [] k h) [
      | inl e ↦ e
      | inr e ↦ absurd (nil_has k e)
    ]

-- a cell with one level less below it is one level deeper, where there are 21
pub deeper_fits : (deep : ℕ) → suc deep ≤ 21 → suc (21 - suc deep) ≡ 21 - deep
deeper_fits deep h = omega (arith, h)

-- the outermost cells of other ranks: the cell itself, or branches in it
pub outer_sound : (w : World) (me deep c k : ℕ) → deep ≤ 21 → HasLevel c (21 - deep) → Contains (outer_in w me deep c) k → IsAwayIn w me c k × ((k ≡ c) ⊎ ((q : ℕ) × IsBranch w q k))
outer_sound w me zero c k h p m = by_tests (is_empty (bodies_in w c)) (is_away w me c) refl refl
  where
    by_tests : (e a : Bool) → is_empty (bodies_in w c) ≡ e → is_away w me c ≡ a → IsAwayIn w me c k × ((k ≡ c) ⊎ ((q : ℕ) × IsBranch w q k))
    by_tests true a f g = absurd (nil_has k (subst (λ (xs : List ℕ). Contains xs k) (outer-empty w me 0 c f) m))
    by_tests false true f g =
        let e = one_item c k (subst (λ (xs : List ℕ). Contains xs k) (outer-away w me 0 c f g) m) in
        (away_in_itself w me c k 21 (omega arith) p f g e, inl e)
    by_tests false false f g = absurd (nil_has k (subst (λ (xs : List ℕ). Contains xs k) (outer-deepest w me c f g) m))
outer_sound w me (suc deep) c k h p m = by_tests (λ d n. outer_sound w me deep (child c d) k (omega (arith, h)) (subst (λ (z : ℕ). HasLevel (child c d) z) (deeper_fits deep h) (child-level c (21 - suc deep) d p n))) (is_empty (bodies_in w c)) (is_away w me c) refl refl
  where
    by_tests : ((d : ℕ) → d < 8 → Contains (outer_in w me deep (child c d)) k → IsAwayIn w me (child c d) k × ((k ≡ child c d) ⊎ ((q : ℕ) × IsBranch w q k))) → (e a : Bool) → is_empty (bodies_in w c) ≡ e → is_away w me c ≡ a → IsAwayIn w me c k × ((k ≡ c) ⊎ ((q : ℕ) × IsBranch w q k))
    by_tests deeper true a f g = absurd (nil_has k (subst (λ (xs : List ℕ). Contains xs k) (outer-empty w me (suc deep) c f) m))
    by_tests deeper false true f g =
        let e = one_item c k (subst (λ (xs : List ℕ). Contains xs k) (outer-away w me (suc deep) c f g) m) in
        (away_in_itself w me c k (21 - suc deep) (omega arith) p f g e, inl e)
    by_tests deeper false false f g =
        let r = has_flat (λ d. outer_in w me deep (child c d)) digits k (subst (λ (xs : List ℕ). Contains xs k) (outer-parted w me deep c f g) m) in
        let n = have_digits r.0 r.1 in
        let s = deeper r.0 n r.2 in
        let up = away_in_more w me c r.0 k (21 - suc deep) (omega (arith, h)) p n s.0 in
        elim (s.1) [
          | inl e ↦ (
            up,
            inr (
                let b = away_child w me c r.0 (21 - suc deep) (omega (arith, h)) p n g (some_length (bodies_in w c) f) (subst (λ (z : ℕ). 0 < length (bodies_in w z)) e s.0.some) (subst (λ (z : ℕ). is_away w me z ≡ true) e s.0.away) in
                (b.0, subst (IsBranch w b.0) (sym e) b.1)),
          )
          | inr e ↦ (up, inr e)
        ]

-- the way down from a cell to one that it covers
pub path_child : (c k l m : ℕ) → l < m → m ≤ 21 → HasLevel c l → HasLevel k m → covers c k ≡ true → (d : ℕ) × (d < 8) × (covers (child c d) k ≡ true)
path_child c k l m h i p q e =
    let j = k / 8 ^ (m - suc l) in
    let f = covers_front c k l m (omega (arith, h, i)) i p q e in
    let s : (m - suc l) + 1 ≡ m - l = omega (arith, h) in
    let g : j / 8 ≡ c = drop_twice k (m - suc l) 1 ∙ (ap (λ (n : ℕ). k / 8 ^ n) s ∙ f) in
    let t : m ≡ suc l + (m - suc l) = omega (arith, h) in
    let lower : HasLevel j (suc l) = drop_digits k (suc l) (m - suc l) (subst (λ (n : ℕ). HasLevel k n) t q) in
    let whole : j ≡ child c (j % 8) = omega (arith, g) in
    (j % 8, mod-lt j (omega arith), subst (λ (n : ℕ). covers n k ≡ true) whole (front_covers j k (suc l) m (omega (arith, h)) i lower q refl))

-- a cell that properly covers a branch is a top cell
pub above_top : (w : World) (q c k l m : ℕ) → l < m → m ≤ 21 → HasLevel c l → HasLevel k m → IsBranch w q k → covers c k ≡ true → IsTop w c
above_top w q c k l zero h i p r b e = absurd (omega (arith, h))
above_top w q c k l (suc m) h i p r b e =
    covering_top w c (parent k) (l, omega (arith, h, i), p) (covers-parent c k l m (omega (arith, h)) i p r e) (above_branch w q k m i r b)

-- a top cell is of no one rank
pub top_not_away : (w : World) (me c : ℕ) → IsTop w c → is_away w me c ≡ false
top_not_away w me c t = by_test (is_away w me c) refl
  where
    by_test : (a : Bool) → is_away w me c ≡ a → is_away w me c ≡ false
    by_test false e = e
    by_test true e =
        let own = away_own w me c e in
        absurd (t.differ (rank_in_own w (first_rank w (bodies_in w c)) c t.one own.0 t.has_one ∙ sym (rank_in_own w (first_rank w (bodies_in w c)) c t.other own.0 t.has_other)))

-- each branch of another rank that a cell covers is an outermost cell in it
pub outer_complete : (w : World) (me q deep c k : ℕ) → deep ≤ 21 → HasLevel c (21 - deep) → IsBranch w q k → q ≢ me → covers c k ≡ true → Contains (outer_in w me deep c) k
outer_complete w me q zero c k h p b n e =
    let i = b.cell in
    let lower = covers_level c k 21 i.0 (omega arith) i.1 p i.2 e in
    let z : i.0 ≡ 21 = omega (arith, lower, i.1) in
    let f = covers_front c k 21 i.0 (omega arith) i.1 p i.2 e in
    let zz : i.0 - 21 ≡ 0 = omega (arith, z) in
    let g : k / 8 ^ 0 ≡ c = ap (λ (n : ℕ). k / 8 ^ n) (sym zz) ∙ f in
    let same : k ≡ c = omega (arith, g) in
    let a : is_away w me k ≡ true = own_away w me q k b.some b.own n in
    subst (λ (x : ℕ). Contains (outer_in w me 0 x) k) same
    (subst (λ (xs : List ℕ). Contains xs k) (sym (outer-away w me 0 k (full_length (bodies_in w k) b.some) a)) (head_has k []))
outer_complete w me q (suc deep) c k h p b n e =
    let i = b.cell in
    let l = 21 - suc deep in
    let deeper : (d : ℕ) → d < 8 → covers (child c d) k ≡ true → Contains (outer_in w me deep (child c d)) k =
    λ d m f. outer_complete w me q deep (child c d) k (omega (arith, h)) (subst (λ (z : ℕ). HasLevel (child c d) z) (deeper_fits deep h) (child-level c l d p m)) b n f in
    elim (cases_lt l i.0) [
      | inl m ↦ below_case m deeper
      | inr m ↦
          let lower = covers_level c k l i.0 (omega arith) i.1 p i.2 e in
          let zz : i.0 - l ≡ 0 = omega (arith, m) in
          let f = covers_front c k l i.0 (omega arith) i.1 p i.2 e in
          let g : k / 8 ^ 0 ≡ c = ap (λ (n : ℕ). k / 8 ^ n) (sym zz) ∙ f in
          let same : k ≡ c = omega (arith, g) in
          let a : is_away w me k ≡ true = own_away w me q k b.some b.own n in
          subst (λ (x : ℕ). Contains (outer_in w me (suc deep) x) k) same
          (subst (λ (xs : List ℕ). Contains xs k) (sym (outer-away w me (suc deep) k (full_length (bodies_in w k) b.some) a)) (head_has k []))
    ]
  where
    below_case : 21 - suc deep < b.cell.0 → ((d : ℕ) → d < 8 → covers (child c d) k ≡ true → Contains (outer_in w me deep (child c d)) k) → Contains (outer_in w me (suc deep) c) k
    below_case m deeper =
        let i = b.cell in
        let l = 21 - suc deep in
        let top : IsTop w c = above_top w q c k l i.0 m i.1 p i.2 b e in
        let o = top_has_other w (first_rank w (bodies_in w c)) c top in
        let f : is_empty (bodies_in w c) ≡ false = full_length (bodies_in w c) (omega (arith, o.1.1)) in
        let g : is_away w me c ≡ false = top_not_away w me c top in
        let r = path_child c k l i.0 m i.1 p i.2 e in
        subst (λ (xs : List ℕ). Contains xs k) (sym (outer-parted w me deep c f g))
        (flat_has (λ d. outer_in w me deep (child c d)) digits r.0 k (digits_have r.0 r.1) (deeper r.0 r.1 r.2))

-- a cell itself, or a cell that is found in a child
abbrev pub Found : (ℕ → List ℕ) → ℕ → Type 0
Found f k = (d : ℕ) × (d < 8) × Contains (f d) k

found_in : (f : ℕ → List ℕ) (k : ℕ) → Contains (flat_map f digits) k → Found f k
found_in f k h = let r = has_flat f digits k h in (r.0, have_digits r.0 r.1, r.2)

in_found : (f : ℕ → List ℕ) (k : ℕ) → Found f k → Contains (flat_map f digits) k
in_found f k h = flat_has f digits h.0 k (digits_have h.0 h.1) h.2

-- the cells that are opened in the child by the digit d
abbrev pub opened_child : (CellValue → Bool) → World → ℕ → ℕ → ℕ → List ℕ
opened_child opens w deep c d = opened_in opens w.leaf w.bodies deep (child c d)

-- the cells that are asked for in the child by the digit d
abbrev pub asks_child : (CellValue → Bool) → World → ℕ → ℕ → ℕ → ℕ → List ℕ
asks_child opens w me deep c d = asks_in opens w me deep (child c d)

-- what is opened in a cell: itself where the recursion does not stop before, and what is opened in its children
pub opened_found : (opens : CellValue → Bool) (w : World) (deep c k : ℕ) → Contains (opened_in opens w.leaf w.bodies deep c) k
    → (is_empty (bodies_in w c) ≡ false) × (opens (cell_record w.bodies c) ≡ true)
    × ((k ≡ c) ⊎ ((is_last w deep c ≡ false) × ((n : ℕ) × (deep ≡ suc n) × Found (opened_child opens w n c) k)))
opened_found opens w zero c k m =
    elim (way w opens zero c) [
      | Empty e ↦ absurd (nil_has k (subst (λ (xs : List ℕ). Contains xs k) (opened-empty opens w zero c e) m))
      | Shut e o ↦ absurd (nil_has k (subst (λ (xs : List ℕ). Contains xs k) (opened-shut opens w zero c e o) m))
      | Last e o l ↦ (e, o, inl (one_item c k (subst (λ (xs : List ℕ). Contains xs k) (opened-last opens w zero c e o l) m)))
      | Parted e o l ↦ absurd (let f : true ≡ false = l in cc)
    ]
opened_found opens w (suc deep) c k m =
    elim (way w opens (suc deep) c) [
      | Empty e ↦ absurd (nil_has k (subst (λ (xs : List ℕ). Contains xs k) (opened-empty opens w (suc deep) c e) m))
      | Shut e o ↦ absurd (nil_has k (subst (λ (xs : List ℕ). Contains xs k) (opened-shut opens w (suc deep) c e o) m))
      | Last e o l ↦ (e, o, inl (one_item c k (subst (λ (xs : List ℕ). Contains xs k) (opened-last opens w (suc deep) c e o l) m)))
      | Parted e o l ↦ (
        e,
        o,
        elim (cons_cases c (flat_map (opened_child opens w deep c) digits) k (subst (λ (xs : List ℕ). Contains xs k) (opened-parted opens w deep c e o l) m)) [
          | inl f ↦ inl f
          | inr f ↦ inr (l, (deep, refl, found_in (opened_child opens w deep c) k f))
        ],
      )
    ]

-- an opened cell with bodies is among those opened in it
pub opened_itself : (opens : CellValue → Bool) (w : World) (deep c : ℕ) → is_empty (bodies_in w c) ≡ false → opens (cell_record w.bodies c) ≡ true → Contains (opened_in opens w.leaf w.bodies deep c) c
opened_itself opens w zero c e o = subst (λ (xs : List ℕ). Contains xs c) (sym (opened-last opens w zero c e o refl)) (head_has c [])
opened_itself opens w (suc deep) c e o = by_test (is_last w (suc deep) c) refl
  where
    by_test : (l : Bool) → is_last w (suc deep) c ≡ l → Contains (opened_in opens w.leaf w.bodies (suc deep) c) c
    by_test true f = subst (λ (xs : List ℕ). Contains xs c) (sym (opened-last opens w (suc deep) c e o f)) (head_has c [])
    by_test false f = subst (λ (xs : List ℕ). Contains xs c) (sym (opened-parted opens w deep c e o f)) (head_has c (flat_map (opened_child opens w deep c) digits))

-- what is opened in a child of an opened cell that is parted is opened in the cell
pub opened_deeper : (opens : CellValue → Bool) (w : World) (deep c k : ℕ) → is_empty (bodies_in w c) ≡ false → opens (cell_record w.bodies c) ≡ true → is_last w (suc deep) c ≡ false → Found (opened_child opens w deep c) k → Contains (opened_in opens w.leaf w.bodies (suc deep) c) k
opened_deeper opens w deep c k e o l f =
    subst (λ (xs : List ℕ). Contains xs k) (sym (opened-parted opens w deep c e o l))
    (tail_has c (flat_map (opened_child opens w deep c) digits) k (in_found (opened_child opens w deep c) k f))

-- what is asked for in a cell
pub asks_deeper : (opens : CellValue → Bool) (w : World) (me deep c k : ℕ) → is_empty (bodies_in w c) ≡ false → opens (cell_record w.bodies c) ≡ true → is_last w (suc deep) c ≡ false → Found (asks_child opens w me deep c) k → Contains (asks_in opens w me (suc deep) c) k
asks_deeper opens w me deep c k e o l f =
    subst (λ (xs : List ℕ). Contains xs k) (sym (asks-parted opens w me deep c e o l))
    (Contains-append_right (itself w me c) (flat_map (asks_child opens w me deep c) digits) k (in_found (asks_child opens w me deep c) k f))

itself_has : (w : World) (me c k : ℕ) → Contains (itself w me c) k → (k ≡ c) × (is_away w me c ≡ true)
itself_has w me c k h = by_test (is_away w me c) refl h
  where
    by_test : (a : Bool) → is_away w me c ≡ a → Contains (if a then c ∷ [] else []) k → (k ≡ c) × (is_away w me c ≡ true)
    by_test true e g = (one_item c k g, e)
    by_test false e g = absurd (nil_has k g)

has_itself : (w : World) (me c : ℕ) → is_away w me c ≡ true → Contains (itself w me c) c
has_itself w me c a = rw a (head_has c [])

-- an opened cell with bodies, all of one other rank, is asked for
pub asks_itself : (opens : CellValue → Bool) (w : World) (me deep c : ℕ) → is_empty (bodies_in w c) ≡ false → opens (cell_record w.bodies c) ≡ true → is_away w me c ≡ true → Contains (asks_in opens w me deep c) c
asks_itself opens w me zero c e o a = subst (λ (xs : List ℕ). Contains xs c) (sym (asks-last opens w me zero c e o refl ∙ outer-away w me zero c e a)) (head_has c [])
asks_itself opens w me (suc deep) c e o a = by_test (is_last w (suc deep) c) refl
  where
    by_test : (l : Bool) → is_last w (suc deep) c ≡ l → Contains (asks_in opens w me (suc deep) c) c
    by_test true f = subst (λ (xs : List ℕ). Contains xs c) (sym (asks-last opens w me (suc deep) c e o f ∙ outer-away w me (suc deep) c e a)) (head_has c [])
    by_test false f =
        subst (λ (xs : List ℕ). Contains xs c) (sym (asks-parted opens w me deep c e o f))
        (Contains-append_left (itself w me c) (flat_map (asks_child opens w me deep c) digits) c (has_itself w me c a))

-- why a cell is asked for, at a cell c
pub data AskedAt (opens : CellValue → Bool) (w : World) (me deep c k : ℕ) : Type 0 where
  AskedLast : is_last w deep c ≡ true → Contains (outer_in w me deep c) k → AskedAt opens w me deep c k
  AskedHere : k ≡ c → is_away w me c ≡ true → AskedAt opens w me deep c k
  AskedBelow : (n : ℕ) → deep ≡ suc n → is_last w deep c ≡ false → Found (asks_child opens w me n c) k → AskedAt opens w me deep c k

-- where a cell is asked for at c, c has bodies, is opened, and one of these is why
pub asks_found : (opens : CellValue → Bool) (w : World) (me deep c k : ℕ) → Contains (asks_in opens w me deep c) k
    → (is_empty (bodies_in w c) ≡ false) × (opens (cell_record w.bodies c) ≡ true) × AskedAt opens w me deep c k
asks_found opens w me zero c k m =
    elim (way w opens zero c) [
      | Empty e ↦ absurd (nil_has k (subst (λ (xs : List ℕ). Contains xs k) (asks-empty opens w me zero c e) m))
      | Shut e o ↦ absurd (nil_has k (subst (λ (xs : List ℕ). Contains xs k) (asks-shut opens w me zero c e o) m))
      | Last e o l ↦ (e, o, AskedLast l (subst (λ (xs : List ℕ). Contains xs k) (asks-last opens w me zero c e o l) m))
      | Parted e o l ↦ absurd (let f : true ≡ false = l in cc)
    ]
asks_found opens w me (suc deep) c k m =
    elim (way w opens (suc deep) c) [
      | Empty e ↦ absurd (nil_has k (subst (λ (xs : List ℕ). Contains xs k) (asks-empty opens w me (suc deep) c e) m))
      | Shut e o ↦ absurd (nil_has k (subst (λ (xs : List ℕ). Contains xs k) (asks-shut opens w me (suc deep) c e o) m))
      | Last e o l ↦ (e, o, AskedLast l (subst (λ (xs : List ℕ). Contains xs k) (asks-last opens w me (suc deep) c e o l) m))
      | Parted e o l ↦ (
        e,
        o,
        elim (Contains-append_cases (itself w me c) (flat_map (asks_child opens w me deep c) digits) k (subst (λ (xs : List ℕ). Contains xs k) (asks-parted opens w me deep c e o l) m)) [
          | inl f ↦ let r = itself_has w me c k f in AskedHere r.0 r.1
          | inr f ↦ AskedBelow deep refl l (found_in (asks_child opens w me deep c) k f)
        ],
      )
    ]
