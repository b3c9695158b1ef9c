-- Results that are moved to the rows of their bodies, one swap after another.
use Rattle.std.proofs.Common.{◌≡◌, ◌≢◌, ℕ, zero, suc, ◌+◌, ◌-◌, ◌<◌, ◌≤◌, true, false, eqb, List, [], ◌∷◌, length, map, get_or, set, All, refl, sym, ap, subst, ◌∙◌, arith, inl, inr, if◌then◌else◌}
use Rattle.std.specs.List.{SwappedAt}
use Rattle.std.proofs.lemmas.Bool.{cases_eq, eq-eqb, ne_eqb}
use Rattle.std.proofs.lemmas.List.{get_or-set_same, get_or-set_other, get_or_default, length-set, get_or-map, length-map}
use Rattle.hot_units.specs.Values.{BodyValue}
use Rattle.hot_units.specs.Bodies.{RowsDiffer}
use Rattle.rank_set.specs.Places.{ArePlaced}

-- the result of each body stands beside its row, the rows differ, and those below `place` stand at their own places
pub record Settling {A : Type 0} (bodies : List BodyValue) (results : List A) (rows : List ℕ) (placed : List A) (place : ℕ) : Type 0 where
  pub rows_long : length rows ≡ length bodies
  pub placed_long : length placed ≡ length bodies
  pub there : (k : ℕ) (b : BodyValue) → k < length bodies → (i : ℕ) × (i < length bodies) × (get_or rows i 0 ≡ (get_or bodies k b).row) × ((d : A) → get_or placed i d ≡ get_or results k d)
  pub within : (i : ℕ) → i < length bodies → get_or rows i 0 < length bodies
  pub differ : (i j : ℕ) → i < length bodies → j < length bodies → get_or rows i 0 ≡ get_or rows j 0 → i ≡ j
  pub settled : (i : ℕ) → i < place → get_or rows i 0 ≡ i

-- a body, for places past the last
nobody : BodyValue
nobody = record { x = 0; y = 0; z = 0; mass = 0; row = 0 }

-- 1 where the row is not its place
abbrev wrong : ℕ → ℕ → ℕ
wrong i row = if eqb row i then 0 else 1

-- how many rows, from place i on, are not at their places
abbrev pub astray : ℕ → List ℕ → ℕ
astray i [] = 0
astray i (row ∷ rows) = wrong i row + astray (suc i) rows

-- what is left to do: places to pass, and rows that are not at theirs
abbrev pub left_to_place : ℕ → List ℕ → ℕ
left_to_place place rows = (length rows - place) + astray 0 rows

wrong-at : (i row : ℕ) → row ≡ i → wrong i row ≡ 0
wrong-at i row e = rw (eq-eqb _ _ e) refl

wrong-off : (i row : ℕ) → (row ≡ i → ⊥) → wrong i row ≡ 1
wrong-off i row n = rw (ne_eqb _ _ n) refl

wrong-most : (i row : ℕ) → wrong i row ≤ 1
wrong-most i row = elim (cases_eq row i) [
  | inl e ↦ omega (arith, wrong-at i row e)
  | inr n ↦ omega (arith, wrong-off i row n)
]

-- a row that is written changes the count at its place alone
astray-set : (i k j : ℕ) (rows : List ℕ) (row : ℕ) → j ≡ i + k → k < length rows → astray i (set rows k row) + wrong j (get_or rows k 0) ≡ astray i rows + wrong j row
astray-set i k j [] row e h = absurd (omega (arith, h))
astray-set i zero j (r ∷ rows) row e h =
    let at : wrong j (get_or (r ∷ rows) 0 0) ≡ wrong i r = ap (λ (n : ℕ). wrong n r) (omega (arith, e)) in
    let new : wrong j row ≡ wrong i row = ap (λ (n : ℕ). wrong n row) (omega (arith, e)) in
    let was : astray i (r ∷ rows) ≡ wrong i r + astray (suc i) rows = refl in
    let is : astray i (set (r ∷ rows) 0 row) ≡ wrong i row + astray (suc i) rows = refl in
    omega (arith, at, new, was, is)
astray-set i (suc k) j (r ∷ rows) row e h =
    let rest = astray-set (suc i) k j rows row (omega (arith, e)) (omega (arith, h)) in
    let at : wrong j (get_or (r ∷ rows) (suc k) 0) ≡ wrong j (get_or rows k 0) = refl in
    let was : astray i (r ∷ rows) ≡ wrong i r + astray (suc i) rows = refl in
    let is : astray i (set (r ∷ rows) (suc k) row) ≡ wrong i r + astray (suc i) (set rows k row) = refl in
    omega (arith, rest, at, was, is)

-- the row of a place is moved to its own place
module _ {A : Type 0} (bodies : List BodyValue) (results : List A) (rows : List ℕ) (placed : List A) (place row : ℕ)
    (before : Settling bodies results rows placed place) (below : place < length bodies) (is : get_or rows place 0 ≡ row) (off : row ≡ place → ⊥) where
  row_in : row < length bodies
  row_in = let w = before.within place below in omega (arith, w, is)

  -- that place had another row
  not_there : get_or rows row 0 ≡ row → ⊥
  not_there e = off (before.differ row place row_in below (e ∙ sym is))

  module _ (rows' : List ℕ) (placed' : List A) (r : SwappedAt rows rows' place row) (p : SwappedAt placed placed' place row) (long : length rows' ≡ length rows) (wide : length placed' ≡ length placed) where
    -- after the swap fewer rows are not at their places
    pub fewer : astray 0 rows' < astray 0 rows
    fewer =
        let middle = set rows place (get_or rows row 0) in
        let one = astray-set 0 place place rows (get_or rows row 0) (omega arith) (let l = before.rows_long in omega (arith, below, l)) in
        let two = astray-set 0 row row middle (get_or rows place 0) (omega arith) (let l = before.rows_long in let m = length-set rows place (get_or rows row 0) in let i = row_in in omega (arith, l, m, i)) in
        let was : wrong place (get_or rows place 0) ≡ 1 = wrong-off place _ (λ e. off (sym is ∙ e)) in
        let kept : get_or middle row 0 ≡ get_or rows row 0 = get_or-set_other rows place row (get_or rows row 0) 0 off in
        let there : wrong row (get_or middle row 0) ≡ 1 = wrong-off row _ (λ e. not_there (sym kept ∙ e)) in
        let home : wrong row (get_or rows place 0) ≡ 0 = wrong-at row _ is in
        let most = wrong-most place (get_or rows row 0) in
        let all : rows' ≡ set middle row (get_or rows place 0) = r.3 0 in
        let count = ap (astray 0) all in
        omega (arith, one, two, was, there, home, most, count)

    -- where a row and its result went
    abbrev went : ℕ → ℕ
    went i = if eqb i place then row else (if eqb i row then place else i)

    went-place : (i : ℕ) → i ≡ place → went i ≡ row
    went-place i e = rw (eq-eqb _ _ e) refl

    went-row : (i : ℕ) → i ≡ row → went i ≡ place
    went-row i e = rw (ne_eqb _ _ (λ p. off (sym e ∙ p)), eq-eqb _ _ e) refl

    went-else : (i : ℕ) → (i ≡ place → ⊥) → (i ≡ row → ⊥) → went i ≡ i
    went-else i n m = rw (ne_eqb _ _ n, ne_eqb _ _ m) refl

    -- what stands at a place now stood there before, or at the other of the two
    came : (i : ℕ) → i < length bodies → (o : ℕ) × (o < length bodies) × (get_or rows' i 0 ≡ get_or rows o 0) × (went o ≡ i)
    came i h = elim (cases_eq i place) [
      | inl e ↦ (row, row_in, ap (λ (k : ℕ). get_or rows' k 0) e ∙ r.0 0, went-row row refl ∙ sym e)
      | inr n ↦ elim (cases_eq i row) [
        | inl e ↦ (place, below, ap (λ (k : ℕ). get_or rows' k 0) e ∙ r.1 0, went-place place refl ∙ sym e)
        | inr m ↦ (i, h, r.2 i 0 n m, went-else i n m)
      ]
    ]

    -- after the swap each result still stands beside its row
    pub swapped : Settling bodies results rows' placed' place
    swapped = record {
      rows_long = long ∙ before.rows_long;
      placed_long = wide ∙ before.placed_long;
      there = λ k b h. (
          let t = before.there k b h in
          elim (cases_eq t.0 place) [
            | inl e ↦ (row, row_in, r.1 0 ∙ sym (ap (λ (j : ℕ). get_or rows j 0) e) ∙ t.2, λ d. p.1 d ∙ sym (ap (λ (j : ℕ). get_or placed j d) e) ∙ t.3 d)
            | inr n ↦ elim (cases_eq t.0 row) [
              | inl e ↦ (place, below, r.0 0 ∙ sym (ap (λ (j : ℕ). get_or rows j 0) e) ∙ t.2, λ d. p.0 d ∙ sym (ap (λ (j : ℕ). get_or placed j d) e) ∙ t.3 d)
              | inr m ↦ (t.0, t.1, r.2 t.0 0 n m ∙ t.2, λ d. p.2 t.0 d n m ∙ t.3 d)
            ]
          ]);
      within = λ i h. (let c = came i h in let w = before.within c.0 c.1 in let e = c.2 in omega (arith, w, e));
      differ = λ i j h k e. (
          let a = came i h in let b = came j k in
          let same : a.0 ≡ b.0 = before.differ a.0 b.0 a.1 b.1 (sym a.2 ∙ e ∙ b.2) in
          sym a.3 ∙ ap went same ∙ b.3);
      settled = λ i h. (
          let n : i ≡ place → ⊥ = λ e. omega (arith, h, e) in
          let m : i ≡ row → ⊥ = λ e. not_there (ap (λ (j : ℕ). get_or rows j 0) (sym e) ∙ before.settled i h ∙ e) in
          r.2 i 0 n m ∙ before.settled i h);
    }

-- nothing was moved yet
pub begins : {A : Type 0} (bodies : List BodyValue) (results placed : List A) (rows : List ℕ) → length bodies ≡ length results → RowsDiffer bodies → All (λ b. b.row < length bodies) bodies
    → rows ≡ map (λ b. b.row) bodies → placed ≡ results → Settling bodies results rows placed 0
begins bodies results placed rows paired differ inside e same =
    let at : (i : ℕ) (b : BodyValue) → i < length bodies → get_or rows i 0 ≡ (get_or bodies i b).row =
    λ i b h. ap (λ (l : List ℕ). get_or l i 0) e ∙ get_or-map (λ b. b.row) bodies i b 0 h in
    record {
      rows_long = ap length e ∙ length-map bodies (λ b. b.row);
      placed_long = ap length same ∙ sym paired;
      there = λ k b h. (k, h, at k b h, λ d. ap (λ l. get_or l k d) same);
      within = λ i h. (let r = at i nobody h in let w = inside i nobody h in omega (arith, r, w));
      differ = λ i j h k q. differ i j nobody h k (sym (at i nobody h) ∙ q ∙ at j nobody k);
      settled = λ i h. absurd (omega (arith, h));
    }

-- once all places were passed, each result is at the row of its body
pub settles : {A : Type 0} (bodies : List BodyValue) (results : List A) (rows : List ℕ) (placed : List A) (place : ℕ) → Settling bodies results rows placed place → length rows ≤ place → ArePlaced bodies results placed
settles bodies results rows placed place end over = record {
  all = end.placed_long;
  at = λ k b d h. (
      let t = end.there k b h in
      let l = end.rows_long in
      let home : get_or rows t.0 0 ≡ t.0 = end.settled t.0 (let i = t.1 in omega (arith, i, l, over)) in
      ap (λ (j : ℕ). get_or placed j d) (sym t.2 ∙ home) ∙ t.3 d);
}
