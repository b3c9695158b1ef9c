-- What the terms of a walk leave: the rows of all neighbours.
use Rattle.std.proofs.Common.{ℕ, zero, suc, ◌≡◌, ◌+◌, ◌-◌, ◌<◌, ◌≤◌, Bool, true, false, cond, eqb, leb, List, [], ◌∷◌, length, map, filter, flat_map, fold, sum_by, sym, refl, ap, ◌∙◌, subst, arith}
use Rattle.std.specs.Prelude.{All, Contains}
use Rattle.std.proofs.lemmas.List.Sums.{sum_by-cons}
use Rattle.std.proofs.lemmas.List.Elements.{All-contains}
use Rattle.hot_units.specs.Values.{BodyValue, CellValue}
use Rattle.hot_units.specs.Keys.{IsCell, HasLevel, digits, child}
use Rattle.hot_units.specs.Bodies.{IsBody, mass_of}
use Rattle.hot_units.proofs.Members.{head_has, tail_has}
use Rattle.hot_units.proofs.Sorts.{sum_flat, sum_map, sum_filter}
use Rattle.hot_model.specs.Trees.{inside, cell_record, is_empty, Term, Far, Near, mass_of_term, listed, terms_in, terms, added, fold_of}
use Rattle.hot_model.proofs.Parts.{children_share, child-level, inside-root, has_inside}
use Rattle.hot_model.proofs.Ties.{at_cell_cases, nil-is_empty, mass-all_terms, ap2}
use Rattle.near_walk.specs.Ascending.{ascending}
use Rattle.near_walk.specs.Near.{is_neighbour, near_opens, near_rows, near_value, rows_after, near_adds, near_nothing}
use Rattle.near_walk.proofs.Insertions.{times, same_times}
use Rattle.near_walk.proofs.Gaps.{none-near}

-- a list of rows after a term, as they come
abbrev gather : ℕ → BodyValue → List ℕ → Term → List ℕ
gather radius b rows (Far c) = rows
gather radius b rows (Near o) = cond (is_neighbour radius b o) (o.row ∷ rows) rows

-- a term's value: none of a cell, and f of a body
abbrev term_value : (BodyValue → ℕ) → Term → ℕ
term_value f (Far c) = 0
term_value f (Near o) = f o

-- 1 for a neighbour of this row
abbrev counted : ℕ → BodyValue → ℕ → BodyValue → ℕ
counted radius b row o = cond (is_neighbour radius b o) (cond (eqb o.row row) 1 0) 0

-- the rows in order after a term are those that came, in order
rows-gather : (radius : ℕ) (b : BodyValue) (rows : List ℕ) (t : Term) → rows_after radius b (ascending rows) t ≡ ascending (gather radius b rows t)
unfolding ascending
rows-gather radius b rows (Far c) = refl
rows-gather radius b rows (Near o) = elim (is_neighbour radius b o) as (λ (t : Bool). cond t (ascending (o.row ∷ rows)) (ascending rows) ≡ ascending (cond t (o.row ∷ rows) rows)) [
  | true ↦ refl
  | false ↦ refl
]

-- the terms added are the mass of all, and the rows that came, in order
added-gathers : (radius : ℕ) (b : BodyValue) (seen : ℕ) (rows : List ℕ) (ts : List Term) → added (near_adds radius b) (near_value seen (ascending rows)) ts ≡ near_value (seen + sum_by mass_of_term ts) (ascending (fold (gather radius b) rows ts))
added-gathers radius b seen rows [] = ap2 near_value (omega arith) refl
added-gathers radius b seen rows (t ∷ ts) =
    ap (λ (r : List ℕ). added (near_adds radius b) (near_value (seen + mass_of_term t) r) ts) (rows-gather radius b rows t)
    ∙ (added-gathers radius b (seen + mass_of_term t) (gather radius b rows t) ts
    ∙ ap2 near_value (omega (arith, sum_by-cons mass_of_term t ts)) refl)

-- how often a row came after one more term
times-gather : (radius : ℕ) (b : BodyValue) (row : ℕ) (rows : List ℕ) (t : Term) → times row (gather radius b rows t) ≡ times row rows + term_value (counted radius b row) t
times-gather radius b row rows (Far c) = omega arith
times-gather radius b row rows (Near o) = elim (is_neighbour radius b o) as (λ (t : Bool). times row (cond t (o.row ∷ rows) rows) ≡ times row rows + cond t (cond (eqb o.row row) 1 0) 0) [
  | true ↦ omega (arith, sum_by-cons (λ n. cond (eqb n row) 1 0) o.row rows)
  | false ↦ omega arith
]

-- how often a row came after some terms
times-gathered : (radius : ℕ) (b : BodyValue) (row : ℕ) (rows : List ℕ) (ts : List Term) → times row (fold (gather radius b) rows ts) ≡ times row rows + sum_by (term_value (counted radius b row)) ts
times-gathered radius b row rows [] = omega arith
times-gathered radius b row rows (t ∷ ts) =
    omega (arith, times-gathered radius b row (gather radius b rows t) ts, times-gather radius b row rows t, sum_by-cons (term_value (counted radius b row)) t ts)

-- a sum over bodies each of which counts nothing
sum-nothing : (f : BodyValue → ℕ) (xs : List BodyValue) → ((o : BodyValue) → Contains xs o → f o ≡ 0) → sum_by f xs ≡ 0
sum-nothing f [] h = refl
sum-nothing f (x ∷ xs) h = omega (arith, sum_by-cons f x xs, h x (head_has x xs), sum-nothing f xs (λ o m. h o (tail_has x xs o m)))

-- where the bodies of cells that are not opened count nothing, the terms of a cell count what its bodies do
sum-terms : (f : BodyValue → ℕ) (opens : CellValue → Bool) (leaf : ℕ) (bodies : List BodyValue) → ((c : ℕ) → IsCell c → opens (cell_record bodies c) ≡ false → sum_by f (inside bodies c) ≡ 0) → (deep c : ℕ) → deep ≤ 21 → HasLevel c (21 - deep) → sum_by (term_value f) (terms_in opens leaf bodies deep c) ≡ sum_by f (inside bodies c)
unfolding terms_in
sum-terms f opens leaf bodies shut zero c h k =
    at_cell_cases (λ ts. sum_by (term_value f) ts ≡ sum_by f (inside bodies c)) (is_empty (inside bodies c)) (opens (cell_record bodies c)) true
    [] (Far (cell_record bodies c) ∷ []) (listed bodies c) []
    (λ e. sym (ap (sum_by f) (nil-is_empty (inside bodies c) e)))
    (λ _ o. sym (shut c (21, omega arith, k) o))
    (λ _ _ _. sum_map (term_value f) Near (inside bodies c))
    (λ _ _ e. cc)
sum-terms f opens leaf bodies shut (suc deep) c h k =
    let l = 21 - suc deep in
    let s : suc l ≡ 21 - deep = omega arith in
    let deeper : (d : ℕ) → d < 8 → sum_by (term_value f) (terms_in opens leaf bodies deep (child c d)) ≡ sum_by f (inside bodies (child c d)) =
    λ d m. sum-terms f opens leaf bodies shut deep (child c d) (omega arith) (subst (λ (n : ℕ). HasLevel (child c d) n) s (child-level c l d k m)) in
    let parted = flat_map (λ d. terms_in opens leaf bodies deep (child c d)) digits in
    at_cell_cases (λ ts. sum_by (term_value f) ts ≡ sum_by f (inside bodies c)) (is_empty (inside bodies c)) (opens (cell_record bodies c)) (leb (length (inside bodies c)) leaf)
    [] (Far (cell_record bodies c) ∷ []) (listed bodies c) parted
    (λ e. sym (ap (sum_by f) (nil-is_empty (inside bodies c) e)))
    (λ _ o. sym (shut c (l, omega arith, k) o))
    (λ _ _ _. sum_map (term_value f) Near (inside bodies c))
    (λ _ _ _. sum_flat (term_value f) (λ d. terms_in opens leaf bodies deep (child c d)) digits ∙ omega (arith, deeper 0 (omega arith), deeper 1 (omega arith), deeper 2 (omega arith), deeper 3 (omega arith), deeper 4 (omega arith), deeper 5 (omega arith), deeper 6 (omega arith), deeper 7 (omega arith), children_share f bodies c l (omega arith) k))

-- the bodies of a cell that is not opened are no neighbours
shut-none : (radius : ℕ) (b : BodyValue) (row : ℕ) (bodies : List BodyValue) → All IsBody bodies → (c : ℕ) → IsCell c → near_opens radius b (cell_record bodies c) ≡ false → sum_by (counted radius b row) (inside bodies c) ≡ 0
shut-none radius b row bodies all c i o =
    sum-nothing (counted radius b row) (inside bodies c) (λ x m.
    let r = has_inside bodies c x m in
    let t : is_neighbour radius b x ≡ false = none-near radius b x (cell_record bodies c) i (All-contains IsBody bodies x all r.0) r.1 o in
    ap (λ (t : Bool). cond t (cond (eqb x.row row) 1 0) 0) t)

-- how often a row stands among those of all neighbours
times-near : (radius : ℕ) (b : BodyValue) (row : ℕ) (bodies : List BodyValue) → times row (map (λ o. o.row) (filter (is_neighbour radius b) bodies)) ≡ sum_by (counted radius b row) bodies
times-near radius b row bodies =
    sum_map (λ n. cond (eqb n row) 1 0) (λ (o : BodyValue). o.row) (filter (is_neighbour radius b) bodies)
    ∙ sum_filter (λ (o : BodyValue). cond (eqb o.row row) 1 0) (is_neighbour radius b) bodies

-- the fold of the visit is the filter over the whole list
pub fold-is-filter : (radius leaf : ℕ) (bodies : List BodyValue) (b : BodyValue) → All IsBody bodies → fold_of (near_adds radius b) near_nothing (near_opens radius b) leaf bodies ≡ near_value (mass_of bodies) (near_rows radius bodies b)
unfolding ascending
fold-is-filter radius leaf bodies b all =
    let ts = terms (near_opens radius b) leaf bodies in
    let same : (row : ℕ) → times row (fold (gather radius b) [] ts) ≡ times row (map (λ o. o.row) (filter (is_neighbour radius b) bodies)) =
    λ row. (
    let p : sum_by (term_value (counted radius b row)) ts ≡ sum_by (counted radius b row) (inside bodies 1) =
    sum-terms (counted radius b row) (near_opens radius b) leaf bodies (shut-none radius b row bodies all) 21 1 (omega arith) (omega arith, omega arith) in
    let q : sum_by (counted radius b row) (inside bodies 1) ≡ sum_by (counted radius b row) bodies = ap (sum_by (counted radius b row)) (inside-root bodies) in
    times-gathered radius b row [] ts ∙ omega (arith, p, q, times-near radius b row bodies)) in
    added-gathers radius b 0 [] ts
    ∙ ap2 near_value (omega (arith, mass-all_terms (near_opens radius b) leaf bodies)) (same_times (fold (gather radius b) [] ts) (map (λ o. o.row) (filter (is_neighbour radius b) bodies)) same)
