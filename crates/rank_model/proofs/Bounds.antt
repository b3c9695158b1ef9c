-- How much is sent at most, and what letters hold.
use Rattle.std.proofs.Common.{ℕ, zero, suc, ◌≡◌, ◌+◌, ◌-◌, ◌*◌, ◌<◌, ◌≤◌, Bool, true, false, cond, eqb, List, [], ◌∷◌, ◌++◌, length, filter, sum_by, sym, refl, ◌∙◌, subst, inl, inr, arith}
use Rattle.std.specs.Prelude.{Contains, ◌≢◌, ◌||◌}
use Rattle.std.proofs.lemmas.Bool.{cases_lt, eq-eqb, eqb-true}
use Rattle.std.proofs.lemmas.List.Elements.{All-contains}
use Rattle.std.specs.List.{list_any}
use Rattle.std.proofs.lemmas.List.Sums.{sum_by-cons, sum_by-append, length-filter, count_by-le-length}
use Rattle.hot_units.specs.Values.{BodyValue, CellValue}
use Rattle.hot_units.specs.Numbers.{numbers_below}
use Rattle.hot_units.specs.Keys.{covers}
use Rattle.hot_units.proofs.Members.{some_member, has_filter, has_any, filter_has, head_has, tail_has}
use Rattle.hot_units.proofs.Sorts.{sum_same, sum_both, sum_none}
use Rattle.hot_model.specs.Trees.{opened}
use Rattle.hot_model.specs.Cells.{cells}
use Rattle.hot_model.proofs.Parts.{root-contains, has_inside, inside_has}
use Rattle.hot_model.proofs.Fronts.{covers-contains, root_is_cell}
use Rattle.hot_model.proofs.Cells.{cells-are, cells_short}
use Rattle.rank_model.specs.World.{World, bodies_in, rank_of, IsGood}
use Rattle.rank_model.specs.Branches.{IsBranch, IsOfRank, IsOwner, is_branch}
use Rattle.rank_model.specs.Needs.{Needs, is_listed, is_opened, met_cells, is_needed, needed}
use Rattle.rank_model.proofs.Owners.{one_branch, own_of_owned, rank_in_own}
use Rattle.rank_model.proofs.Counts.{test_of_branch, needed-are}

-- no branch contains another one
pub branches_apart : (w : World) (p q k c : ℕ) → IsBranch w p k → IsBranch w q c → covers k c ≡ true → k ≡ c
branches_apart w p q k c x y e =
    let m = some_member (bodies_in w c) y.some in
    let h = has_inside w.bodies c m.0 m.1 in
    (one_branch w p q k c m.0 x y h.0 (covers-contains k c m.0 x.cell y.cell e h.1) h.1).0

-- no rank with bodies needs the root
pub needs_no_root : (opens : BodyValue → CellValue → Bool) (w : World) (q k : ℕ) → Needs opens w q k → k ≢ 1
needs_no_root opens w q k h e =
    let b = has_filter (λ x. eqb (rank_of w x) q) w.bodies h.1.0 h.1.1 in
    let root : IsOwner w h.0.0 1 = subst (λ (z : ℕ). IsOwner w h.0.0 z) e h.0.1 in
    let own : IsOfRank w h.0.0 1 = own_of_owned w h.0.0 1 root_is_cell root in
    let r : rank_of w h.1.0 ≡ h.0.0 = rank_in_own w h.0.0 1 h.1.0 own (inside_has w.bodies 1 h.1.0 b.0 (root-contains h.1.0)) in
    absurd (h.0.2 (sym r ∙ eqb-true _ _ b.1))

-- what is needed is a cell that is opened or a branch
or_left : (a b : Bool) → a ≡ true → (a || b) ≡ true
or_left a b e = rw e refl

or_right : (a b : Bool) → b ≡ true → (a || b) ≡ true
or_right true b e = refl
or_right false b e = e

listed_test : (w : World) (n p k : ℕ) → p < n → is_branch w p k ≡ true → is_listed w n k ≡ true
listed_test w zero p k h e = absurd (omega (arith, h))
listed_test w (suc n) p k h e =
    elim (cases_lt p n) [
      | inl l ↦ or_left (is_listed w n k) (is_branch w n k) (listed_test w n p k l e)
      | inr l ↦ let s : p ≡ n = omega (arith, h, l) in or_right (is_listed w n k) (is_branch w n k) (subst (λ (z : ℕ). is_branch w z k ≡ true) s e)
    ]

-- in a good world the rank of a branch is below the number of ranks
pub branch_rank : (w : World) (q k : ℕ) → IsGood w → IsBranch w q k → q < w.ranks
branch_rank w q k g b =
    let m = some_member (bodies_in w k) b.some in
    let h = has_inside w.bodies k m.0 m.1 in
    let r : rank_of w m.0 < w.ranks = All-contains (λ (x : BodyValue). rank_of w x < w.ranks) w.bodies m.0 g.ranked h.0 in
    let e = rank_in_own w q k m.0 b.own m.1 in
    omega (arith, r, e)

is_met : (opens : BodyValue → CellValue → Bool) (w : World) → ℕ → Bool
is_met opens w k = is_opened opens w k || is_listed w w.ranks k

-- in a good world a needed cell is opened by some body or is a branch of some rank
pub needed_met : (opens : BodyValue → CellValue → Bool) (w : World) (q k : ℕ) → IsGood w → Needs opens w q k → (is_opened opens w k || is_listed w w.ranks k) ≡ true
needed_met opens w q k g h =
    elim (h.1.2) [
      | inl m ↦
          let b = has_filter (λ x. eqb (rank_of w x) q) w.bodies h.1.0 h.1.1 in
          or_left (is_opened opens w k) (is_listed w w.ranks k)
          (has_any (λ (x : BodyValue). list_any (eqb k) (opened (opens x) w.leaf w.bodies)) w.bodies h.1.0 b.0 (has_any (eqb k) (opened (opens h.1.0) w.leaf w.bodies) k m (eq-eqb _ _ refl)))
      | inr y ↦
          let p = y.0.0 in
          or_right (is_opened opens w k) (is_listed w w.ranks k) (listed_test w w.ranks p k (branch_rank w p k g y.0.1) (test_of_branch w p k y.0.1))
    ]

-- in a good world each branch is among the cells that are opened or branches
pub branch_met : (opens : BodyValue → CellValue → Bool) (w : World) (q k : ℕ) → IsGood w → IsBranch w q k → Contains (met_cells opens w) k
branch_met opens w q k g b =
    filter_has (λ c. is_opened opens w c || is_listed w w.ranks c) (cells w.bodies) k ((cells-are w.bodies k).1 (b.cell, b.some))
    (or_right (is_opened opens w k) (is_listed w w.ranks k) (listed_test w w.ranks q k (branch_rank w q k g b) (test_of_branch w q k b)))

-- at most 22 for each body
pub met_short : (opens : BodyValue → CellValue → Bool) (w : World) → length (met_cells opens w) ≤ 22 * length w.bodies
met_short opens w =
    let p : (ℕ → Bool) = λ c. is_opened opens w c || is_listed w w.ranks c in
    let a = length-filter p (cells w.bodies) in
    let b = count_by-le-length p (cells w.bodies) in
    let c = cells_short w.bodies in
    omega (arith, a, b, c)

-- sums over ranks and cells change places
sum_zero : {X : Type 0} (xs : List X) → sum_by (λ x. 0) xs ≡ 0
sum_zero [] = refl
sum_zero (x ∷ xs) = sum_by-cons (λ z. 0) x xs ∙ rw (sum_zero xs) refl

sum_turn : (f : ℕ → ℕ → ℕ) (xs ys : List ℕ) → sum_by (λ x. sum_by (λ y. f x y) ys) xs ≡ sum_by (λ y. sum_by (λ x. f x y) xs) ys
sum_turn f [] ys = sym (sum_zero ys)
sum_turn f (x ∷ xs) ys =
    let step : sum_by (λ y. sum_by (λ z. f z y) (x ∷ xs)) ys ≡ sum_by (λ y. f x y + sum_by (λ z. f z y) xs) ys = sum_same (λ y. sum_by (λ z. f z y) (x ∷ xs)) (λ y. f x y + sum_by (λ z. f z y) xs) ys (λ y m. sum_by-cons (λ z. f z y) x xs) in
    omega (arith, sum_by-cons (λ z. sum_by (λ y. f z y) ys) x xs, sum_turn f xs ys, sum_both (λ y. f x y) (λ y. sum_by (λ z. f z y) xs) ys, step)

-- not all of the numbers below n, where one of them is left out
below_count : (p : ℕ → Bool) (n : ℕ) → sum_by (λ q. cond (p q) 1 0) (numbers_below n) ≤ n
unfolding numbers_below
below_count p zero = omega arith
below_count p (suc n) =
    let a = below_count p n in
    let e = sum_by-append (λ q. cond (p q) 1 0) (numbers_below n) (n ∷ []) in
    elim (p n) as (λ (t : Bool). sum_by (λ q. cond (p q) 1 0) (numbers_below n ++ n ∷ []) ≡ sum_by (λ q. cond (p q) 1 0) (numbers_below n) + (0 + cond t 1 0) → sum_by (λ q. cond (p q) 1 0) (numbers_below n ++ n ∷ []) ≤ suc n) [
      | true ↦ λ f. omega (arith, a, f)
      | false ↦ λ f. omega (arith, a, f)
    ] e

below_all_but : (p : ℕ → Bool) (n k : ℕ) → k < n → p k ≡ false → sum_by (λ q. cond (p q) 1 0) (numbers_below n) ≤ n - 1
unfolding numbers_below
below_all_but p zero k h e = absurd (omega (arith, h))
below_all_but p (suc n) k h e =
    let f = sum_by-append (λ q. cond (p q) 1 0) (numbers_below n) (n ∷ []) in
    elim (cases_lt k n) [
      | inl l ↦ inner l (below_all_but p n k l e) f (p n) refl
      | inr l ↦
          let s : k ≡ n = omega (arith, h, l) in
          let z : p n ≡ false = subst (λ (j : ℕ). p j ≡ false) s e in
          last z (below_count p n) f
    ]
  where
    inner : k < n → sum_by (λ q. cond (p q) 1 0) (numbers_below n) ≤ n - 1 → sum_by (λ q. cond (p q) 1 0) (numbers_below n ++ n ∷ []) ≡ sum_by (λ q. cond (p q) 1 0) (numbers_below n) + (0 + cond (p n) 1 0) → (t : Bool) → p n ≡ t → sum_by (λ q. cond (p q) 1 0) (numbers_below n ++ n ∷ []) ≤ suc n - 1
    inner l a f true g = let b = rw g at f in omega (arith, a, b, l)
    inner l a f false g = let b = rw g at f in omega (arith, a, b, l)

    last : p n ≡ false → sum_by (λ q. cond (p q) 1 0) (numbers_below n) ≤ n → sum_by (λ q. cond (p q) 1 0) (numbers_below n ++ n ∷ []) ≡ sum_by (λ q. cond (p q) 1 0) (numbers_below n) + (0 + cond (p n) 1 0) → sum_by (λ q. cond (p q) 1 0) (numbers_below n ++ n ∷ []) ≤ suc n - 1
    last z a f = let b = rw z at f in omega (arith, a, b)

-- a cell is needed by at most all ranks but its owner
cell_needed : (opens : BodyValue → CellValue → Bool) (w : World) (k : ℕ) → IsGood w → Contains (cells w.bodies) k → sum_by (λ q. cond (is_needed opens w q k) 1 0) (numbers_below w.ranks) ≤ cond (is_opened opens w k || is_listed w w.ranks k) (w.ranks - 1) 0
cell_needed opens w k g m = by_test (is_opened opens w k || is_listed w w.ranks k) refl
  where
    needs : (q : ℕ) → is_needed opens w q k ≡ true → Needs opens w q k
    needs q e = (needed-are opens w q k).0 (filter_has (is_needed opens w q) (cells w.bodies) k m e)

    by_test : (t : Bool) → (is_opened opens w k || is_listed w w.ranks k) ≡ t → sum_by (λ q. cond (is_needed opens w q k) 1 0) (numbers_below w.ranks) ≤ cond t (w.ranks - 1) 0
    by_test false e =
        let z = sum_none (λ q. is_needed opens w q k) 1 (numbers_below w.ranks) (λ q n. none q (is_needed opens w q k) refl) in
        omega (arith, z)
      where
        none : (q : ℕ) (t : Bool) → is_needed opens w q k ≡ t → is_needed opens w q k ≡ false
        none q false f = f
        none q true f = absurd (let y = needed_met opens w q k g (needs q f) in let x : true ≡ false = sym y ∙ e in cc)
    by_test true e =
        let i = (cells-are w.bodies k).0 m in
        let b = some_member (bodies_in w k) i.1 in
        let h = has_inside w.bodies k b.0 b.1 in
        let r : rank_of w b.0 < w.ranks = All-contains (λ (x : BodyValue). rank_of w x < w.ranks) w.bodies b.0 g.ranked h.0 in
        below_all_but (λ q. is_needed opens w q k) w.ranks (rank_of w b.0) r (mine (rank_of w b.0) b.0 b.1 refl (is_needed opens w (rank_of w b.0) k) refl)
      where
        mine : (q : ℕ) (b : BodyValue) → Contains (bodies_in w k) b → rank_of w b ≡ q → (t : Bool) → is_needed opens w q k ≡ t → is_needed opens w q k ≡ false
        mine q b n s false f = f
        mine q b n s true f =
            let y = needs q f in
            let i = (cells-are w.bodies k).0 m in
            let own : IsOfRank w y.0.0 k = own_of_owned w y.0.0 k i.0 y.0.1 in
            absurd (y.0.2 (sym (rank_in_own w y.0.0 k b own n) ∙ s))

sum_le : (f g : ℕ → ℕ) (xs : List ℕ) → ((x : ℕ) → Contains xs x → f x ≤ g x) → sum_by f xs ≤ sum_by g xs
sum_le f g [] h = omega arith
sum_le f g (x ∷ xs) h = omega (arith, sum_by-cons f x xs, sum_by-cons g x xs, h x (head_has x xs), sum_le f g xs (λ y m. h y (tail_has x xs y m)))

count_times : (p : ℕ → Bool) (v : ℕ) (xs : List ℕ) → sum_by (λ x. cond (p x) v 0) xs ≡ v * length (filter p xs)
count_times p v [] = omega arith
count_times p v (x ∷ xs) =
    let r = count_times p v xs in
    sum_by-cons (λ y. cond (p y) v 0) x xs
    ∙ elim (p x) as (λ (t : Bool). cond t v 0 + sum_by (λ y. cond (p y) v 0) xs ≡ v * length (cond t (x ∷ filter p xs) (filter p xs))) [
      | true ↦ omega (arith, r)
      | false ↦ omega (arith, r)
    ]

-- all that is needed by all ranks, counted
pub needs_bound : (opens : BodyValue → CellValue → Bool) (w : World) → IsGood w → sum_by (λ q. length (needed opens w q)) (numbers_below w.ranks) ≤ (w.ranks - 1) * length (met_cells opens w)
needs_bound opens w g =
    let one : (q : ℕ) → length (needed opens w q) ≡ sum_by (λ k. cond (is_needed opens w q k) 1 0) (cells w.bodies) = λ q. length-filter (is_needed opens w q) (cells w.bodies) in
    let a = sum_same (λ q. length (needed opens w q)) (λ q. sum_by (λ k. cond (is_needed opens w q k) 1 0) (cells w.bodies)) (numbers_below w.ranks) (λ q m. one q) in
    let b = sum_turn (λ q k. cond (is_needed opens w q k) 1 0) (numbers_below w.ranks) (cells w.bodies) in
    let c = sum_le (λ k. sum_by (λ q. cond (is_needed opens w q k) 1 0) (numbers_below w.ranks)) (λ k. cond (is_opened opens w k || is_listed w w.ranks k) (w.ranks - 1) 0) (cells w.bodies) (λ k m. cell_needed opens w k g m) in
    let d = count_times (λ k. is_opened opens w k || is_listed w w.ranks k) (w.ranks - 1) (cells w.bodies) in
    omega (arith, a, b, c, d)
