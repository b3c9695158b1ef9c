-- The lists of branches, top cells and needed cells, and the sums over branches.
use Rattle.std.proofs.Common.{◌/◌, ◌^◌, ℕ, ◌≡◌, ◌+◌, ◌-◌, ◌*◌, ◌<◌, Bool, true, false, cond, eqb, List, [], ◌∷◌, length, map, filter, sum_by, sym, refl, ap, ◌∙◌, subst, inl, inr, arith}
use Rattle.std.specs.Prelude.{Contains, ◌⊎◌, not, ◌&&◌, ◌||◌, ◌↔◌}
use Rattle.std.proofs.lemmas.Bool.{cases_lt, eq-eqb, eqb-true}
use Rattle.std.proofs.lemmas.List.Elements.{All-contains}
use Rattle.std.proofs.lemmas.List.Sums.{sum_by-cons}
use Rattle.std.specs.List.{list_any}
use Rattle.hot_units.specs.Values.{BodyValue, CellValue}
use Rattle.hot_units.specs.Numbers.{numbers_below}
use Rattle.hot_units.specs.Keys.{IsCell, parent, covers, contains}
use Rattle.hot_units.proofs.Members.{filter_has, has_filter, has_length, head_has, tail_has, any_has, has_any}
use Rattle.hot_units.proofs.Sorts.{Ascends, ascends_filter, sum_none, sum_one, sum_same, sum_filter, sum_flat, below_has, below_ascends, sum_both, sum_map}
use Rattle.hot_model.specs.Trees.{inside, cell_record}
use Rattle.hot_model.specs.Cells.{cells}
use Rattle.hot_model.proofs.Parts.{sum_by-filter-cons, inside_has, has_inside}
use Rattle.hot_model.proofs.Fronts.{and_both, covers_level, covers_front, common-covers, covers-contains}
use Rattle.hot_model.proofs.Orders.{same_cell}
use Rattle.hot_model.proofs.Cells.{cells-are, cells_ascend}
use Rattle.rank_model.specs.World.{World, bodies_in, IsGood, rank_of, piece}
use Rattle.rank_model.specs.Branches.{IsBranch, all_of_rank, is_branch, branches, IsTop, is_top, tops, IsOfRank, all_branches, all_records, joined_record}
use Rattle.rank_model.specs.Needs.{Needs, asks, is_needed, needed, IsAbove}
use Rattle.rank_model.proofs.Owners.{test_own, test_other, own_test, other_test, top_of_test, test_of_top, rank_in_own, covered_own, top_has_other, branch_of, one_branch}
use Rattle.rank_model.proofs.Asks.{above_top}
use Rattle.rank_model.proofs.Demands.{needs-are-asks, asks_sound}

-- the test of a branch, at a cell with bodies
or_either : (a b : Bool) → (a || b) ≡ true → (a ≡ true) ⊎ (b ≡ true)
or_either true b h = inl refl
or_either false b h = inr h

-- a test whose opposite holds does not hold
pub not_true : (a : Bool) → not a ≡ true → a ≡ false
not_true true h = absurd (let e : false ≡ true = h in cc)
not_true false h = refl

-- a cell with bodies that passes the test is a branch
pub branch_of_test : (w : World) (q c : ℕ) → IsCell c → 0 < length (bodies_in w c) → is_branch w q c ≡ true → IsBranch w q c
branch_of_test w q c i s h =
    let t = and_both (all_of_rank w q (bodies_in w c)) (eqb c 1 || not (all_of_rank w q (bodies_in w (parent c)))) h in
    record {
      cell = i;
      some = s;
      own = test_own w q (bodies_in w c) t.0;
      outermost = (elim (or_either (eqb c 1) (not (all_of_rank w q (bodies_in w (parent c)))) t.1) [
        | inl e ↦ inl (eqb-true _ _ e)
        | inr e ↦ inr (test_other w q (bodies_in w (parent c)) (not_true (all_of_rank w q (bodies_in w (parent c))) e))
      ]);
    }

-- a branch passes the test
pub test_of_branch : (w : World) (q c : ℕ) → IsBranch w q c → is_branch w q c ≡ true
test_of_branch w q c b =
    let t : all_of_rank w q (bodies_in w c) ≡ true = own_test w q (bodies_in w c) b.own in
    elim b.outermost [
      | inl e ↦ let f : eqb c 1 ≡ true = eq-eqb _ _ e in rw (t, f) refl
      | inr o ↦
          let f : all_of_rank w q (bodies_in w (parent c)) ≡ false = other_test w q (bodies_in w (parent c)) o.0 o.1 o.2 in
          rw (t, f) (elim (eqb c 1) as (λ (v : Bool). (v || true) ≡ true) [ true ↦ refl | false ↦ refl ])
    ]

-- the lists of branches and of top cells have exactly these
pub branches-are : (w : World) (q c : ℕ) → Contains (branches w q) c ↔ IsBranch w q c
branches-are w q c = (
  (λ h. let r = has_filter (is_branch w q) (cells w.bodies) c h in let k = (cells-are w.bodies c).0 r.0 in branch_of_test w q c k.0 k.1 r.1),
  (λ b. filter_has (is_branch w q) (cells w.bodies) c ((cells-are w.bodies c).1 (b.cell, b.some)) (test_of_branch w q c b)),
)

-- the list of top cells has exactly the top cells
pub tops-are : (w : World) (c : ℕ) → Contains (tops w) c ↔ IsTop w c
tops-are w c = (
  (λ h. let r = has_filter (is_top w) (cells w.bodies) c h in let k = (cells-are w.bodies c).0 r.0 in top_of_test w c k.0 r.1),
  (λ t. filter_has (is_top w) (cells w.bodies) c ((cells-are w.bodies c).1 (t.cell, has_length (bodies_in w c) t.one t.has_one)) (test_of_top w c t)),
)

-- in a good world the list of a rank's branches ascends
pub branches_ascend : (w : World) (q : ℕ) → IsGood w → Ascends (branches w q)
branches_ascend w q g = ascends_filter (is_branch w q) (cells w.bodies) (cells_ascend w.bodies g.in_order)

-- in a good world the list of top cells ascends
pub tops_ascend : (w : World) → IsGood w → Ascends (tops w)
tops_ascend w g = ascends_filter (is_top w) (cells w.bodies) (cells_ascend w.bodies g.in_order)

-- a branch with a body of a top cell lies in it
top_covers : (w : World) (q c k : ℕ) (b : BodyValue) → IsTop w c → IsBranch w q k → contains c b ≡ true → contains k b ≡ true → covers c k ≡ true
top_covers w q c k b t x e f =
    let i = t.cell in
    let j = x.cell in
    elim (cases_lt j.0 i.0) [
      | inl n ↦
          let over : covers k c ≡ true = common-covers k c j.0 i.0 b (omega (arith, n)) i.1 j.2 i.2 f e in
          let own : IsOfRank w q c = covered_own w q k c j i over x.own in
          let o = top_has_other w q c t in
          absurd (o.2 (rank_in_own w q c o.0 own o.1))
      | inr n ↦ common-covers c k i.0 j.0 b n j.1 i.2 j.2 e f
    ]

-- the one branch of a body's rank that counts it in a top cell
abbrev counts_it : World → ℕ → ℕ → BodyValue → ℕ → Bool
counts_it w q c b k = is_branch w q k && (covers c k && contains k b)

three_tests : (i o n : Bool) (v : ℕ) → cond i (cond o (cond n v 0) 0) 0 ≡ cond (i && (o && n)) v 0
three_tests true true n v = refl
three_tests true false n v = refl
three_tests false o n v = refl

all_three : (i o n : Bool) → i ≡ true → o ≡ true → n ≡ true → (i && (o && n)) ≡ true
all_three i o n a b c = rw (a, b, c) refl

not_all_three : (i o n : Bool) → (i ≡ true → o ≡ true → n ≡ true → ⊥) → (i && (o && n)) ≡ false
not_all_three true true true f = absurd (f refl refl refl)
not_all_three true true false f = refl
not_all_three true false n f = refl
not_all_three false o n f = refl

from_three : (i o n : Bool) → (i && (o && n)) ≡ true → (i ≡ true) × (o ≡ true) × (n ≡ true)
from_three i o n h =
    let a = and_both i (o && n) h in
    let b = and_both o n a.1 in
    (a.0, b.0, b.1)

-- over the cells of one rank: once where the rank is that of the body and the cell has it
rank_counts : (w : World) (q c v : ℕ) (b : BodyValue) → IsGood w → IsTop w c → Contains w.bodies b → sum_by (λ k. cond (counts_it w q c b k) v 0) (cells w.bodies) ≡ cond (eqb q (rank_of w b) && contains c b) v 0
rank_counts w q c v b g t h = by_tests (eqb q (rank_of w b)) (contains c b) refl refl
  where
    branch_is : (k : ℕ) → Contains (cells w.bodies) k → is_branch w q k ≡ true → IsBranch w q k
    branch_is k m e = let i = (cells-are w.bodies k).0 m in branch_of_test w q k i.0 i.1 e

    by_tests : (s o : Bool) → eqb q (rank_of w b) ≡ s → contains c b ≡ o → sum_by (λ k. cond (counts_it w q c b k) v 0) (cells w.bodies) ≡ cond (s && o) v 0
    by_tests true true e f =
        let same : rank_of w b ≡ q = sym (eqb-true _ _ e) in
        let r = branch_of w b h in
        let x : IsBranch w q r.0 = subst (λ (z : ℕ). IsBranch w z r.0) same r.1 in
        sum_one (counts_it w q c b) v (cells w.bodies) r.0 (cells_ascend w.bodies g.in_order) ((cells-are w.bodies r.0).1 (x.cell, x.some))
        (all_three (is_branch w q r.0) (covers c r.0) (contains r.0 b) (test_of_branch w q r.0 x) (top_covers w q c r.0 b t x f r.2) r.2)
        (λ j m d. let z = from_three (is_branch w q j) (covers c j) (contains j b) d in (one_branch w q q j r.0 b (branch_is j m z.0) x h z.2 r.2).0)
    by_tests true false e f =
        sum_none (counts_it w q c b) v (cells w.bodies)
        (λ k m. not_all_three (is_branch w q k) (covers c k) (contains k b) (λ i o n. (
        let z = branch_is k m i in
        let y : contains c b ≡ true = covers-contains c k b t.cell z.cell o n in
        let d : true ≡ false = sym y ∙ f in cc)))
    by_tests false o e f =
        sum_none (counts_it w q c b) v (cells w.bodies)
        (λ k m. not_all_three (is_branch w q k) (covers c k) (contains k b) (λ i u n. (
        let z = branch_is k m i in
        let y : rank_of w b ≡ q = rank_in_own w q k b z.own (inside_has w.bodies k b h n) in
        let d : eqb q (rank_of w b) ≡ true = eq-eqb _ _ (sym y) in
        let x : true ≡ false = sym d ∙ e in cc)))

split_test : (s o : Bool) (v : ℕ) → cond (s && o) v 0 ≡ cond s (cond o v 0) 0
split_test true o v = refl
split_test false o v = refl

-- over all branches that a top cell covers: once where the cell has the body
body_counts : (w : World) (c v : ℕ) (b : BodyValue) → IsGood w → IsTop w c → Contains w.bodies b → sum_by (λ k. cond (contains k b) v 0) (filter (covers c) (all_branches w)) ≡ cond (contains c b) v 0
body_counts w c v b g t h =
    let term : ℕ → ℕ = λ k. cond (covers c k) (cond (contains k b) v 0) 0 in
    let one : (q : ℕ) → sum_by term (branches w q) ≡ cond (eqb q (rank_of w b)) (cond (contains c b) v 0) 0 =
    λ q.
    sum_filter term (is_branch w q) (cells w.bodies)
    ∙ (sum_same (λ k. cond (is_branch w q k) (term k) 0) (λ k. cond (counts_it w q c b k) v 0) (cells w.bodies) (λ k m. three_tests (is_branch w q k) (covers c k) (contains k b) v)
    ∙ (rank_counts w q c v b g t h ∙ split_test (eqb q (rank_of w b)) (contains c b) v)) in
    let below : rank_of w b < w.ranks = All-contains (λ (x : BodyValue). rank_of w x < w.ranks) w.bodies b g.ranked h in
    sum_filter (λ k. cond (contains k b) v 0) (covers c) (all_branches w)
    ∙ (sum_flat term (branches w) (numbers_below w.ranks)
    ∙ (sum_same (λ q. sum_by term (branches w q)) (λ q. cond (eqb q (rank_of w b)) (cond (contains c b) v 0) 0) (numbers_below w.ranks) (λ q m. one q)
    ∙ sum_one (λ q. eqb q (rank_of w b)) (cond (contains c b) v 0) (numbers_below w.ranks) (rank_of w b) (below_ascends w.ranks) (below_has w.ranks (rank_of w b) below) (eq-eqb _ _ refl) (λ j m e. eqb-true _ _ e)))

sum_zero : (ks : List ℕ) → sum_by (λ k. 0) ks ≡ 0
sum_zero [] = refl
sum_zero (k ∷ ks) = omega (arith, sum_by-cons (λ (z : ℕ). 0) k ks, sum_zero ks)

-- whatever is summed over the bodies of a top cell is summed over the branches in it
bodies_count : (w : World) (c : ℕ) (f : BodyValue → ℕ) → IsGood w → IsTop w c → (xs : List BodyValue) → ((b : BodyValue) → Contains xs b → Contains w.bodies b) → sum_by (λ k. sum_by f (inside xs k)) (filter (covers c) (all_branches w)) ≡ sum_by f (inside xs c)
bodies_count w c f g t [] h = sum_zero (filter (covers c) (all_branches w))
bodies_count w c f g t (x ∷ xs) h =
    let ks = filter (covers c) (all_branches w) in
    let step : sum_by (λ k. sum_by f (inside (x ∷ xs) k)) ks ≡ sum_by (λ k. cond (contains k x) (f x) 0 + sum_by f (inside xs k)) ks =
    sum_same (λ k. sum_by f (inside (x ∷ xs) k)) (λ k. cond (contains k x) (f x) 0 + sum_by f (inside xs k)) ks (λ k m. sum_by-filter-cons (contains k) f x xs) in
    omega (
      arith,
      step,
      sum_both (λ k. cond (contains k x) (f x) 0) (λ k. sum_by f (inside xs k)) ks,
      body_counts w c (f x) x g t (h x (head_has x xs)),
      bodies_count w c f g t xs (λ b m. h b (tail_has x xs b m)),
      sum_by-filter-cons (contains c) f x xs,
    )

-- in a good world a sum over the bodies of a top cell is that over the branches in it
pub top_sum : (w : World) (c : ℕ) (f : BodyValue → ℕ) → IsGood w → IsTop w c → sum_by (λ k. sum_by f (bodies_in w k)) (filter (covers c) (all_branches w)) ≡ sum_by f (bodies_in w c)
top_sum w c f g t = bodies_count w c f g t w.bodies (λ b m. m)

-- the same over records
filter_map_key : (w : World) (c : ℕ) (ks : List ℕ) → filter (λ (r : CellValue). covers c r.key) (map (cell_record w.bodies) ks) ≡ map (cell_record w.bodies) (filter (covers c) ks)
filter_map_key w c [] = refl
filter_map_key w c (k ∷ ks) =
    let r = filter_map_key w c ks in
    elim (covers c k) as (λ (t : Bool). cond t (cell_record w.bodies k ∷ filter (λ (r : CellValue). covers c r.key) (map (cell_record w.bodies) ks)) (filter (λ (r : CellValue). covers c r.key) (map (cell_record w.bodies) ks)) ≡ map (cell_record w.bodies) (cond t (k ∷ filter (covers c) ks) (filter (covers c) ks))) [
      | true ↦ ap (λ (rs : List CellValue). cell_record w.bodies k ∷ rs) r
      | false ↦ r
    ]

record_sum : (w : World) (c : ℕ) (p : CellValue → ℕ) (f : BodyValue → ℕ) → ((k : ℕ) → p (cell_record w.bodies k) ≡ sum_by f (bodies_in w k)) → IsGood w → IsTop w c → sum_by p (filter (λ (r : CellValue). covers c r.key) (all_records w)) ≡ sum_by f (bodies_in w c)
record_sum w c p f e g t =
    ap (sum_by p) (filter_map_key w c (all_branches w))
    ∙ (sum_map p (cell_record w.bodies) (filter (covers c) (all_branches w))
    ∙ (sum_same (λ k. p (cell_record w.bodies k)) (λ k. sum_by f (bodies_in w k)) (filter (covers c) (all_branches w)) (λ k m. e k)
    ∙ top_sum w c f g t))

length_sum : (xs : List BodyValue) → length xs ≡ sum_by (λ b. 1) xs
length_sum [] = refl
length_sum (x ∷ xs) = omega (arith, length_sum xs, sum_by-cons (λ (b : BodyValue). 1) x xs)

-- the record of a top cell is made of the records of the branches that it covers
pub top-record : (w : World) (c : ℕ) → IsGood w → IsTop w c → joined_record c (all_records w) ≡ cell_record w.bodies c
top-record w c g t =
    same_cell _ _ refl
    (record_sum w c (λ r. r.count) (λ b. 1) (λ k. length_sum (bodies_in w k)) g t ∙ sym (length_sum (bodies_in w c)))
    (record_sum w c (λ r. r.mass) (λ b. b.mass) (λ k. refl) g t)
    (record_sum w c (λ r. r.sx) (λ b. b.mass * b.x) (λ k. refl) g t)
    (record_sum w c (λ r. r.sy) (λ b. b.mass * b.y) (λ k. refl) g t)
    (record_sum w c (λ r. r.sz) (λ b. b.mass * b.z) (λ k. refl) g t)
    (record_sum w c (λ r. r.sxx) (λ b. b.mass * b.x * b.x) (λ k. refl) g t)
    (record_sum w c (λ r. r.syy) (λ b. b.mass * b.y * b.y) (λ k. refl) g t)
    (record_sum w c (λ r. r.szz) (λ b. b.mass * b.z * b.z) (λ k. refl) g t)
    (record_sum w c (λ r. r.sxy) (λ b. b.mass * b.x * b.y) (λ k. refl) g t)
    (record_sum w c (λ r. r.sxz) (λ b. b.mass * b.x * b.z) (λ k. refl) g t)
    (record_sum w c (λ r. r.syz) (λ b. b.mass * b.y * b.z) (λ k. refl) g t)

-- what is needed, as a list
pub needed-are : (opens : BodyValue → CellValue → Bool) (w : World) (q k : ℕ) → Contains (needed opens w q) k ↔ Needs opens w q k
needed-are opens w q k = (to, from)
  where
    to : Contains (needed opens w q) k → Needs opens w q k
    to h =
        let r = has_filter (is_needed opens w q) (cells w.bodies) k h in
        let b = any_has (λ (x : BodyValue). list_any (eqb k) (asks (opens x) w q)) (piece w q) r.1 in
        let a = any_has (eqb k) (asks (opens b.0) w q) b.2 in
        let e : k ≡ a.0 = eqb-true _ _ a.2 in
        (needs-are-asks opens w q k).1 (b.0, b.1, subst (λ (z : ℕ). Contains (asks (opens b.0) w q) z) (sym e) a.1)

    from : Needs opens w q k → Contains (needed opens w q) k
    from h =
        let r = (needs-are-asks opens w q k).0 h in
        let s = asks_sound (opens r.0) w q 21 1 k (omega arith) (omega arith, omega arith) r.2 in
        filter_has (is_needed opens w q) (cells w.bodies) k ((cells-are w.bodies k).1 (s.0.cell, s.0.some))
        (has_any (λ (x : BodyValue). list_any (eqb k) (asks (opens x) w q)) (piece w q) r.0 r.1 (has_any (eqb k) (asks (opens r.0) w q) k r.2 (eq-eqb _ _ refl)))

-- in a good world the list of what a rank needs ascends
pub needed_ascend : (opens : BodyValue → CellValue → Bool) (w : World) (q : ℕ) → IsGood w → Ascends (needed opens w q)
needed_ascend opens w q g = ascends_filter (is_needed opens w q) (cells w.bodies) (cells_ascend w.bodies g.in_order)

-- the top cells are the cells above branches
pub tops-above : (w : World) (c : ℕ) → IsCell c → IsTop w c ↔ ((q : ℕ) × (k : ℕ) × IsBranch w q k × IsAbove c k)
tops-above w c i = (to, from)
  where
    to : IsTop w c → (q : ℕ) × (k : ℕ) × IsBranch w q k × IsAbove c k
    to t =
        let m = has_inside w.bodies c t.one t.has_one in
        let r = branch_of w t.one m.0 in
        let q = rank_of w t.one in (
          q,
          r.0,
          r.1,
          (
            top_covers w q c r.0 t.one t r.1 m.1 r.2,
            λ e. (
                let o = top_has_other w q c t in
                absurd (o.2 (rank_in_own w q c o.0 (subst (IsOfRank w q) (sym e) r.1.own) o.1))),
          ),
        )

    from : ((q : ℕ) × (k : ℕ) × IsBranch w q k × IsAbove c k) → IsTop w c
    from h =
        let k = h.1 in
        let j = h.2.cell in
        let le = covers_level c k i.0 j.0 i.1 j.1 i.2 j.2 h.3.0 in
        elim (cases_lt i.0 j.0) [
          | inl n ↦ above_top w h.0 c k i.0 j.0 n j.1 i.2 j.2 h.2 h.3.0
          | inr n ↦
              let f = covers_front c k i.0 j.0 i.1 j.1 i.2 j.2 h.3.0 in
              let z : j.0 - i.0 ≡ 0 = omega (arith, n) in
              let g : k / 8 ^ 0 ≡ c = ap (λ (m : ℕ). k / 8 ^ m) (sym z) ∙ f in
              absurd (h.3.1 (omega (arith, g)))
        ]
