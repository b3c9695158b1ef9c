-- What a piece knows by its neighbouring keys is what holds in the world.
use Rattle.std.proofs.Common.{ℕ, zero, suc, ◌≡◌, ◌-◌, ◌^◌, ◌<◌, ◌≤◌, Bool, true, false, eqb, ltb, leb, List, [], ◌∷◌, length, map, filter, sym, refl, ap, ◌∙◌, subst, inl, inr, arith, Option, Some, None}
use Rattle.std.specs.Prelude.{option_to_list, Contains, ◌⊎◌, ◌≢◌, not, ◌&&◌, ◌||◌, ◌↔◌, if◌then◌else◌}
use Rattle.std.proofs.lemmas.Bool.{cases_lt, eq-eqb, eqb-true, lt-ltb, le-ltb}
use Rattle.hot_units.specs.Values.{BodyValue}
use Rattle.hot_units.specs.Keys.{key_of_body, IsCell, contains, front, covers, HasLevel, parent, level, child, digits}
use Rattle.hot_units.proofs.Digits.{div_rises}
use Rattle.hot_units.proofs.Members.{has_filter, has_map, all_members, filter_has, map_has, has_length, some_member, head_has, tail_has, map_same, flat_same, have_digits}
use Rattle.hot_units.proofs.Sorts.{ascends_filter, ascends_same}
use Rattle.hot_units.proofs.Numbers.{greatest_has, least_has, greatest_over, least_under}
use Rattle.hot_model.specs.Trees.{inside, cell_record, is_empty, record_of, record_at, leaf_at}
use Rattle.hot_model.specs.Cells.{cells}
use Rattle.hot_model.specs.declared.answer.Answer.TheVariants.{Children}
use Rattle.hot_model.proofs.Parts.{inside_has, has_inside}
use Rattle.hot_model.proofs.Fronts.{and_both, contains_front, front_contains, parent_level, parent-covers, level_zero, child_covers}
use Rattle.hot_model.proofs.Walks.{some_length, full_length}
use Rattle.hot_model.proofs.Heights.{has_children, height_is}
use Rattle.hot_model.proofs.Cells.{cells-are, cells_ascend}
use Rattle.rank_model.specs.World.{World, rank_of, IsGood, left_of, right_of, bodies_in, piece, is_leaf, record_in}
use Rattle.rank_model.specs.Branches.{IsOfRank, HasOther, IsBranch, all_of_rank, branches, branch_records}
use Rattle.rank_model.specs.Answers.{answer_at, children_at, child_records, true_answer}
use Rattle.rank_model.specs.Homes.{keeps_out, is_home, is_home_branch, home_branches}
use Rattle.rank_model.proofs.Worlds.{piece_in_order}
use Rattle.rank_model.proofs.Owners.{rank_in_own, test_own, test_other, covered_has, covered_own}
use Rattle.rank_model.proofs.Counts.{not_true, branches-are, branches_ascend}

-- a cell has every body whose key stands between two of its own
pub between_own : (c : ℕ) (a b x : BodyValue) → IsCell c → contains c a ≡ true → contains c x ≡ true → key_of_body a ≤ key_of_body b → key_of_body b ≤ key_of_body x → contains c b ≡ true
between_own c a b x i e f h k =
    let l = i.0 in
    let p = contains_front c l a i.1 i.2 e in
    let q = contains_front c l x i.1 i.2 f in
    let low : front l (key_of_body a) ≤ front l (key_of_body b) = div_rises (key_of_body a) (key_of_body b) (8 ^ (21 - l)) h in
    let high : front l (key_of_body b) ≤ front l (key_of_body x) = div_rises (key_of_body b) (key_of_body x) (8 ^ (21 - l)) k in
    front_contains c l b i.1 i.2 (omega (arith, p, q, low, high))

-- by ascending key the ranks never fall
pub lower_first : (w : World) (a b : BodyValue) → IsGood w → Contains w.bodies a → Contains w.bodies b → rank_of w a < rank_of w b → key_of_body a < key_of_body b
lower_first w a b g h k n =
    elim (cases_lt (key_of_body a) (key_of_body b)) [
      | inl l ↦ l
      | inr l ↦ let r = g.rising b a k h l in absurd (omega (arith, r, n))
    ]

-- the neighbours are keys of bodies of other ranks
pub left_body : (w : World) (q m : ℕ) → left_of w q ≡ Some m → (b : BodyValue) × Contains w.bodies b × (rank_of w b < q) × (m ≡ key_of_body b)
left_body w q m h =
    let r = has_map key_of_body (filter (λ b. ltb (rank_of w b) q) w.bodies) m (greatest_has (map key_of_body (filter (λ b. ltb (rank_of w b) q) w.bodies)) m h) in
    let f = has_filter (λ b. ltb (rank_of w b) q) w.bodies r.0 r.1 in
    (r.0, f.0, ltb_lt (rank_of w r.0) q f.1, r.2)
  where
    ltb_lt : (m n : ℕ) → ltb m n ≡ true → m < n
    ltb_lt m n e = elim (cases_lt m n) [
      | inl l ↦ l
      | inr l ↦ absurd (let t : ltb m n ≡ false = le-ltb _ _ l in let f : true ≡ false = sym e ∙ t in cc)
    ]

-- a right neighbour is the key of a body of a higher rank
pub right_body : (w : World) (q m : ℕ) → right_of w q ≡ Some m → (b : BodyValue) × Contains w.bodies b × (q < rank_of w b) × (m ≡ key_of_body b)
right_body w q m h =
    let r = has_map key_of_body (filter (λ b. ltb q (rank_of w b)) w.bodies) m (least_has (map key_of_body (filter (λ b. ltb q (rank_of w b)) w.bodies)) m h) in
    let f = has_filter (λ b. ltb q (rank_of w b)) w.bodies r.0 r.1 in
    (r.0, f.0, ltb_lt q (rank_of w r.0) f.1, r.2)
  where
    ltb_lt : (m n : ℕ) → ltb m n ≡ true → m < n
    ltb_lt m n e = elim (cases_lt m n) [
      | inl l ↦ l
      | inr l ↦ absurd (let t : ltb m n ≡ false = le-ltb _ _ l in let f : true ≡ false = sym e ∙ t in cc)
    ]

-- a cell of one rank keeps out the neighbours of this rank
own_keeps_out : (w : World) (q c : ℕ) (o : Option ℕ) → IsOfRank w q c → ((m : ℕ) → o ≡ Some m → (b : BodyValue) × Contains w.bodies b × (rank_of w b ≢ q) × (m ≡ key_of_body b)) → keeps_out c o ≡ true
own_keeps_out w q c None a f = refl
own_keeps_out w q c (Some m) a f = by_test (covers c m) refl
  where
    by_test : (t : Bool) → covers c m ≡ t → not (covers c m) ≡ true
    by_test false e = rw e refl
    by_test true e =
        let r = f m refl in
        let h : contains c r.0 ≡ true = subst (λ (z : ℕ). covers c z ≡ true) r.3 e in
        absurd (r.2 (rank_in_own w q c r.0 a (inside_has w.bodies c r.0 r.1 h)))

-- what is kept out
kept_out : (c m : ℕ) (o : Option ℕ) → keeps_out c o ≡ true → o ≡ Some m → covers c m ≡ true → ⊥
kept_out c m o h e f = let g : keeps_out c (Some m) ≡ true = subst (λ (z : Option ℕ). keeps_out c z ≡ true) e h in let k : false ≡ true = rw f at g in cc

-- a cell is home exactly where it has bodies, all of this rank
pub home-is-own : (w : World) (q c : ℕ) → IsGood w → IsCell c → (is_home (piece w q) (left_of w q) (right_of w q) c ≡ true) ↔ ((0 < length (bodies_in w c)) × IsOfRank w q c)
home-is-own w q c g i = (to, from)
  where
    in_piece : (b : BodyValue) → Contains (piece w q) b → Contains w.bodies b × (rank_of w b ≡ q)
    in_piece b h = let r = has_filter (λ x. eqb (rank_of w x) q) w.bodies b h in (r.0, eqb-true _ _ r.1)

    to : is_home (piece w q) (left_of w q) (right_of w q) c ≡ true → (0 < length (bodies_in w c)) × IsOfRank w q c
    to h =
        let t = and_both (not (is_empty (inside (piece w q) c))) (keeps_out c (left_of w q) && keeps_out c (right_of w q)) h in
        let u = and_both (keeps_out c (left_of w q)) (keeps_out c (right_of w q)) t.1 in
        let m = some_member (inside (piece w q) c) (some_length (inside (piece w q) c) (not_true (is_empty (inside (piece w q) c)) t.0)) in
        let x = has_inside (piece w q) c m.0 m.1 in
        let y = in_piece m.0 x.0 in
        let here : Contains (bodies_in w c) m.0 = inside_has w.bodies c m.0 y.0 x.1 in (
          has_length (bodies_in w c) m.0 here,
          all_members (λ b. rank_of w b ≡ q) (bodies_in w c) (λ b n. let z = has_inside w.bodies c b n in same_rank m.0 b y.0 z.0 x.1 z.1 y.1 u.0 u.1),
        )
      where
        same_rank : (x b : BodyValue) → Contains w.bodies x → Contains w.bodies b → contains c x ≡ true → contains c b ≡ true → rank_of w x ≡ q → keeps_out c (left_of w q) ≡ true → keeps_out c (right_of w q) ≡ true → rank_of w b ≡ q
        same_rank x b hx hb cx cb rx kl kr =
            elim (cases_lt (rank_of w b) q) [
              | inl n ↦
                  let r = greatest_over (map key_of_body (filter (λ z. ltb (rank_of w z) q) w.bodies)) (key_of_body b) (map_has key_of_body (filter (λ z. ltb (rank_of w z) q) w.bodies) b (filter_has (λ z. ltb (rank_of w z) q) w.bodies b hb (lt-ltb _ _ n))) in
                  let y = left_body w q r.0 r.1 in
                  let low : key_of_body b ≤ key_of_body y.0 = omega (arith, r.2, y.3) in
                  let up : key_of_body y.0 < key_of_body x = lower_first w y.0 x g y.1 hx (omega (arith, y.2, rx)) in
                  let inn : contains c y.0 ≡ true = between_own c b y.0 x i cb cx low (omega (arith, up)) in
                  absurd (kept_out c r.0 (left_of w q) kl r.1 (subst (λ (z : ℕ). covers c z ≡ true) (sym y.3) inn))
              | inr n ↦ elim (cases_lt q (rank_of w b)) [
                | inl k ↦
                    let r = least_under (map key_of_body (filter (λ z. ltb q (rank_of w z)) w.bodies)) (key_of_body b) (map_has key_of_body (filter (λ z. ltb q (rank_of w z)) w.bodies) b (filter_has (λ z. ltb q (rank_of w z)) w.bodies b hb (lt-ltb _ _ k))) in
                    let y = right_body w q r.0 r.1 in
                    let high : key_of_body y.0 ≤ key_of_body b = omega (arith, r.2, y.3) in
                    let up : key_of_body x < key_of_body y.0 = lower_first w x y.0 g hx y.1 (omega (arith, y.2, rx)) in
                    let inn : contains c y.0 ≡ true = between_own c x y.0 b i cx cb (omega (arith, up)) high in
                    absurd (kept_out c r.0 (right_of w q) kr r.1 (subst (λ (z : ℕ). covers c z ≡ true) (sym y.3) inn))
                | inr k ↦ omega (arith, n, k)
              ]
            ]

    from : (0 < length (bodies_in w c)) × IsOfRank w q c → is_home (piece w q) (left_of w q) (right_of w q) c ≡ true
    from h =
        let m = some_member (bodies_in w c) h.0 in
        let x = has_inside w.bodies c m.0 m.1 in
        let y : Contains (piece w q) m.0 = filter_has (λ z. eqb (rank_of w z) q) w.bodies m.0 x.0 (eq-eqb _ _ (rank_in_own w q c m.0 h.1 m.1)) in
        let e : is_empty (inside (piece w q) c) ≡ false = full_length (inside (piece w q) c) (has_length (inside (piece w q) c) m.0 (inside_has (piece w q) c m.0 y x.1)) in
        let l : keeps_out c (left_of w q) ≡ true = own_keeps_out w q c (left_of w q) h.1 (λ k p. let r = left_body w q k p in (r.0, r.1, (λ z. (let n = r.2 in absurd (omega (arith, n, z)))), r.3)) in
        let r : keeps_out c (right_of w q) ≡ true = own_keeps_out w q c (right_of w q) h.1 (λ k p. let s = right_body w q k p in (s.0, s.1, (λ z. (let n = s.2 in absurd (omega (arith, n, z)))), s.3)) in
        rw (e, l, r) refl

-- the bodies of such a cell are those of the piece
pub inside_piece : (w : World) (q c : ℕ) → IsOfRank w q c → inside (piece w q) c ≡ bodies_in w c
inside_piece w q c h = over w.bodies (λ b m e. rank_in_own w q c b h (inside_has w.bodies c b m e))
  where
    over : (xs : List BodyValue) → ((b : BodyValue) → Contains xs b → contains c b ≡ true → rank_of w b ≡ q) → filter (contains c) (filter (λ b. eqb (rank_of w b) q) xs) ≡ filter (contains c) xs
    over [] f = refl
    over (x ∷ xs) f = by_tests (eqb (rank_of w x) q) (contains c x) refl refl (over xs (λ b m e. f b (tail_has x xs b m) e))
      where
        by_tests : (s t : Bool) → eqb (rank_of w x) q ≡ s → contains c x ≡ t → filter (contains c) (filter (λ b. eqb (rank_of w b) q) xs) ≡ filter (contains c) xs → filter (contains c) (filter (λ b. eqb (rank_of w b) q) (x ∷ xs)) ≡ filter (contains c) (x ∷ xs)
        by_tests true true a b r = rw (a, b, r) refl
        by_tests true false a b r = rw (a, b, r) refl
        by_tests false true a b r = absurd (let z : eqb (rank_of w x) q ≡ true = eq-eqb _ _ (f x (head_has x xs) b) in let y : true ≡ false = sym z ∙ a in cc)
        by_tests false false a b r = rw (a, b, r) refl

-- a cell whose bodies are all of a rank has one record over its piece and over all bodies
pub record_piece : (w : World) (q c : ℕ) → IsOfRank w q c → cell_record (piece w q) c ≡ cell_record w.bodies c
record_piece w q c h = ap (record_of c) (inside_piece w q c h)

-- the outermost cells of a piece are its branches
home_branch : (w : World) (q k : ℕ) → IsGood w → IsCell k → is_home_branch (piece w q) (left_of w q) (right_of w q) k ≡ true → IsBranch w q k
home_branch w q k g i h =
    let home : ℕ → Bool = is_home (piece w q) (left_of w q) (right_of w q) in
    let t = and_both (home k) (eqb k 1 || not (home (parent k))) h in
    let own = (home-is-own w q k g i).0 t.0 in
    record { cell = i; some = own.0; own = own.1; outermost = outer i.0 i.1 i.2 (or_either (eqb k 1) (not (home (parent k))) t.1) own.0 }
  where
    or_either : (a b : Bool) → (a || b) ≡ true → (a ≡ true) ⊎ (b ≡ true)
    or_either true b h = inl refl
    or_either false b h = inr h

    outer : (l : ℕ) → l ≤ 21 → HasLevel k l → (eqb k 1 ≡ true) ⊎ (not (is_home (piece w q) (left_of w q) (right_of w q) (parent k)) ≡ true) → 0 < length (bodies_in w k) → (k ≡ 1) ⊎ HasOther w q (parent k)
    outer l n p (inl e) s = inl (eqb-true _ _ e)
    outer zero n p (inr e) s = inl (level_zero k p)
    outer (suc l) n p (inr e) s = by_test (all_of_rank w q (bodies_in w (parent k))) refl
      where
        j : IsCell (parent k)
        j = (l, omega (arith, n), parent_level k l p)

        by_test : (a : Bool) → all_of_rank w q (bodies_in w (parent k)) ≡ a → (k ≡ 1) ⊎ HasOther w q (parent k)
        by_test false f = inr (test_other w q (bodies_in w (parent k)) f)
        by_test true f =
            let m = some_member (bodies_in w k) s in
            let up : Contains (bodies_in w (parent k)) m.0 = covered_has w (parent k) k m.0 j (suc l, n, p) (parent-covers k l n p) m.1 in
            let y = (home-is-own w q (parent k) g j).1 (has_length (bodies_in w (parent k)) m.0 up, test_own w q (bodies_in w (parent k)) f) in
            absurd (let z : is_home (piece w q) (left_of w q) (right_of w q) (parent k) ≡ false = not_true (is_home (piece w q) (left_of w q) (right_of w q) (parent k)) e in let x : true ≡ false = sym y ∙ z in cc)

-- the branches of a rank are outermost own cells of its piece, in a good world
pub branch_home : (w : World) (q k : ℕ) → IsGood w → IsBranch w q k → is_home_branch (piece w q) (left_of w q) (right_of w q) k ≡ true
branch_home w q k g b = by_level b.cell.0 b.cell.1 b.cell.2
  where
    t : is_home (piece w q) (left_of w q) (right_of w q) k ≡ true
    t = (home-is-own w q k g b.cell).1 (b.some, b.own)

    root_case : k ≡ 1 → is_home_branch (piece w q) (left_of w q) (right_of w q) k ≡ true
    root_case e = let f : eqb k 1 ≡ true = eq-eqb _ _ e in rw (t, f) refl

    by_level : (l : ℕ) → l ≤ 21 → HasLevel k l → is_home_branch (piece w q) (left_of w q) (right_of w q) k ≡ true
    by_level zero n p = root_case (level_zero k p)
    by_level (suc l) n p = by_outermost b.outermost
      where
        j : IsCell (parent k)
        j = (l, omega (arith, n), parent_level k l p)

        upper : HasOther w q (parent k) → (a : Bool) → is_home (piece w q) (left_of w q) (right_of w q) (parent k) ≡ a → is_home (piece w q) (left_of w q) (right_of w q) (parent k) ≡ false
        upper o false e = e
        upper o true e = let y = (home-is-own w q (parent k) g j).0 e in absurd (o.2 (rank_in_own w q (parent k) o.0 y.1 o.1))

        by_outermost : (k ≡ 1) ⊎ HasOther w q (parent k) → is_home_branch (piece w q) (left_of w q) (right_of w q) k ≡ true
        by_outermost (inl e) = root_case e
        by_outermost (inr o) =
            let f : is_home (piece w q) (left_of w q) (right_of w q) (parent k) ≡ false = upper o (is_home (piece w q) (left_of w q) (right_of w q) (parent k)) refl in
            rw (t, f) (elim (eqb k 1) as (λ (v : Bool). (v || true) ≡ true) [ true ↦ refl | false ↦ refl ])

-- so the list that a piece makes is the one that the world has
pub home-branches : (w : World) (q : ℕ) → IsGood w → home_branches (piece w q) (left_of w q) (right_of w q) ≡ branch_records w q
home-branches w q g =
    let ours = filter (is_home_branch (piece w q) (left_of w q) (right_of w q)) (cells (piece w q)) in
    let to : (k : ℕ) → Contains ours k → IsBranch w q k =
    λ k m.
    let f = has_filter (is_home_branch (piece w q) (left_of w q) (right_of w q)) (cells (piece w q)) k m in
    home_branch w q k g ((cells-are (piece w q) k).0 f.0).0 f.1 in
    let from : (k : ℕ) → IsBranch w q k → Contains ours k =
    λ k b.
    let s : 0 < length (inside (piece w q) k) = subst (λ (xs : List BodyValue). 0 < length xs) (sym (inside_piece w q k b.own)) b.some in
    filter_has (is_home_branch (piece w q) (left_of w q) (right_of w q)) (cells (piece w q)) k ((cells-are (piece w q) k).1 (b.cell, s)) (branch_home w q k g b) in
    let keys : ours ≡ branches w q =
    ascends_same ours (branches w q)
    (ascends_filter (is_home_branch (piece w q) (left_of w q) (right_of w q)) (cells (piece w q)) (cells_ascend (piece w q) (piece_in_order w q g)))
    (branches_ascend w q g)
    (λ k m. (branches-are w q k).1 (to k m))
    (λ k m. from k ((branches-are w q k).0 m)) in
    ap (map (cell_record (piece w q))) keys
    ∙ map_same (cell_record (piece w q)) (cell_record w.bodies) (branches w q) (λ k m. record_piece w q k ((branches-are w q k).0 m).own)

-- the answer that a piece makes for a cell of its own is the true one
pub answer-piece : (w : World) (q c : ℕ) → IsCell c → IsOfRank w q c → answer_at w.leaf (piece w q) c ≡ true_answer w c
answer-piece w q c i a = by_leaf (is_leaf w c) refl
  where
    same : inside (piece w q) c ≡ bodies_in w c
    same = inside_piece w q c a

    leaves : leaf_at w.leaf (piece w q) c ≡ is_leaf w c
    leaves = ap (λ (xs : List BodyValue). leb (length xs) w.leaf || eqb (level c) 21) same

    children : is_leaf w c ≡ false → children_at (piece w q) c ≡ child_records w c
    children l =
        let s = has_children w.leaf w.bodies c i l in
        let low : suc i.0 ≤ 21 = (let f = height_is c i.0 i.1 i.2 in let g = s.high in omega (arith, f, g, i.1)) in
        flat_same (λ d. option_to_list (record_at (piece w q) (child c d))) (λ d. option_to_list (record_in w (child c d))) digits
        (λ d m.
        let k = have_digits d m in
        let own : IsOfRank w q (child c d) = covered_own w q c (child c d) i (s.child_is d k) (child_covers c d i.0 low i.2 k) a in
        ap (λ (xs : List BodyValue). option_to_list (if is_empty xs then None else Some (record_of (child c d) xs))) (inside_piece w q (child c d) own))

    by_leaf : (t : Bool) → is_leaf w c ≡ t → answer_at w.leaf (piece w q) c ≡ true_answer w c
    by_leaf true l = let k : leaf_at w.leaf (piece w q) c ≡ true = leaves ∙ l in rw (k, l, same) refl
    by_leaf false l = let k : leaf_at w.leaf (piece w q) c ≡ false = leaves ∙ l in rw (k, l) (ap Children (children l))
