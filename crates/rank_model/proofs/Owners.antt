-- Each body lies in exactly one branch, and what lies in a branch.
use Rattle.std.proofs.Common.{ℕ, zero, suc, ◌≡◌, ◌-◌, ◌/◌, ◌^◌, ◌<◌, ◌≤◌, Bool, true, false, eqb, List, [], ◌∷◌, length, sym, refl, ap, ◌∙◌, subst, inl, inr, arith}
use Rattle.std.specs.Prelude.{Contains, All, ◌⊎◌, ◌≢◌, ◌↔◌}
use Rattle.std.proofs.lemmas.Bool.{cases_lt, cases_eq, eq-eqb, eqb-true}
use Rattle.std.proofs.lemmas.List.Elements.{All-contains, All-weaker, All-head}
use Rattle.std.proofs.lemmas.List.Sums.{AllPass-from_list_all, list_all-from_AllPass}
use Rattle.hot_units.specs.Values.{BodyValue}
use Rattle.hot_units.specs.Keys.{IsCell, covers, HasLevel, parent, key_of_body, contains, child}
use Rattle.hot_units.proofs.Members.{not_all, head_has, all_members, has_length, some_member}
use Rattle.hot_model.proofs.Parts.{inside_has, has_inside}
use Rattle.hot_model.proofs.Fronts.{body_level, contains_front, covers-self, covers-trans, covers-contains, common-covers, common-same, parent_level, parent_of_child, parent-covers, covers-parent, level_zero, root_level, child_cell, one_level}
use Rattle.rank_model.specs.World.{World, rank_of, bodies_in}
use Rattle.rank_model.specs.Branches.{all_of_rank, first_rank, one_rank, IsOfRank, IsOwner, IsBranch, HasOther, IsTop, is_top}

-- the tests and what they test
pub test_own : (w : World) (q : ℕ) (xs : List BodyValue) → all_of_rank w q xs ≡ true → All (λ b. rank_of w b ≡ q) xs
test_own w q xs h =
    All-weaker (λ (b : BodyValue). eqb (rank_of w b) q ≡ true) (λ (b : BodyValue). rank_of w b ≡ q) (λ b e. eqb-true _ _ e) xs (AllPass-from_list_all (λ (b : BodyValue). eqb (rank_of w b) q) xs h)

-- a list whose bodies are all of rank q passes the test
pub own_test : (w : World) (q : ℕ) (xs : List BodyValue) → All (λ b. rank_of w b ≡ q) xs → all_of_rank w q xs ≡ true
own_test w q xs h =
    list_all-from_AllPass (λ (b : BodyValue). eqb (rank_of w b) q) xs
    (All-weaker (λ (b : BodyValue). rank_of w b ≡ q) (λ (b : BodyValue). eqb (rank_of w b) q ≡ true) (λ b e. eq-eqb _ _ e) xs h)

eqb_false : (m n : ℕ) → eqb m n ≡ false → m ≢ n
eqb_false m n h e = let f : eqb m n ≡ true = eq-eqb _ _ e in let g : true ≡ false = sym f ∙ h in absurd (cc)

-- where the test fails, a body of the list is of another rank
pub test_other : (w : World) (q : ℕ) (xs : List BodyValue) → all_of_rank w q xs ≡ false → (b : BodyValue) × Contains xs b × (rank_of w b ≢ q)
test_other w q xs h =
    let r = not_all (λ (b : BodyValue). eqb (rank_of w b) q) xs h in
    (r.0, r.1, eqb_false (rank_of w r.0) q r.2)

-- where a body of the list is of another rank, the test fails
pub other_test : (w : World) (q : ℕ) (xs : List BodyValue) (b : BodyValue) → Contains xs b → rank_of w b ≢ q → all_of_rank w q xs ≡ false
other_test w q xs b h n = by_test (all_of_rank w q xs) refl
  where
    by_test : (t : Bool) → all_of_rank w q xs ≡ t → all_of_rank w q xs ≡ false
    by_test false e = e
    by_test true e = absurd (n (All-contains (λ (x : BodyValue). rank_of w x ≡ q) xs b (test_own w q xs e) h))

-- a list with bodies, all of rank q, has q for its first rank
pub first_of_own : (w : World) (q : ℕ) (xs : List BodyValue) → 0 < length xs → All (λ b. rank_of w b ≡ q) xs → first_rank w xs ≡ q
first_of_own w q [] h a = absurd (omega (arith, h))
first_of_own w q (x ∷ xs) h a = All-head (λ (b : BodyValue). rank_of w b ≡ q) x xs a

-- a list with bodies has one of its first rank
pub first_member : (w : World) (xs : List BodyValue) → 0 < length xs → (b : BodyValue) × Contains xs b × (rank_of w b ≡ first_rank w xs)
first_member w [] h = absurd (omega (arith, h))
first_member w (x ∷ xs) h = (x, head_has x xs, refl)

-- a list with bodies, all of rank q, passes the test of one rank
pub one_of_own : (w : World) (q : ℕ) (xs : List BodyValue) → 0 < length xs → All (λ b. rank_of w b ≡ q) xs → one_rank w xs ≡ true
one_of_own w q xs h a = own_test w (first_rank w xs) xs (subst (λ (r : ℕ). All (λ b. rank_of w b ≡ r) xs) (sym (first_of_own w q xs h a)) a)

-- a cell has the bodies of what it covers
pub covered_has : (w : World) (k c : ℕ) (b : BodyValue) → IsCell k → IsCell c → covers k c ≡ true → Contains (bodies_in w c) b → Contains (bodies_in w k) b
covered_has w k c b p q e h =
    let r = has_inside w.bodies c b h in
    inside_has w.bodies k b r.0 (covers-contains k c b p q e r.1)

-- where all bodies of a cell are of rank q, so are those of the cells that it covers
pub covered_own : (w : World) (q k c : ℕ) → IsCell k → IsCell c → covers k c ≡ true → IsOfRank w q k → IsOfRank w q c
covered_own w q k c i j e h =
    all_members (λ (b : BodyValue). rank_of w b ≡ q) (bodies_in w c)
    (λ b m. All-contains (λ (x : BodyValue). rank_of w x ≡ q) (bodies_in w k) b h (covered_has w k c b i j e m))

-- a body of a cell whose bodies are all of rank q is of rank q
pub rank_in_own : (w : World) (q c : ℕ) (b : BodyValue) → IsOfRank w q c → Contains (bodies_in w c) b → rank_of w b ≡ q
rank_in_own w q c b h m = All-contains (λ (x : BodyValue). rank_of w x ≡ q) (bodies_in w c) b h m

-- a cell whose bodies are all of one rank is or lies in a branch of this rank
pub owned_of_own : (w : World) (q c l : ℕ) → l ≤ 21 → HasLevel c l → 0 < length (bodies_in w c) → IsOfRank w q c → IsOwner w q c
owned_of_own w q c zero h p s a =
    (c, record { cell = (0, h, p); some = s; own = a; outermost = inl (level_zero c p) }, covers-self c 0 h p)
owned_of_own w q c (suc l) h p s a = by_parent (owned_of_own w q (parent c) l (omega arith) (parent_level c l p)) (all_of_rank w q (bodies_in w (parent c))) refl
  where
    by_parent : (0 < length (bodies_in w (parent c)) → IsOfRank w q (parent c) → IsOwner w q (parent c)) → (t : Bool) → all_of_rank w q (bodies_in w (parent c)) ≡ t → IsOwner w q c
    by_parent upper true e =
        let m = some_member (bodies_in w c) s in
        let above : Contains (bodies_in w (parent c)) m.0 = covered_has w (parent c) c m.0 (l, omega arith, parent_level c l p) (suc l, h, p) (parent-covers c l h p) m.1 in
        let r = upper (has_length (bodies_in w (parent c)) m.0 above) (test_own w q (bodies_in w (parent c)) e) in
        (r.0, r.1, covers-trans r.0 (parent c) c r.1.cell (l, omega arith, parent_level c l p) (suc l, h, p) r.2 (parent-covers c l h p))
    by_parent upper false e =
        (c, record { cell = (suc l, h, p); some = s; own = a; outermost = inr (test_other w q (bodies_in w (parent c)) e) }, covers-self c (suc l) h p)

-- and the other way round
pub own_of_owned : (w : World) (q c : ℕ) → IsCell c → IsOwner w q c → IsOfRank w q c
own_of_owned w q c i o = covered_own w q o.0 c o.1.cell i o.2 o.1.own

-- a rank owns a cell with bodies exactly where all bodies of the cell are of that rank
pub owner-is-own : (w : World) (q c : ℕ) → IsCell c → 0 < length (bodies_in w c) → IsOwner w q c ↔ IsOfRank w q c
owner-is-own w q c i s = (own_of_owned w q c i, owned_of_own w q c i.0 i.1 i.2 s)

-- a cell has one owner
pub one_owner : (w : World) (p q c : ℕ) → IsCell c → 0 < length (bodies_in w c) → IsOwner w p c → IsOwner w q c → p ≡ q
one_owner w p q c i s o r =
    let m = some_member (bodies_in w c) s in
    sym (rank_in_own w p c m.0 (own_of_owned w p c i o) m.1) ∙ rank_in_own w q c m.0 (own_of_owned w q c i r) m.1

-- bodies of one key are of one rank
pub deepest_own : (w : World) (c : ℕ) (b : BodyValue) → HasLevel c 21 → Contains (bodies_in w c) b → IsOfRank w (rank_of w b) c
deepest_own w c b p h =
    let key : (x : BodyValue) → contains c x ≡ true → key_of_body x ≡ c = λ x e. (let f : key_of_body x / 8 ^ (21 - 21) ≡ c = contains_front c 21 x (omega arith) p e in omega (arith, f)) in
    let own = key b (has_inside w.bodies c b h).1 in
    all_members (λ (x : BodyValue). rank_of w x ≡ rank_of w b) (bodies_in w c)
    (λ x m. ap w.rank (key x (has_inside w.bodies c x m).1 ∙ sym own))

-- each body lies in a branch of its rank
pub branch_of : (w : World) (b : BodyValue) → Contains w.bodies b → (c : ℕ) × IsBranch w (rank_of w b) c × (contains c b ≡ true)
branch_of w b h =
    let k = key_of_body b in
    let e : contains k b ≡ true = covers-self k 21 (omega arith) (body_level b) in
    let m : Contains (bodies_in w k) b = inside_has w.bodies k b h e in
    let o = owned_of_own w (rank_of w b) k 21 (omega arith) (body_level b) (has_length (bodies_in w k) b m) (deepest_own w k b (body_level b) m) in
    (o.0, o.1, o.2)

-- a branch lies in no branch above it
pub not_below : (w : World) (q k c l m : ℕ) (b : BodyValue) → IsBranch w q k → IsBranch w q c → l ≤ 21 → m ≤ 21 → HasLevel k l → HasLevel c m → contains k b ≡ true → contains c b ≡ true → l < m → ⊥
not_below w q k c l zero b x y h i p r e f n = absurd (omega (arith, n))
not_below w q k c l (suc m) b x y h i p r e f n =
    let over : covers k c ≡ true = common-covers k c l (suc m) b (omega arith) i p r e f in
    let higher : covers k (parent c) ≡ true = covers-parent k c l m (omega (arith, n)) i p r over in
    let own : IsOfRank w q (parent c) = covered_own w q k (parent c) x.cell (m, omega arith, parent_level c m r) higher x.own in
    elim y.outermost [
      | inl z ↦ let s : suc m ≡ 0 = one_level c (suc m) 0 i (omega arith) r (subst (λ (n : ℕ). HasLevel n 0) (sym z) root_level) in absurd (omega (arith, s))
      | inr z ↦ absurd (z.2 (rank_in_own w q (parent c) z.0 own z.1))
    ]

-- and in no other one
pub one_branch : (w : World) (p q k c : ℕ) (b : BodyValue) → IsBranch w p k → IsBranch w q c → Contains w.bodies b → contains k b ≡ true → contains c b ≡ true → (k ≡ c) × (p ≡ q)
one_branch w p q k c b x y h e f =
    let same : p ≡ q = sym (rank_in_own w p k b x.own (inside_has w.bodies k b h e)) ∙ rank_in_own w q c b y.own (inside_has w.bodies c b h f) in
    let z : IsBranch w q k = subst (λ (r : ℕ). IsBranch w r k) same x in
    let i = x.cell in
    let j = y.cell in
    elim (cases_lt i.0 j.0) [
      | inl n ↦ absurd (not_below w q k c i.0 j.0 b z y i.1 j.1 i.2 j.2 e f n)
      | inr n ↦ elim (cases_lt j.0 i.0) [
        | inl o ↦ absurd (not_below w q c k j.0 i.0 b y z j.1 i.1 j.2 i.2 f e o)
        | inr o ↦
            let s : j.0 ≡ i.0 = omega (arith, n, o) in
            (common-same k c i.0 b i.1 i.2 (subst (λ (n : ℕ). HasLevel c n) s j.2) e f, same)
      ]
    ]

-- a top cell has a body of another rank than any one
pub top_has_other : (w : World) (q c : ℕ) → IsTop w c → HasOther w q c
top_has_other w q c t =
    elim (cases_eq (rank_of w t.one) q) [
      | inl e ↦ (t.other, t.has_other, λ f. t.differ (e ∙ sym f))
      | inr n ↦ (t.one, t.has_one, n)
    ]

-- a top cell has bodies
pub top_some : (w : World) (c : ℕ) → IsTop w c → 0 < length (bodies_in w c)
top_some w c t = has_length (bodies_in w c) t.one t.has_one

-- a cell with a body of another rank than one of its own is a top cell
pub top_of_other : (w : World) (q c : ℕ) (b : BodyValue) → IsCell c → Contains (bodies_in w c) b → rank_of w b ≡ q → HasOther w q c → IsTop w c
top_of_other w q c b i h e o = record { cell = i; one = b; other = o.0; has_one = h; has_other = o.1; differ = λ f. o.2 (sym f ∙ e) }

-- a cell that passes the test of top cells is one
pub top_of_test : (w : World) (c : ℕ) → IsCell c → is_top w c ≡ true → IsTop w c
top_of_test w c i h = by_test (one_rank w (bodies_in w c)) refl
  where
    by_test : (t : Bool) → one_rank w (bodies_in w c) ≡ t → IsTop w c
    by_test true e = absurd (let f : false ≡ true = rw e at h in cc)
    by_test false e =
        let r = test_other w (first_rank w (bodies_in w c)) (bodies_in w c) e in
        let m = first_member w (bodies_in w c) (has_length (bodies_in w c) r.0 r.1) in
        top_of_other w (first_rank w (bodies_in w c)) c m.0 i m.1 m.2 r

-- a top cell passes the test
pub test_of_top : (w : World) (c : ℕ) → IsTop w c → is_top w c ≡ true
test_of_top w c t =
    let o = top_has_other w (first_rank w (bodies_in w c)) c t in
    let e : one_rank w (bodies_in w c) ≡ false = other_test w (first_rank w (bodies_in w c)) (bodies_in w c) o.0 o.1 o.2 in
    rw e refl

-- a top cell is above the deepest level
pub top_is_high : (w : World) (c l : ℕ) → l ≤ 21 → HasLevel c l → IsTop w c → l < 21
top_is_high w c l h p t =
    elim (cases_lt l 21) [
      | inl n ↦ n
      | inr n ↦
          let e : l ≡ 21 = omega (arith, h, n) in
          let own = deepest_own w c t.one (subst (λ (n : ℕ). HasLevel c n) e p) t.has_one in
          absurd (t.differ (sym (rank_in_own w (rank_of w t.one) c t.other own t.has_other)))
    ]

-- a cell with bodies is a top cell, or all of them are of one rank
pub one_or_more : (w : World) (c : ℕ) → IsCell c → 0 < length (bodies_in w c) → ((q : ℕ) × IsOfRank w q c) ⊎ IsTop w c
one_or_more w c i s = by_test (one_rank w (bodies_in w c)) refl
  where
    by_test : (t : Bool) → one_rank w (bodies_in w c) ≡ t → ((q : ℕ) × IsOfRank w q c) ⊎ IsTop w c
    by_test true e = inl (first_rank w (bodies_in w c), test_own w (first_rank w (bodies_in w c)) (bodies_in w c) e)
    by_test false e = inr (top_of_test w c i (rw e refl))

-- a child with bodies of a top cell is a branch or a top cell
pub child_of_top : (w : World) (c l d : ℕ) → suc l ≤ 21 → HasLevel c l → d < 8 → IsTop w c → 0 < length (bodies_in w (child c d)) → ((q : ℕ) × IsBranch w q (child c d)) ⊎ IsTop w (child c d)
child_of_top w c l d h p k t s =
    let i = child_cell c d l h p k in
    elim (one_or_more w (child c d) i s) [
      | inl a ↦ inl (a.0, record { cell = i; some = s; own = a.1; outermost = inr (subst (HasOther w a.0) (sym (parent_of_child c d k)) (top_has_other w a.0 c t)) })
      | inr a ↦ inr a
    ]

-- what lies above a branch is a top cell
pub above_branch : (w : World) (q c l : ℕ) → suc l ≤ 21 → HasLevel c (suc l) → IsBranch w q c → IsTop w (parent c)
above_branch w q c l h p x =
    let i : IsCell (parent c) = (l, omega arith, parent_level c l p) in
    elim x.outermost [
      | inl z ↦ let s : suc l ≡ 0 = one_level c (suc l) 0 h (omega arith) p (subst (λ (n : ℕ). HasLevel n 0) (sym z) root_level) in absurd (omega (arith, s))
      | inr z ↦
          let m = some_member (bodies_in w c) x.some in
          top_of_other w q (parent c) m.0 i (covered_has w (parent c) c m.0 i (suc l, h, p) (parent-covers c l h p) m.1) (rank_in_own w q c m.0 x.own m.1) z
    ]

-- a cell that covers a top cell is one
pub covering_top : (w : World) (k c : ℕ) → IsCell k → covers k c ≡ true → IsTop w c → IsTop w k
covering_top w k c i e t =
    record { cell = i; one = t.one; other = t.other; has_one = covered_has w k c t.one i t.cell e t.has_one; has_other = covered_has w k c t.other i t.cell e t.has_other; differ = t.differ }
