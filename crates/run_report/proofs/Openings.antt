-- No body opens a cell twice.
use Rattle.std.proofs.Common.{ℕ, zero, suc, ◌≡◌, ◌+◌, ◌-◌, ◌/◌, ◌^◌, ◌<◌, ◌≤◌, Bool, true, false, cond, eqb, List, [], ◌∷◌, ◌++◌, flat_map, sym, refl, ap, ◌∙◌, subst, inl, inr, arith}
use Rattle.std.specs.Prelude.{Contains, ◌⊎◌, count_by}
use Rattle.std.proofs.lemmas.Bool.{cases_eq, eq-eqb, ne_eqb}
use Rattle.std.proofs.lemmas.List.Sums.{sum_by-cons, sum_by-append}
use Rattle.hot_units.specs.Values.{CellValue}
use Rattle.hot_units.specs.Keys.{HasLevel, child, digits}
use Rattle.hot_units.proofs.Members.{head_has, tail_has, has_flat, have_digits}
use Rattle.hot_units.proofs.Sorts.{Ascends, above_member, digits_ascend}
use Rattle.hot_model.specs.Trees.{opened_in, opened}
use Rattle.hot_model.proofs.Parts.{child-level}
use Rattle.hot_model.proofs.Fronts.{drop_twice, parent_of_child, one_level}
use Rattle.rank_model.specs.World.{World}
use Rattle.rank_model.proofs.Asks.{Empty, Shut, Last, Parted, way, opened-empty, opened-shut, opened-last, opened-parted, Found, opened_child, opened_found}

abbrev one_if : Bool → ℕ
one_if b = cond b 1 0

-- how often a number stands in a list
abbrev often : ℕ → List ℕ → ℕ
often k xs = count_by (eqb k) xs

often_cons : (k x : ℕ) (xs : List ℕ) → often k (x ∷ xs) ≡ one_if (eqb k x) + often k xs
often_cons k x xs = sum_by-cons (λ (j : ℕ). cond (eqb k j) 1 0) x xs

often_append : (k : ℕ) (xs ys : List ℕ) → often k (xs ++ ys) ≡ often k xs + often k ys
often_append k xs ys = sum_by-append (λ (j : ℕ). cond (eqb k j) 1 0) xs ys

has_or_none : (k : ℕ) (xs : List ℕ) → Contains xs k ⊎ (often k xs ≡ 0)
has_or_none k [] = inr refl
has_or_none k (x ∷ xs) =
    elim (cases_eq k x) [
      | inl e ↦ inl (subst (λ (y : ℕ). Contains (x ∷ xs) y) (sym e) (head_has x xs))
      | inr n ↦ elim (has_or_none k xs) [
        | inl h ↦ inl (tail_has x xs k h)
        | inr z ↦
            let c = often_cons k x xs in
            let t : one_if (eqb k x) ≡ 0 = ap one_if (ne_eqb _ _ n) in
            inr (omega (arith, c, t, z))
      ]
    ]

often_none : (k : ℕ) (xs : List ℕ) → (Contains xs k → ⊥) → often k xs ≡ 0
often_none k xs n = elim (has_or_none k xs) [ inl h ↦ absurd (n h) | inr z ↦ z ]

-- a number that at most one of some lists has, at most once, stands at most once in all of them
flat_once : (f : ℕ → List ℕ) (k : ℕ) (ds : List ℕ) → Ascends ds → ((d : ℕ) → Contains ds d → often k (f d) ≤ 1)
    → ((d e : ℕ) → Contains ds d → Contains ds e → Contains (f d) k → Contains (f e) k → d ≡ e) → often k (flat_map f ds) ≤ 1
flat_once f k [] a o s = omega arith
flat_once f k (d ∷ ds) a o s =
    let sum : often k (flat_map f (d ∷ ds)) ≡ often k (f d) + often k (flat_map f ds) = often_append k (f d) (flat_map f ds) in
    let rest = flat_once f k ds a.1 (λ j h. o j (tail_has d ds j h)) (λ i j g h. s i j (tail_has d ds i g) (tail_has d ds j h)) in
    let one = o d (head_has d ds) in
    elim (has_or_none k (f d)) [
      | inl h ↦
          let none : often k (flat_map f ds) ≡ 0 = often_none k (flat_map f ds) (λ m. (
          let r = has_flat f ds k m in
          let same : d ≡ r.0 = s d r.0 (head_has d ds) (tail_has d ds r.0 r.1) h r.2 in
          let above = above_member d ds r.0 a.0 r.1 in
          absurd (omega (arith, same, above)))) in
          omega (arith, sum, one, none)
      | inr z ↦ omega (arith, sum, rest, z)
    ]

-- k is a cell that has c as its front, and at most `deep` digits more
abbrev IsBelow : ℕ → ℕ → ℕ → Type 0
IsBelow deep c k = (j : ℕ) × (j ≤ deep) × HasLevel k (21 - deep + j) × (k / 8 ^ j ≡ c)

below_itself : (deep c k : ℕ) → HasLevel c (21 - deep) → k ≡ c → IsBelow deep c k
below_itself deep c k p e =
    let level : HasLevel k (21 - deep) = subst (λ (x : ℕ). HasLevel x (21 - deep)) (sym e) p in
    let deeper : 21 - deep ≡ 21 - deep + 0 = omega arith in
    let front : k / 8 ^ 0 ≡ c = omega (arith, e) in
    (0, omega arith, subst (λ (n : ℕ). HasLevel k n) deeper level, front)

below_child : (deep c d k : ℕ) → suc deep ≤ 21 → d < 8 → IsBelow deep (child c d) k → IsBelow (suc deep) c k
below_child deep c d k h u b =
    let deeper : 21 - deep + b.0 ≡ 21 - suc deep + (b.0 + 1) = omega (arith, h) in
    let front : k / 8 ^ (b.0 + 1) ≡ c = sym (drop_twice k b.0 1) ∙ ap (λ (x : ℕ). x / 8 ^ 1) b.3 ∙ parent_of_child c d u in
    (b.0 + 1, omega (arith, b.1), subst (λ (n : ℕ). HasLevel k n) deeper b.2, front)

child_level : (c d deep : ℕ) → suc deep ≤ 21 → HasLevel c (21 - suc deep) → d < 8 → HasLevel (child c d) (21 - deep)
child_level c d deep h p u =
    let deeper : suc (21 - suc deep) ≡ 21 - deep = omega (arith, h) in
    subst (λ (n : ℕ). HasLevel (child c d) n) deeper (child-level c (21 - suc deep) d p u)

-- what is opened in a cell lies in it
opened_below : (opens : CellValue → Bool) (w : World) (deep c k : ℕ) → deep ≤ 21 → HasLevel c (21 - deep) → Contains (opened_in opens w.leaf w.bodies deep c) k → IsBelow deep c k
opened_below opens w zero c k h p m =
    let f = opened_found opens w zero c k m in
    elim f.2 [
      | inl same ↦ below_itself zero c k p same
      | inr x ↦ absurd (omega (arith, x.1.1))
    ]
opened_below opens w (suc deep) c k h p m =
    let f = opened_found opens w (suc deep) c k m in
    elim f.2 [
      | inl same ↦ below_itself (suc deep) c k p same
      | inr x ↦
          let same : x.1.0 ≡ deep = omega (arith, x.1.1) in
          let found : Found (opened_child opens w deep c) k = subst (λ (z : ℕ). Found (opened_child opens w z c) k) same x.1.2 in
          below_child deep c found.0 k h found.1 (opened_below opens w deep (child c found.0) k (omega (arith, h)) (child_level c found.0 deep h p found.1) found.2)
    ]

-- no cell lies in two children
one_child : (deep c d e k : ℕ) → deep ≤ 21 → IsBelow deep (child c d) k → IsBelow deep (child c e) k → d ≡ e
one_child deep c d e k h a b =
    let l = one_level k (21 - deep + a.0) (21 - deep + b.0) (omega (arith, h, a.1)) (omega (arith, h, b.1)) a.2 b.2 in
    let j : a.0 ≡ b.0 = omega (arith, l) in
    let s : child c d ≡ child c e = sym a.3 ∙ ap (λ (n : ℕ). k / 8 ^ n) j ∙ b.3 in
    omega (arith, s)

-- nor does a cell lie in its own child
not_in_child : (deep c d : ℕ) → suc deep ≤ 21 → HasLevel c (21 - suc deep) → IsBelow deep (child c d) c → ⊥
not_in_child deep c d h p b =
    let l = one_level c (21 - suc deep) (21 - deep + b.0) (omega arith) (omega (arith, h, b.1)) p b.2 in
    absurd (omega (arith, h, l))

once_at : (k c : ℕ) → often k (c ∷ []) ≤ 1
once_at k c = elim (cases_eq k c) [
  | inl e ↦ (let a = often_cons k c [] in let t : one_if (eqb k c) ≡ 1 = ap one_if (eq-eqb _ _ e) in omega (arith, a, t))
  | inr n ↦ (let a = often_cons k c [] in let t : one_if (eqb k c) ≡ 0 = ap one_if (ne_eqb _ _ n) in omega (arith, a, t))
]

-- the cell itself, and what is opened in its children
once_parted : (opens : CellValue → Bool) (w : World) (deep c k : ℕ) → suc deep ≤ 21 → HasLevel c (21 - suc deep) → ((d : ℕ) → d < 8 → often k (opened_child opens w deep c d) ≤ 1)
    → often k (c ∷ flat_map (opened_child opens w deep c) digits) ≤ 1
once_parted opens w deep c k h p each =
    let f = opened_child opens w deep c in
    let below : (d : ℕ) → d < 8 → Contains (f d) k → IsBelow deep (child c d) k =
    λ d u m. opened_below opens w deep (child c d) k (omega (arith, h)) (child_level c d deep h p u) m in
    let sum = often_cons k c (flat_map f digits) in
    let rest = flat_once f k digits digits_ascend (λ d m. each d (have_digits d m))
    (λ d e m n x y. one_child deep c d e k (omega (arith, h)) (below d (have_digits d m) x) (below e (have_digits e n) y)) in
    elim (cases_eq k c) [
      | inl same ↦
          let none : often k (flat_map f digits) ≡ 0 = often_none k (flat_map f digits) (λ m. (
          let r = has_flat f digits k m in
          not_in_child deep c r.0 h p (subst (λ (x : ℕ). IsBelow deep (child c r.0) x) same (below r.0 (have_digits r.0 r.1) r.2)))) in
          let t : one_if (eqb k c) ≡ 1 = ap one_if (eq-eqb _ _ same) in
          omega (arith, sum, none, t)
      | inr n ↦
          let t : one_if (eqb k c) ≡ 0 = ap one_if (ne_eqb _ _ n) in
          omega (arith, sum, rest, t)
    ]

once_in : (opens : CellValue → Bool) (w : World) (deep c k : ℕ) → deep ≤ 21 → HasLevel c (21 - deep) → often k (opened_in opens w.leaf w.bodies deep c) ≤ 1
once_in opens w zero c k h p =
    elim (way w opens zero c) [
      | Empty e ↦ subst (λ (xs : List ℕ). often k xs ≤ 1) (sym (opened-empty opens w zero c e)) (omega arith)
      | Shut e o ↦ subst (λ (xs : List ℕ). often k xs ≤ 1) (sym (opened-shut opens w zero c e o)) (omega arith)
      | Last e o l ↦ subst (λ (xs : List ℕ). often k xs ≤ 1) (sym (opened-last opens w zero c e o l)) (once_at k c)
      | Parted e o l ↦ absurd (let f : true ≡ false = l in cc)
    ]
once_in opens w (suc deep) c k h p =
    elim (way w opens (suc deep) c) [
      | Empty e ↦ subst (λ (xs : List ℕ). often k xs ≤ 1) (sym (opened-empty opens w (suc deep) c e)) (omega arith)
      | Shut e o ↦ subst (λ (xs : List ℕ). often k xs ≤ 1) (sym (opened-shut opens w (suc deep) c e o)) (omega arith)
      | Last e o l ↦ subst (λ (xs : List ℕ). often k xs ≤ 1) (sym (opened-last opens w (suc deep) c e o l)) (once_at k c)
      | Parted e o l ↦
          subst (λ (xs : List ℕ). often k xs ≤ 1) (sym (opened-parted opens w deep c e o l))
          (once_parted opens w deep c k h p (λ d u. once_in opens w deep (child c d) k (omega (arith, h)) (child_level c d deep h p u)))
    ]

-- a body opens each cell once at most
pub opens_once : (opens : CellValue → Bool) (w : World) (c : ℕ) → count_by (eqb c) (opened opens w.leaf w.bodies) ≤ 1
opens_once opens w c = once_in opens w 21 1 c (omega arith) (omega arith, omega arith)
