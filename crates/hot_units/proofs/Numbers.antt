-- The greatest and the least of a list are members, and bounds.
use Rattle.std.proofs.Common.{ℕ, ◌≡◌, ◌≤◌, Bool, true, false, leb, List, [], ◌∷◌, sym, refl, ◌∙◌, subst, inl, inr, arith, Option, Some, None}
use Rattle.std.proofs.lemmas.Bool.{cases_lt, le-leb, lt-leb}
use Rattle.std.specs.Prelude.{Contains, ◌⊎◌, if◌then◌else◌}
use Rattle.hot_units.specs.Numbers.{more_of, less_of, greatest, least}
use Rattle.hot_units.proofs.Members.{nil_has, cons_cases, head_has, tail_has}

-- a number is at most the greater of it and another one
more_is : (k : ℕ) (o : Option ℕ) → k ≤ more_of k o
more_is k None = omega arith
more_is k (Some m) = elim (cases_lt k m) [
  | inl l ↦ let t : leb m k ≡ false = lt-leb _ _ l in rw t (omega (arith, l))
  | inr l ↦ let t : leb m k ≡ true = le-leb _ _ l in rw t (omega arith)
]

more_over : (k m : ℕ) → m ≤ more_of k (Some m)
more_over k m = elim (cases_lt k m) [
  | inl l ↦ let t : leb m k ≡ false = lt-leb _ _ l in rw t (omega arith)
  | inr l ↦ let t : leb m k ≡ true = le-leb _ _ l in rw t l
]

more_either : (k m : ℕ) → (more_of k (Some m) ≡ k) ⊎ (more_of k (Some m) ≡ m)
more_either k m = elim (leb m k) as (λ (t : Bool). ((if t then k else m) ≡ k) ⊎ ((if t then k else m) ≡ m)) [ true ↦ inl refl | false ↦ inr refl ]

less_is : (k : ℕ) (o : Option ℕ) → less_of k o ≤ k
less_is k None = omega arith
less_is k (Some m) = elim (cases_lt m k) [
  | inl l ↦ let t : leb k m ≡ false = lt-leb _ _ l in rw t (omega (arith, l))
  | inr l ↦ let t : leb k m ≡ true = le-leb _ _ l in rw t (omega arith)
]

less_under : (k m : ℕ) → less_of k (Some m) ≤ m
less_under k m = elim (cases_lt m k) [
  | inl l ↦ let t : leb k m ≡ false = lt-leb _ _ l in rw t (omega arith)
  | inr l ↦ let t : leb k m ≡ true = le-leb _ _ l in rw t l
]

less_either : (k m : ℕ) → (less_of k (Some m) ≡ k) ⊎ (less_of k (Some m) ≡ m)
less_either k m = elim (leb k m) as (λ (t : Bool). ((if t then k else m) ≡ k) ⊎ ((if t then k else m) ≡ m)) [ true ↦ inl refl | false ↦ inr refl ]

some_same : (x y : ℕ) → Some x ≡ Some y → x ≡ y
some_same x y e = subst (λ (o : Option ℕ). value_is o) e refl
  where
    value_is : Option ℕ → Type 0
    value_is None = ⊥
    value_is (Some z) = x ≡ z

-- every member has one at least as great that is the greatest
pub greatest_over : (ks : List ℕ) (j : ℕ) → Contains ks j → (m : ℕ) × (greatest ks ≡ Some m) × (j ≤ m)
unfolding greatest
greatest_over [] j h = absurd (nil_has j h)
greatest_over (k ∷ ks) j h =
    elim (cons_cases k ks j h) [
      | inl e ↦ (more_of k (greatest ks), refl, (let p = more_is k (greatest ks) in omega (arith, p, e)))
      | inr e ↦
          let r = greatest_over ks j e in
          (more_of k (greatest ks), refl, (rw (r.1) (let p = more_over k r.0 in omega (arith, p, r.2))))
    ]

-- the greatest of a list is a member
pub greatest_has : (ks : List ℕ) (m : ℕ) → greatest ks ≡ Some m → Contains ks m
unfolding greatest
greatest_has [] m h = absurd (let e : None ≡ Some m = h in cc)
greatest_has (k ∷ ks) m h = by_rest (greatest ks) refl h (greatest_has ks)
  where
    by_rest : (o : Option ℕ) → greatest ks ≡ o → Some (more_of k o) ≡ Some m → ((n : ℕ) → greatest ks ≡ Some n → Contains ks n) → Contains (k ∷ ks) m
    by_rest None e f ih = let s = some_same (more_of k None) m f in subst (λ (z : ℕ). Contains (k ∷ ks) z) s (head_has k ks)
    by_rest (Some n) e f ih =
        let s = some_same (more_of k (Some n)) m f in
        elim (more_either k n) [
          | inl i ↦ subst (λ (z : ℕ). Contains (k ∷ ks) z) (sym i ∙ s) (head_has k ks)
          | inr i ↦ subst (λ (z : ℕ). Contains (k ∷ ks) z) (sym i ∙ s) (tail_has k ks n (ih n e))
        ]

-- every member has one at most as great that is the least
pub least_under : (ks : List ℕ) (j : ℕ) → Contains ks j → (m : ℕ) × (least ks ≡ Some m) × (m ≤ j)
unfolding least
least_under [] j h = absurd (nil_has j h)
least_under (k ∷ ks) j h =
    elim (cons_cases k ks j h) [
      | inl e ↦ (less_of k (least ks), refl, (let p = less_is k (least ks) in omega (arith, p, e)))
      | inr e ↦
          let r = least_under ks j e in
          (less_of k (least ks), refl, (rw (r.1) (let p = less_under k r.0 in omega (arith, p, r.2))))
    ]

-- the least of a list is a member
pub least_has : (ks : List ℕ) (m : ℕ) → least ks ≡ Some m → Contains ks m
unfolding least
least_has [] m h = absurd (let e : None ≡ Some m = h in cc)
least_has (k ∷ ks) m h = by_rest (least ks) refl h (least_has ks)
  where
    by_rest : (o : Option ℕ) → least ks ≡ o → Some (less_of k o) ≡ Some m → ((n : ℕ) → least ks ≡ Some n → Contains ks n) → Contains (k ∷ ks) m
    by_rest None e f ih = let s = some_same (less_of k None) m f in subst (λ (z : ℕ). Contains (k ∷ ks) z) s (head_has k ks)
    by_rest (Some n) e f ih =
        let s = some_same (less_of k (Some n)) m f in
        elim (less_either k n) [
          | inl i ↦ subst (λ (z : ℕ). Contains (k ∷ ks) z) (sym i ∙ s) (head_has k ks)
          | inr i ↦ subst (λ (z : ℕ). Contains (k ∷ ks) z) (sym i ∙ s) (tail_has k ks n (ih n e))
        ]
