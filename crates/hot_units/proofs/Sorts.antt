-- Lists of numbers that ascend, and sums over them in which one term counts.
use Rattle.std.proofs.Common.{ℕ, zero, suc, ◌≡◌, ◌+◌, ◌<◌, ◌≤◌, Bool, true, false, cond, eqb, List, [], ◌∷◌, ◌++◌, length, map, filter, flat_map, sum_by, sym, refl, ◌∙◌, subst, inl, inr, arith}
use Rattle.std.specs.Prelude.{Contains, ◌≢◌, ◌⊎◌}
use Rattle.std.specs.List.{dedup, dedup_from}
use Rattle.std.proofs.lemmas.Bool.{cases_lt, cases_eq, eq-eqb, ne_eqb}
use Rattle.std.specs.List.Sorted.{IsStrictlyIncreasing}
use Rattle.std.proofs.lemmas.List.Sums.{sum_by-cons, sum_by-append}
use Rattle.std.proofs.lemmas.List.Elements.{Contains-append_left, Contains-append_right, Contains-append_cases}
use Rattle.hot_units.specs.Numbers.{numbers_below}
use Rattle.hot_units.specs.Keys.{digits}
use Rattle.hot_units.proofs.Members.{nil_has, cons_cases, head_has, tail_has}

-- all of a list are at least k, and above k
abbrev pub AllFrom : ℕ → List ℕ → Type 0
AllFrom k [] = Unit {0}
AllFrom k (j ∷ js) = (k ≤ j) × AllFrom k js

-- all of a list are above k
abbrev pub AllAbove : ℕ → List ℕ → Type 0
AllAbove k [] = Unit {0}
AllAbove k (j ∷ js) = (k < j) × AllAbove k js

-- all of a list are below k
abbrev pub AllUnder : ℕ → List ℕ → Type 0
AllUnder k [] = Unit {0}
AllUnder k (j ∷ js) = (j < k) × AllUnder k js

-- the numbers never fall along the list
abbrev pub Rises : List ℕ → Type 0
Rises [] = Unit {0}
Rises (k ∷ ks) = AllFrom k ks × Rises ks

-- each number of the list is below all behind it
abbrev pub Ascends : List ℕ → Type 0
Ascends [] = Unit {0}
Ascends (k ∷ ks) = AllAbove k ks × Ascends ks

above_from : (k j : ℕ) (xs : List ℕ) → k < j → AllFrom j xs → AllAbove k xs
above_from k j [] h a = tt
above_from k j (x ∷ xs) h a = (omega (arith, h, a.0), above_from k j xs h a.1)

from_less : (k j : ℕ) (xs : List ℕ) → k ≤ j → AllFrom j xs → AllFrom k xs
from_less k j [] h a = tt
from_less k j (x ∷ xs) h a = (omega (arith, h, a.0), from_less k j xs h a.1)

under_more : (k j : ℕ) (xs : List ℕ) → k ≤ j → AllUnder k xs → AllUnder j xs
under_more k j [] h a = tt
under_more k j (x ∷ xs) h a = (omega (arith, h, a.0), under_more k j xs h a.1)

-- a member of a list above k is above k
pub above_member : (k : ℕ) (xs : List ℕ) (j : ℕ) → AllAbove k xs → Contains xs j → k < j
above_member k [] j a m = absurd (nil_has j m)
above_member k (x ∷ xs) j a m =
    elim (cons_cases x xs j m) [
      | inl e ↦ omega (arith, e, a.0)
      | inr e ↦ above_member k xs j a.1 e
    ]

-- a list that rises without what stands twice ascends
dedup_ascends : (k : ℕ) (xs : List ℕ) → AllFrom k xs → Rises xs → Ascends (dedup_from eqb k xs) × AllFrom k (dedup_from eqb k xs)
dedup_ascends k [] a r = ((tt, tt), (omega arith, tt))
dedup_ascends k (x ∷ xs) a r =
    elim (cases_eq x k) [
      | inl e ↦ let t : eqb x k ≡ true = eq-eqb _ _ e in rw t (dedup_ascends k xs a.1 r.1)
      | inr n ↦
          let t : eqb x k ≡ false = ne_eqb _ _ n in
          let d = dedup_ascends x xs r.0 r.1 in
          let lt : k < x = at_most k x a.0 n in
          rw t ((above_from k x (dedup_from eqb x xs) lt d.1, d.0), (omega arith, from_less k x (dedup_from eqb x xs) a.0 d.1))
    ]
  where
    at_most : (k x : ℕ) → k ≤ x → x ≢ k → k < x
    at_most k x h n =
        elim (cases_lt k x) [
          | inl l ↦ l
          | inr l ↦ absurd (n (omega (arith, h, l)))
        ]

-- a list that rises ascends once what stands twice is taken out
pub dedup_rises : (xs : List ℕ) → Rises xs → Ascends (dedup eqb xs)
dedup_rises [] r = tt
dedup_rises (x ∷ xs) r = (dedup_ascends x xs r.0 r.1).0

dedup_from_short : (k : ℕ) (xs : List ℕ) → length (dedup_from eqb k xs) ≤ suc (length xs)
dedup_from_short k [] = omega arith
dedup_from_short k (x ∷ xs) =
    let a = dedup_from_short k xs in
    let b = dedup_from_short x xs in
    elim (eqb x k) as (λ (t : Bool). length (cond t (dedup_from eqb k xs) (k ∷ dedup_from eqb x xs)) ≤ suc (suc (length xs))) [
      | true ↦ omega (arith, a)
      | false ↦ omega (arith, b)
    ]

-- without what stands twice in a row a list is no longer
pub dedup_short : (xs : List ℕ) → length (dedup eqb xs) ≤ length xs
dedup_short [] = omega arith
dedup_short (x ∷ xs) = dedup_from_short x xs

above_append : (k m : ℕ) (xs ys : List ℕ) → AllAbove k xs → k < m → AllFrom m ys → AllAbove k (xs ++ ys)
above_append k m [] ys a l f = above_from k m ys l f
above_append k m (x ∷ xs) ys a l f = (a.0, above_append k m xs ys a.1 l f)

-- two lists that ascend, one below m and one from m on, ascend when joined
pub ascends_append : (m : ℕ) (xs ys : List ℕ) → Ascends xs → Ascends ys → AllUnder m xs → AllFrom m ys → Ascends (xs ++ ys)
ascends_append m [] ys a b u f = b
ascends_append m (x ∷ xs) ys a b u f = (above_append x m xs ys a.0 u.0 f, ascends_append m xs ys a.1 b u.1 f)

-- two lists below m are below m when joined
pub under_append : (m : ℕ) (xs ys : List ℕ) → AllUnder m xs → AllUnder m ys → AllUnder m (xs ++ ys)
under_append m [] ys a b = b
under_append m (x ∷ xs) ys a b = (a.0, under_append m xs ys a.1 b)

-- by members
pub all_from : (k : ℕ) (xs : List ℕ) → ((j : ℕ) → Contains xs j → k ≤ j) → AllFrom k xs
all_from k [] f = tt
all_from k (x ∷ xs) f = (f x (head_has x xs), all_from k xs (λ j m. f j (tail_has x xs j m)))

-- a list whose members are all below k is below k
pub all_under : (k : ℕ) (xs : List ℕ) → ((j : ℕ) → Contains xs j → j < k) → AllUnder k xs
all_under k [] f = tt
all_under k (x ∷ xs) f = (f x (head_has x xs), all_under k xs (λ j m. f j (tail_has x xs j m)))

above_filter : (k : ℕ) (p : ℕ → Bool) (xs : List ℕ) → AllAbove k xs → AllAbove k (filter p xs)
above_filter k p [] a = tt
above_filter k p (x ∷ xs) a = elim (p x) as (λ (t : Bool). AllAbove k (cond t (x ∷ filter p xs) (filter p xs))) [
  | true ↦ (a.0, above_filter k p xs a.1)
  | false ↦ above_filter k p xs a.1
]

-- what is kept of a list that ascends ascends
pub ascends_filter : (p : ℕ → Bool) (xs : List ℕ) → Ascends xs → Ascends (filter p xs)
ascends_filter p [] a = tt
ascends_filter p (x ∷ xs) a = elim (p x) as (λ (t : Bool). Ascends (cond t (x ∷ filter p xs) (filter p xs))) [
  | true ↦ (above_filter x p xs a.0, ascends_filter p xs a.1)
  | false ↦ ascends_filter p xs a.1
]

-- a list that ascends is strictly increasing
pub ascends_strict : (xs : List ℕ) → Ascends xs → IsStrictlyIncreasing xs
ascends_strict [] a k h = absurd (omega (arith, h))
ascends_strict (x ∷ []) a k h = absurd (omega (arith, h))
ascends_strict (x ∷ y ∷ ys) a zero h = a.0.0
ascends_strict (x ∷ y ∷ ys) a (suc k) h =
    let e : suc k + 1 ≡ suc (k + 1) = omega arith in
    rw e (ascends_strict (y ∷ ys) a.1 k (omega (arith, h)))

-- a sum in which no term counts, and one in which one does
pub sum_none : {X : Type 0} (p : X → Bool) (v : ℕ) (xs : List X) → ((x : X) → Contains xs x → p x ≡ false) → sum_by (λ x. cond (p x) v 0) xs ≡ 0
sum_none p v [] f = refl
sum_none p v (x ∷ xs) f =
    let t : p x ≡ false = f x (head_has x xs) in
    let r = sum_none p v xs (λ y m. f y (tail_has x xs y m)) in
    sum_by-cons (λ y. cond (p y) v 0) x xs ∙ rw (t, r) (omega arith)

one_not : (p : ℕ → Bool) (j : ℕ) → (p j ≡ true → ⊥) → p j ≡ false
one_not p j n = by_test (p j) refl
  where
    by_test : (t : Bool) → p j ≡ t → p j ≡ false
    by_test true e = absurd (n e)
    by_test false e = e

-- a sum of v for each that passes is v, where one member of a list that ascends passes
pub sum_one : (p : ℕ → Bool) (v : ℕ) (xs : List ℕ) (k : ℕ) → Ascends xs → Contains xs k → p k ≡ true → ((j : ℕ) → Contains xs j → p j ≡ true → j ≡ k) → sum_by (λ j. cond (p j) v 0) xs ≡ v
sum_one p v [] k a m e f = absurd (nil_has k m)
sum_one p v (x ∷ xs) k a m e f =
    elim (cons_cases x xs k m) [
      | inl same ↦
          let t : p x ≡ true = subst (λ z. p z ≡ true) same e in
          let r : sum_by (λ j. cond (p j) v 0) xs ≡ 0 = sum_none p v xs (λ j n. one_not p j (λ g. (let h = f j (tail_has x xs j n) g in let l = above_member x xs j a.0 n in absurd (omega (arith, h, l, same))))) in
          sum_by-cons (λ y. cond (p y) v 0) x xs ∙ rw (t, r) (omega arith)
      | inr n ↦
          let t : p x ≡ false = one_not p x (λ g. (let h = f x (head_has x xs) g in let l = above_member x xs k a.0 n in absurd (omega (arith, h, l)))) in
          let r : sum_by (λ j. cond (p j) v 0) xs ≡ v = sum_one p v xs k a.1 n e (λ j b g. f j (tail_has x xs j b) g) in
          sum_by-cons (λ y. cond (p y) v 0) x xs ∙ rw (t, r) (omega arith)
    ]

-- sums of sums
pub sum_same : {X : Type 0} (f g : X → ℕ) (xs : List X) → ((x : X) → Contains xs x → f x ≡ g x) → sum_by f xs ≡ sum_by g xs
sum_same f g [] h = refl
sum_same f g (x ∷ xs) h = omega (arith, sum_by-cons f x xs, sum_by-cons g x xs, h x (head_has x xs), sum_same f g xs (λ y m. h y (tail_has x xs y m)))

-- the sum of two functions added is the two sums added
pub sum_both : {X : Type 0} (f g : X → ℕ) (xs : List X) → sum_by (λ x. f x + g x) xs ≡ sum_by f xs + sum_by g xs
sum_both f g [] = refl
sum_both f g (x ∷ xs) = omega (arith, sum_by-cons f x xs, sum_by-cons g x xs, sum_by-cons (λ y. f y + g y) x xs, sum_both f g xs)

-- a filtered sum is the sum with 0 for what does not pass
pub sum_filter : {X : Type 0} (f : X → ℕ) (p : X → Bool) (xs : List X) → sum_by f (filter p xs) ≡ sum_by (λ x. cond (p x) (f x) 0) xs
sum_filter f p [] = refl
sum_filter f p (x ∷ xs) =
    let r = sum_filter f p xs in
    elim (p x) as (λ (t : Bool). sum_by f (cond t (x ∷ filter p xs) (filter p xs)) ≡ cond t (f x) 0 + sum_by (λ y. cond (p y) (f y) 0) xs) [
      | true ↦ omega (arith, r, sum_by-cons f x (filter p xs))
      | false ↦ omega (arith, r)
    ]
    ∙ sym (sum_by-cons (λ y. cond (p y) (f y) 0) x xs)

-- a sum over the joined list is the sum of the sums over its parts
pub sum_flat : {X Y : Type 0} (f : Y → ℕ) (g : X → List Y) (xs : List X) → sum_by f (flat_map g xs) ≡ sum_by (λ x. sum_by f (g x)) xs
sum_flat f g [] = refl
sum_flat f g (x ∷ xs) = omega (arith, sum_by-append f (g x) (flat_map g xs), sum_by-cons (λ y. sum_by f (g y)) x xs, sum_flat f g xs)

-- a sum over the values of a function is a sum of the function's values
pub sum_map : {X Y : Type 0} (f : Y → ℕ) (g : X → Y) (xs : List X) → sum_by f (map g xs) ≡ sum_by (λ x. f (g x)) xs
sum_map f g [] = refl
sum_map f g (x ∷ xs) = omega (arith, sum_by-cons f (g x) (map g xs), sum_by-cons (λ y. f (g y)) x xs, sum_map f g xs)

-- the numbers below n
pub below_has : (n k : ℕ) → k < n → Contains (numbers_below n) k
unfolding numbers_below
below_has zero k h = absurd (omega (arith, h))
below_has (suc n) k h =
    elim (cases_lt k n) [
      | inl l ↦ Contains-append_left (numbers_below n) (n ∷ []) k (below_has n k l)
      | inr l ↦ let e : n ≡ k = omega (arith, h, l) in Contains-append_right (numbers_below n) (n ∷ []) k (subst (λ (z : ℕ). Contains (n ∷ []) z) e (head_has n []))
    ]

-- the list of the numbers below n has none from n on
pub has_below : (n k : ℕ) → Contains (numbers_below n) k → k < n
unfolding numbers_below
has_below zero k h = absurd (nil_has k h)
has_below (suc n) k h =
    elim (Contains-append_cases (numbers_below n) (n ∷ []) k h) [
      | inl l ↦ let r = has_below n k l in omega (arith, r)
      | inr l ↦ elim (cons_cases n [] k l) [
        | inl e ↦ omega (arith, e)
        | inr e ↦ absurd (nil_has k e)
      ]
    ]

-- the list of the numbers below n ascends
pub below_ascends : (n : ℕ) → Ascends (numbers_below n)
unfolding numbers_below
below_ascends zero = tt
below_ascends (suc n) =
    ascends_append n (numbers_below n) (n ∷ []) (below_ascends n) (tt, tt) (all_under n (numbers_below n) (λ j m. has_below n j m)) (omega arith, tt)

-- two lists that ascend and have the same members are one
pub ascends_same : (xs ys : List ℕ) → Ascends xs → Ascends ys → ((k : ℕ) → Contains xs k → Contains ys k) → ((k : ℕ) → Contains ys k → Contains xs k) → xs ≡ ys
ascends_same [] [] a b f g = refl
ascends_same [] (y ∷ ys) a b f g = absurd (nil_has y (g y (head_has y ys)))
ascends_same (x ∷ xs) [] a b f g = absurd (nil_has x (f x (head_has x xs)))
ascends_same (x ∷ xs) (y ∷ ys) a b f g =
    let same : x ≡ y = first_same (cons_cases y ys x (f x (head_has x xs))) (cons_cases x xs y (g y (head_has y ys))) in
    let to : (k : ℕ) → Contains xs k → Contains ys k =
    λ k m. elim (cons_cases y ys k (f k (tail_has x xs k m))) [
      | inl e ↦ let l = above_member x xs k a.0 m in absurd (omega (arith, l, e, same))
      | inr e ↦ e
    ] in
    let from : (k : ℕ) → Contains ys k → Contains xs k =
    λ k m. elim (cons_cases x xs k (g k (tail_has y ys k m))) [
      | inl e ↦ let l = above_member y ys k b.0 m in absurd (omega (arith, l, e, same))
      | inr e ↦ e
    ] in
    let rest : xs ≡ ys = ascends_same xs ys a.1 b.1 to from in
    rw (same, rest) refl
  where
    first_same : (x ≡ y) ⊎ Contains ys x → (y ≡ x) ⊎ Contains xs y → x ≡ y
    first_same (inl e) q = e
    first_same (inr m) (inl e) = sym e
    first_same (inr m) (inr n) = let i = above_member y ys x b.0 m in let j = above_member x xs y a.0 n in absurd (omega (arith, i, j))

-- the eight digits ascend
pub digits_ascend : Ascends digits
unfolding numbers_below
digits_ascend = below_ascends 8
