-- Lists of records by their keys.
use Rattle.std.proofs.Common.{ℕ, suc, ◌≡◌, ◌<◌, ◌≤◌, true, false, cond, eqb, List, [], ◌∷◌, map, get_or, sum_by, sym, refl, ap, ◌∙◌, subst, inl, inr, arith}
use Rattle.std.specs.Prelude.{Contains}
use Rattle.std.specs.List.Sorted.{IsPermutation, IsNonDecreasingBy}
use Rattle.std.proofs.lemmas.Bool.{cases_eq, eq-eqb, ne_eqb}
use Rattle.std.proofs.lemmas.List.Sums.{sum_by-cons}
use Rattle.std.proofs.lemmas.List.Sorted.{sum_by-IsPermutation, IsPermutation-map}
use Rattle.hot_units.proofs.Members.{head_has, tail_has, cons_cases, nil_has, has_map}
use Rattle.hot_units.proofs.Sorts.{AllAbove, Ascends}
use Rattle.branch_merge.specs.declared.listed.Listed.{Listed}
use Rattle.branch_merge.proofs.Lists.{Differ}

-- the keys of listed records
abbrev pub keys_of : List Listed → List ℕ
keys_of xs = map (λ x. x.rec.key) xs

-- how often a number stands in a list
abbrev times : ℕ → List ℕ → ℕ
times k xs = sum_by (λ j. cond (eqb j k) 1 0) xs

times-here : (k x : ℕ) (xs : List ℕ) → x ≡ k → times k (x ∷ xs) ≡ suc (times k xs)
times-here k x xs e =
    let t : eqb x k ≡ true = eq-eqb _ _ e in
    sum_by-cons (λ j. cond (eqb j k) 1 0) x xs ∙ rw t (omega arith)

times-there : (k x : ℕ) (xs : List ℕ) → (x ≡ k → ⊥) → times k (x ∷ xs) ≡ times k xs
times-there k x xs n =
    let t : eqb x k ≡ false = ne_eqb _ _ n in
    sum_by-cons (λ j. cond (eqb j k) 1 0) x xs ∙ rw t (omega arith)

times-none : (k : ℕ) (xs : List ℕ) → (Contains xs k → ⊥) → times k xs ≡ 0
times-none k [] n = refl
times-none k (x ∷ xs) n =
    times-there k x xs (λ e. n (subst (Contains (x ∷ xs)) e (head_has x xs))) ∙ times-none k xs (λ m. n (tail_has x xs k m))

times_some : (k : ℕ) (xs : List ℕ) → Contains xs k → 1 ≤ times k xs
times_some k [] m = absurd (nil_has k m)
times_some k (x ∷ xs) m =
    elim (cases_eq x k) [
      | inl e ↦ omega (arith, times-here k x xs e)
      | inr n ↦ elim (cons_cases x xs k m) [
        | inl e ↦ absurd (n (sym e))
        | inr r ↦ omega (arith, times-there k x xs n, times_some k xs r)
      ]
    ]

-- no number stands twice where each stands once at most
differ_times : (k : ℕ) (xs : List ℕ) → Differ xs → times k xs ≤ 1
differ_times k [] d = omega arith
differ_times k (x ∷ xs) d =
    elim (cases_eq x k) [
      | inl e ↦ omega (arith, times-here k x xs e, times-none k xs (λ m. d.0 (subst (Contains xs) (sym e) m)))
      | inr n ↦ omega (arith, times-there k x xs n, differ_times k xs d.1)
    ]

times_differ : (xs : List ℕ) → ((k : ℕ) → times k xs ≤ 1) → Differ xs
times_differ [] h = tt
times_differ (x ∷ xs) h = (
  (λ m. (let s = times_some x xs m in let t = times-here x x xs refl in let l = h x in absurd (omega (arith, s, t, l)))),
  times_differ xs (λ k. (let l = h k in elim (cases_eq x k) [
    | inl e ↦ omega (arith, times-here k x xs e, l)
    | inr n ↦ omega (arith, times-there k x xs n, l)
  ])),
)

-- this does not depend on the order
pub differ_permuted : (xs ys : List Listed) → IsPermutation xs ys → Differ (keys_of xs) → Differ (keys_of ys)
differ_permuted xs ys p d =
    times_differ (keys_of ys)
    (λ k. (let e = sum_by-IsPermutation (λ j. cond (eqb j k) 1 0) (keys_of xs) (keys_of ys) (IsPermutation-map (λ (x : Listed). x.rec.key) xs ys p) in let l = differ_times k (keys_of xs) d in omega (arith, e, l)))

-- all numbers of a list are above k
all_above : (k : ℕ) (xs : List ℕ) → ((j : ℕ) → Contains xs j → k < j) → AllAbove k xs
all_above k [] h = tt
all_above k (x ∷ xs) h = (h x (head_has x xs), all_above k xs (λ j m. h j (tail_has x xs j m)))

-- keys that never fall, and of which none stands twice, ascend
pub keys_ascend : (xs : List Listed) → IsNonDecreasingBy (λ x. x.rec.key) xs → Differ (keys_of xs) → Ascends (keys_of xs)
keys_ascend [] h d = tt
keys_ascend (x ∷ xs) h d = (
  all_above x.rec.key (keys_of xs) above,
  keys_ascend xs (λ i j e l b. h (suc i) (suc j) e (omega (arith, l)) (omega (arith, b))) d.1,
)
  where
    above : (j : ℕ) → Contains (keys_of xs) j → x.rec.key < j
    above j m =
        let r = has_map (λ (y : Listed). y.rec.key) xs j m in
        let i = r.1.0 in
        let le : x.rec.key ≤ (get_or xs i r.0).rec.key = h 0 (suc i) r.0 (omega arith) (omega (arith, r.1.1)) in
        let at : (get_or xs i r.0).rec.key ≡ j = ap (λ (y : Listed). y.rec.key) r.1.2 ∙ sym r.2 in
        elim (cases_eq x.rec.key j) [
          | inl e ↦ absurd (d.0 (subst (Contains (keys_of xs)) (sym e) m))
          | inr n ↦ omega (arith, le, at, n)
        ]
