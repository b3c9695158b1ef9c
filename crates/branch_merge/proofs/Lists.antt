-- The items of numbered lists, lists in which no number stands twice, and sums under another order.
use Rattle.std.proofs.Common.{ℕ, zero, suc, ◌≡◌, ◌+◌, ◌<◌, Bool, cond, List, [], ◌∷◌, ◌++◌, length, get_or, map, filter, flat_map, sum_by, sym, refl, ap, ◌∙◌, subst, inl, inr, arith, length-append}
use Rattle.std.specs.Prelude.{Contains}
use Rattle.std.specs.List.Sorted.{IsPermutation, IsStrictlyIncreasing}
use Rattle.std.proofs.lemmas.Bool.{cases_lt}
use Rattle.std.proofs.lemmas.List.{get_or-map, get_or_append_left, get_or_at}
use Rattle.std.proofs.lemmas.List.Elements.{Contains-get_or, Contains-append_cases}
use Rattle.std.proofs.lemmas.List.Sorted.{sum_by-IsPermutation}
use Rattle.hot_units.specs.Numbers.{numbers_below}
use Rattle.hot_units.proofs.Members.{head_has, tail_has, has_flat}
use Rattle.hot_units.proofs.Sorts.{AllAbove, Ascends, above_member, sum_filter}

-- there are n numbers below n
pub length-below : (n : ℕ) → length (numbers_below n) ≡ n
unfolding numbers_below
length-below zero = refl
length-below (suc n) = length-append (numbers_below n) (n ∷ []) ∙ omega (arith, length-below n)

-- each stands at its own place
below-at : (n q : ℕ) → q < n → get_or (numbers_below n) q 0 ≡ q
unfolding numbers_below
below-at zero q h = absurd (omega (arith, h))
below-at (suc n) q h = elim (cases_lt q n) [
  | inl p ↦ get_or_append_left (numbers_below n) (n ∷ []) 0 q (omega (arith, p, length-below n)) ∙ below-at n q p
  | inr p ↦ get_or_at (numbers_below n) n [] 0 q (omega (arith, p, h, length-below n)) ∙ omega (arith, p, h)
]

-- so the item of a number stands at its place
pub item-at : {X : Type 0} (f : ℕ → X) (d : X) (n q : ℕ) → q < n → get_or (map f (numbers_below n)) q d ≡ f q
item-at f d n q h = get_or-map f (numbers_below n) q 0 d (omega (arith, h, length-below n)) ∙ ap f (below-at n q h)

-- no number stands twice in the list
abbrev pub Differ : List ℕ → Type 0
Differ [] = Unit {0}
Differ (x ∷ xs) = (Contains xs x → ⊥) × Differ xs

-- a list that ascends has no number twice
pub differ_ascends : (xs : List ℕ) → Ascends xs → Differ xs
differ_ascends [] a = tt
differ_ascends (x ∷ xs) a = ((λ m. (let l = above_member x xs x a.0 m in absurd (omega (arith, l)))), differ_ascends xs a.1)

-- nor have two lists without a common number, joined
differ_append : (xs ys : List ℕ) → Differ xs → Differ ys → ((k : ℕ) → Contains xs k → Contains ys k → ⊥) → Differ (xs ++ ys)
differ_append [] ys a b h = b
differ_append (x ∷ xs) ys a b h = (
  (λ m. elim (Contains-append_cases xs ys x m) [ inl e ↦ a.0 e | inr e ↦ h x (head_has x xs) e ]),
  differ_append xs ys a.1 b (λ k m n. h k (tail_has x xs k m) n),
)

-- nor have many such lists
pub differ_flat : (f : ℕ → List ℕ) (ns : List ℕ) → Ascends ns → ((n : ℕ) → Differ (f n)) → ((m n k : ℕ) → Contains (f m) k → Contains (f n) k → m ≡ n) → Differ (flat_map f ns)
differ_flat f [] a d h = tt
differ_flat f (n ∷ ns) a d h =
    differ_append (f n) (flat_map f ns) (d n) (differ_flat f ns a.1 d h)
    (λ k m j.
    let r = has_flat f ns k j in
    let l = above_member n ns r.0 a.0 r.1 in
    let e = h n r.0 k m r.2 in
    absurd (omega (arith, l, e)))

-- two places with the same number are one place
pub same_place : (xs : List ℕ) (i j d : ℕ) → Differ xs → i < length xs → j < length xs → get_or xs i d ≡ get_or xs j d → i ≡ j
same_place [] i j d a p q e = absurd (omega (arith, p))
same_place (x ∷ xs) zero zero d a p q e = refl
same_place (x ∷ xs) zero (suc j) d a p q e = absurd (a.0 (subst (Contains xs) (sym e) (Contains-get_or xs j d (omega (arith, q)))))
same_place (x ∷ xs) (suc i) zero d a p q e = absurd (a.0 (subst (Contains xs) e (Contains-get_or xs i d (omega (arith, p)))))
same_place (x ∷ xs) (suc i) (suc j) d a p q e = ap suc (same_place xs i j d a.1 (omega (arith, p)) (omega (arith, q)) e)

-- numbers of which each is below the next ascend
above_less : (j k : ℕ) (xs : List ℕ) → j < k → AllAbove k xs → AllAbove j xs
above_less j k [] h a = tt
above_less j k (x ∷ xs) h a = (omega (arith, h, a.0), above_less j k xs h a.1)

-- a list that rises strictly ascends
pub strict_ascends : (xs : List ℕ) → IsStrictlyIncreasing xs → Ascends xs
strict_ascends [] h = tt
strict_ascends (x ∷ []) h = (tt, tt)
strict_ascends (x ∷ y ∷ ys) h =
    let first : x < y = h 0 (omega arith) in
    let rest = strict_ascends (y ∷ ys) (λ k l. (let e : suc k + 1 ≡ suc (k + 1) = omega arith in rw e at (h (suc k) (omega (arith, l))))) in
    ((first, above_less x y ys first rest.0), rest)

-- a sum over what passes a test does not depend on the order
pub sum-kept : {X : Type 0} (f : X → ℕ) (p : X → Bool) (xs ys : List X) → IsPermutation xs ys → sum_by f (filter p ys) ≡ sum_by f (filter p xs)
sum-kept f p xs ys h = sum_filter f p ys ∙ (sum_by-IsPermutation (λ x. cond (p x) (f x) 0) xs ys h ∙ sym (sum_filter f p xs))
