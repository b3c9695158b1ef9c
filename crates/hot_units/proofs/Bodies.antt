-- The order of bodies is one, and what lists of bodies weigh.
use Rattle.std.proofs.Common.{ℕ, suc, ◌≡◌, ◌+◌, ◌≤◌, Bool, true, false, cond, List, [], ◌∷◌, filter, sum_by, refl, arith}
use Rattle.std.specs.Cmp.{IsStrictWeakOrder}
use Rattle.std.proofs.lemmas.Bool.Decides.{nat_tests}
use Rattle.std.proofs.lemmas.List.Kept.{IsSortedBy-filter}
use Rattle.std.proofs.lemmas.List.Sums.{sum_by-cons}
use Rattle.hot_units.specs.Values.{BodyValue}
use Rattle.hot_units.specs.Order.{before, IsInOrder}

-- the order of bodies is one
pub before_orders : IsStrictWeakOrder before
unfolding before
before_orders = record {
  one_way = λ a b h. grind (arith, nat_tests);
  chain = λ a b c h k. grind (arith, nat_tests);
}

-- a list in order is in order without its first body
pub in_order_tail : (x : BodyValue) (xs : List BodyValue) → IsInOrder (x ∷ xs) → IsInOrder xs
in_order_tail x xs h k d low p =
    let e : suc k + 1 ≡ suc (k + 1) = omega arith in
    let q = h (suc k) d (omega arith) (omega (arith, p)) in
    rw e at q

-- what is kept of a list in order is in order
pub in_order_filter : (p : BodyValue → Bool) (xs : List BodyValue) → IsInOrder xs → IsInOrder (filter p xs)
in_order_filter p xs h = IsSortedBy-filter before before_orders p xs h

-- a filtered sum is at most the whole one
pub sum_filter_le : (f : BodyValue → ℕ) (p : BodyValue → Bool) (xs : List BodyValue) → sum_by f (filter p xs) ≤ sum_by f xs
sum_filter_le f p [] = omega arith
sum_filter_le f p (x ∷ xs) = elim (p x) as (λ (t : Bool). sum_by f (cond t (x ∷ filter p xs) (filter p xs)) ≤ sum_by f (x ∷ xs)) [
  | true ↦ omega (arith, sum_by-cons f x (filter p xs), sum_by-cons f x xs, sum_filter_le f p xs)
  | false ↦ omega (arith, sum_by-cons f x xs, sum_filter_le f p xs)
]

-- a sum over what passes a test is at most that over what passes a weaker one
pub sum_filter_more : (f : BodyValue → ℕ) (p q : BodyValue → Bool) → ((b : BodyValue) → p b ≡ true → q b ≡ true) → (xs : List BodyValue) → sum_by f (filter p xs) ≤ sum_by f (filter q xs)
sum_filter_more f p q h [] = omega arith
sum_filter_more f p q h (x ∷ xs) = by_tests (filter p xs) (filter q xs) (sum_filter_more f p q h xs) (p x) (q x) (h x)
  where
    by_tests : (ys zs : List BodyValue) → sum_by f ys ≤ sum_by f zs → (s t : Bool) → (s ≡ true → t ≡ true) → sum_by f (cond s (x ∷ ys) ys) ≤ sum_by f (cond t (x ∷ zs) zs)
    by_tests ys zs l true true k = omega (arith, l, sum_by-cons f x ys, sum_by-cons f x zs)
    by_tests ys zs l true false k = absurd (let e : false ≡ true = k refl in cc)
    by_tests ys zs l false true k = omega (arith, l, sum_by-cons f x zs)
    by_tests ys zs l false false k = l
