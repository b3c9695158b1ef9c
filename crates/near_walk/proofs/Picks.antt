-- The number at a place of an ascending list, by counts of smaller ones.
use Rattle.std.proofs.Common.{ℕ, zero, suc, ◌≡◌, ◌+◌, ◌-◌, ◌^◌, ◌<◌, ◌≤◌, true, false, cond, leb, ltb, List, [], ◌∷◌, length, get_or, sym, refl, ap, ◌∙◌, subst, inl, inr, arith}
use Rattle.std.specs.Prelude.{Some, None}
use Rattle.std.specs.List.{slice_get, count_by}
use Rattle.std.proofs.lemmas.Bool.{cases_lt, le-leb, lt-leb, lt-ltb, le-ltb}
use Rattle.std.proofs.lemmas.List.Sums.{sum_by-cons}
use Rattle.std.proofs.lemmas.Option.{slice_get_past}
use Rattle.hot_units.proofs.Sorts.{AllFrom, Rises}
use Rattle.near_walk.specs.Ascending.{inserted, ascending}
use Rattle.near_walk.specs.Additions.{inserted-first, inserted-behind}
use Rattle.near_walk.proofs.Insertions.{sum-ascending, length-ascending}

-- how many numbers of a list are at most v
abbrev pub up_to : ℕ → List ℕ → ℕ
up_to v ns = count_by (λ n. leb n v) ns

-- how many are below v
abbrev pub under : ℕ → List ℕ → ℕ
under v ns = count_by (λ n. ltb n v) ns

-- one more number, at most v or not
up_to-in : (v n : ℕ) (ns : List ℕ) → n ≤ v → up_to v (n ∷ ns) ≡ 1 + up_to v ns
up_to-in v n ns h = let t : leb n v ≡ true = le-leb n v h in sum_by-cons (λ k. cond (leb k v) 1 0) n ns ∙ rw t refl

up_to-out : (v n : ℕ) (ns : List ℕ) → v < n → up_to v (n ∷ ns) ≡ up_to v ns
up_to-out v n ns h = let t : leb n v ≡ false = lt-leb n v h in sum_by-cons (λ k. cond (leb k v) 1 0) n ns ∙ rw t (omega arith)

-- one more number, below v or not
under-in : (v n : ℕ) (ns : List ℕ) → n < v → under v (n ∷ ns) ≡ 1 + under v ns
under-in v n ns h = let t : ltb n v ≡ true = lt-ltb n v h in sum_by-cons (λ k. cond (ltb k v) 1 0) n ns ∙ rw t refl

under-out : (v n : ℕ) (ns : List ℕ) → v ≤ n → under v (n ∷ ns) ≡ under v ns
under-out v n ns h = let t : ltb n v ≡ false = le-ltb n v h in sum_by-cons (λ k. cond (ltb k v) 1 0) n ns ∙ rw t (omega arith)

-- of numbers from k on none is at most a number below k
up_to-none : (v k : ℕ) (ns : List ℕ) → v < k → AllFrom k ns → up_to v ns ≡ 0
up_to-none v k [] h a = refl
up_to-none v k (n ∷ ns) h a = up_to-out v n ns (omega (arith, a.0)) ∙ up_to-none v k ns h a.1

-- of numbers from v on none is below v
under-none : (v : ℕ) (ns : List ℕ) → AllFrom v ns → under v ns ≡ 0
under-none v [] a = refl
under-none v (n ∷ ns) a = under-out v n ns a.0 ∙ under-none v ns a.1

-- none is below 0
pub under-zero : (ns : List ℕ) → under 0 ns ≡ 0
under-zero [] = refl
under-zero (n ∷ ns) = under-out 0 n ns (omega arith) ∙ under-zero ns

-- those below the next number are those at most this one
pub under-next : (v : ℕ) (ns : List ℕ) → under (v + 1) ns ≡ up_to v ns
under-next v [] = refl
under-next v (n ∷ ns) =
    elim (cases_lt v n) [
      | inl l ↦ under-out (v + 1) n ns (omega arith) ∙ (under-next v ns ∙ sym (up_to-out v n ns l))
      | inr l ↦ under-in (v + 1) n ns (omega arith) ∙ (ap (λ k. 1 + k) (under-next v ns) ∙ sym (up_to-in v n ns l))
    ]

-- all numbers of 32 bits are at most the largest of them
pub up_to-fit : (ns : List ℕ) → ((i : ℕ) → get_or ns i 0 < 2 ^ 32) → up_to (2 ^ 32 - 1) ns ≡ length ns
up_to-fit [] h = refl
up_to-fit (n ∷ ns) h =
    let first : n < 2 ^ 32 = h 0 in
    up_to-in (2 ^ 32 - 1) n ns (omega arith) ∙ omega (arith, up_to-fit ns (λ i. h (suc i)))

-- the number at place i of a list that never falls is the one with at most i below it and more than i up to it
picked : (ns : List ℕ) (i v : ℕ) → Rises ns → under v ns ≤ i → i < up_to v ns → slice_get ns i ≡ Some v
picked [] i v r h k = absurd (omega (arith, k))
picked (n ∷ ns) i v r h k =
    elim (cases_lt v n) [
      | inl l ↦ absurd (omega (arith, k, up_to-out v n ns l, up_to-none v n ns l r.0))
      | inr l ↦ at_place (λ j p q. picked ns j v r.1 p q) i h k
    ]
  where
    same : v ≤ n → n ≤ v → n ≡ v
    same p q = omega arith

    at_place : ((j : ℕ) → under v ns ≤ j → j < up_to v ns → slice_get ns j ≡ Some v) → (j : ℕ) → under v (n ∷ ns) ≤ j → j < up_to v (n ∷ ns) → slice_get (n ∷ ns) j ≡ Some v
    at_place deeper zero h k =
        elim (cases_lt n v) [
          | inl l ↦ absurd (omega (arith, h, under-in v n ns l))
          | inr l ↦ elim (cases_lt v n) [
            | inl m ↦ absurd (omega (arith, k, up_to-out v n ns m, up_to-none v n ns m r.0))
            | inr m ↦ ap Some (same l m)
          ]
        ]
    at_place deeper (suc j) h k =
        elim (cases_lt v n) [
          | inl m ↦ absurd (omega (arith, k, up_to-out v n ns m, up_to-none v n ns m r.0))
          | inr m ↦ elim (cases_lt n v) [
            | inl l ↦ deeper j (omega (arith, h, under-in v n ns l)) (omega (arith, k, up_to-in v n ns m))
            | inr l ↦
                let e : n ≡ v = same l m in
                deeper j (omega (arith, under-none v ns (subst (λ (z : ℕ). AllFrom z ns) e r.0))) (omega (arith, k, up_to-in v n ns m))
          ]
        ]

-- a list from k on with one more number from k on
from-inserted : (k n : ℕ) (ns : List ℕ) → k ≤ n → AllFrom k ns → AllFrom k (inserted n ns)
unfolding inserted
from-inserted k n [] h a = (h, tt)
from-inserted k n (m ∷ ms) h a =
    elim (cases_lt m n) [
      | inl l ↦ subst (λ (z : List ℕ). AllFrom k z) (sym (inserted-behind n m ms l)) (a.0, from-inserted k n ms h a.1)
      | inr l ↦ subst (λ (z : List ℕ). AllFrom k z) (sym (inserted-first n m ms l)) (h, a)
    ]

-- a list from k on is one from a smaller number on
from-lower : (k j : ℕ) (ns : List ℕ) → j ≤ k → AllFrom k ns → AllFrom j ns
from-lower k j [] h a = tt
from-lower k j (n ∷ ns) h a = (omega (arith, a.0), from-lower k j ns h a.1)

-- a list that never falls with one more number put in
rises-inserted : (n : ℕ) (ns : List ℕ) → Rises ns → Rises (inserted n ns)
unfolding inserted
rises-inserted n [] r = (tt, tt)
rises-inserted n (m ∷ ms) r =
    elim (cases_lt m n) [
      | inl l ↦ subst (λ (z : List ℕ). Rises z) (sym (inserted-behind n m ms l)) (from-inserted m n ms (omega arith) r.0, rises-inserted n ms r.1)
      | inr l ↦ subst (λ (z : List ℕ). Rises z) (sym (inserted-first n m ms l)) ((l, from-lower m n ms l r.0), r)
    ]

-- numbers in order never fall
pub rises-ascending : (ns : List ℕ) → Rises (ascending ns)
unfolding ascending
rises-ascending [] = tt
rises-ascending (n ∷ ns) = rises-inserted n (ascending ns) (rises-ascending ns)

-- the number at place i of a list in order, by counts over the list as it stands
pub pick-is : (ns : List ℕ) (i v : ℕ) → under v ns ≤ i → i < up_to v ns → slice_get (ascending ns) i ≡ Some v
pick-is ns i v h k =
    picked (ascending ns) i v (rises-ascending ns)
    (omega (arith, h, sum-ascending (λ n. cond (ltb n v) 1 0) ns))
    (omega (arith, k, sum-ascending (λ n. cond (leb n v) 1 0) ns))

-- the number at place i lies from low to high
pub record IsAround (ns : List ℕ) (i low high : ℕ) : Type 0 where
  pub ordered : low ≤ high
  pub above : i < up_to high ns
  pub below : under low ns ≤ i

-- at the start it lies among all numbers of 32 bits
pub around-all : (ns : List ℕ) (i : ℕ) → ((j : ℕ) → get_or ns j 0 < 2 ^ 32) → i < length ns → IsAround ns i 0 (2 ^ 32 - 1)
around-all ns i h l = record { ordered = omega arith; above = omega (arith, up_to-fit ns h); below = omega (arith, under-zero ns) }

-- where low and high meet, it is both
pub around-one : (ns : List ℕ) (i low high : ℕ) → IsAround ns i low high → high ≤ low → slice_get (ascending ns) i ≡ Some low
around-one ns i low high a h =
    let e : high ≡ low = omega (arith, a.ordered) in
    pick-is ns i low a.below (subst (λ (v : ℕ). i < up_to v ns) e a.above)

-- past the last there is none
pub pick-past : (ns : List ℕ) (i : ℕ) → length ns ≤ i → slice_get (ascending ns) i ≡ None
pick-past ns i h = slice_get_past (ascending ns) i (omega (arith, length-ascending ns))
