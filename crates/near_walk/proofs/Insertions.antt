-- Numbers put into a list, one by one, and lists with the same numbers.
use Rattle.std.proofs.Common.{ℕ, suc, ◌≡◌, ◌+◌, ◌<◌, ◌≤◌, true, false, cond, eqb, List, [], ◌∷◌, ◌++◌, length, sum_by, get_or, sym, refl, ap, ◌∙◌, inl, inr, arith}
use Rattle.std.specs.Prelude.{Contains}
use Rattle.std.specs.List.Sorted.{IsPermutation, IsNonDecreasing, IsSorted}
use Rattle.std.specs.Ordering.{nat_cmp}
use Rattle.std.proofs.lemmas.Bool.{cases_lt, cases_eq, eq-eqb, ne_eqb}
use Rattle.std.proofs.lemmas.List.Sums.{sum_by-cons}
use Rattle.std.proofs.lemmas.List.Sorted.{sum_by-IsPermutation, IsNonDecreasingBy-from_sort}
use Rattle.hot_units.proofs.Sorts.{AllFrom, Rises, all_from}
use Rattle.near_walk.specs.Ascending.{inserted, ascending}
use Rattle.near_walk.specs.Additions.{inserted-first, inserted-behind, inserted-swaps}

-- a sum over a list with one more number
pub sum-inserted : (f : ℕ → ℕ) (n : ℕ) (ks : List ℕ) → sum_by f (inserted n ks) ≡ f n + sum_by f ks
unfolding inserted
sum-inserted f n [] = sum_by-cons f n []
sum-inserted f n (k ∷ ks) =
    elim (cases_lt k n) [
      | inl l ↦ rw (inserted-behind n k ks l) (omega (arith, sum_by-cons f k (inserted n ks), sum_by-cons f k ks, sum-inserted f n ks))
      | inr l ↦ rw (inserted-first n k ks l) (sum_by-cons f n (k ∷ ks))
    ]

-- a sum over the numbers in order is that over the list
pub sum-ascending : (f : ℕ → ℕ) (ns : List ℕ) → sum_by f (ascending ns) ≡ sum_by f ns
unfolding ascending
sum-ascending f [] = refl
sum-ascending f (n ∷ ns) = omega (arith, sum-inserted f n (ascending ns), sum-ascending f ns, sum_by-cons f n ns)

-- the length of a list as a sum
length-sum : (ns : List ℕ) → length ns ≡ sum_by (λ _. 1) ns
length-sum [] = refl
length-sum (n ∷ ns) = omega (arith, length-sum ns, sum_by-cons (λ (k : ℕ). 1) n ns)

-- there are as many numbers in order as in the list
pub length-ascending : (ns : List ℕ) → length (ascending ns) ≡ length ns
length-ascending ns = length-sum (ascending ns) ∙ (sum-ascending (λ _. 1) ns ∙ sym (length-sum ns))

-- a number at the end of a list is put in as one at its front
pub ascending-push : (ns : List ℕ) (n : ℕ) → ascending (ns ++ n ∷ []) ≡ inserted n (ascending ns)
unfolding ascending
ascending-push [] n = refl
ascending-push (k ∷ ks) n = ap (inserted k) (ascending-push ks n) ∙ inserted-swaps k n (ascending ks)

-- how often a number stands in a list
abbrev pub times : ℕ → List ℕ → ℕ
times r ns = sum_by (λ n. cond (eqb n r) 1 0) ns

-- a list without the first place of a number
without : ℕ → List ℕ → List ℕ
without r [] = []
without r (n ∷ ns) = cond (eqb n r) ns (n ∷ without r ns)

-- a number that stands in a list, taken out and put in again
again : (r : ℕ) (ns : List ℕ) → 0 < times r ns → ascending ns ≡ inserted r (ascending (without r ns))
unfolding ascending without
again r [] h = absurd (omega (arith, h))
again r (n ∷ ns) h =
    elim (cases_eq n r) [
      | inl e ↦ let t : eqb n r ≡ true = eq-eqb n r e in rw (t, e) refl
      | inr d ↦
          let t : eqb n r ≡ false = ne_eqb n r d in
          let s : times r (n ∷ ns) ≡ times r ns = sum_by-cons (λ k. cond (eqb k r) 1 0) n ns ∙ rw t (omega arith) in
          rw t (ap (inserted n) (again r ns (omega (arith, h, s))) ∙ inserted-swaps n r (ascending (without r ns)))
    ]

-- how often another number stands there then
times-without : (r s : ℕ) (ns : List ℕ) → 0 < times r ns → times s ns ≡ cond (eqb r s) 1 0 + times s (without r ns)
unfolding without
times-without r s [] h = absurd (omega (arith, h))
times-without r s (n ∷ ns) h =
    elim (cases_eq n r) [
      | inl e ↦ let t : eqb n r ≡ true = eq-eqb n r e in rw t (sum_by-cons (λ k. cond (eqb k s) 1 0) n ns ∙ rw e refl)
      | inr d ↦
          let t : eqb n r ≡ false = ne_eqb n r d in
          let u : times r (n ∷ ns) ≡ times r ns = sum_by-cons (λ k. cond (eqb k r) 1 0) n ns ∙ rw t (omega arith) in
          let deeper = times-without r s ns (omega (arith, h, u)) in
          rw t (omega (arith, deeper, sum_by-cons (λ k. cond (eqb k s) 1 0) n ns, sum_by-cons (λ k. cond (eqb k s) 1 0) n (without r ns)))
    ]

-- a list with a number in front has it more than no times
times-first : (n : ℕ) (ns : List ℕ) → times n (n ∷ ns) ≡ 1 + times n ns
times-first n ns = let t : eqb n n ≡ true = eq-eqb n n refl in sum_by-cons (λ k. cond (eqb k n) 1 0) n ns ∙ rw t refl

-- a list in which no number stands is empty
never : (ns : List ℕ) → ((r : ℕ) → times r ns ≡ 0) → ns ≡ []
never [] h = refl
never (n ∷ ns) h = absurd (omega (arith, h n, times-first n ns))

-- two lists in which each number stands equally often are one in order
pub same_times : (ms ns : List ℕ) → ((r : ℕ) → times r ms ≡ times r ns) → ascending ms ≡ ascending ns
unfolding ascending
same_times [] ns h = sym (ap ascending (never ns (λ r. sym (h r))))
same_times (m ∷ ms) ns h =
    let some : 0 < times m ns = omega (arith, h m, times-first m ms) in
    let rest : (r : ℕ) → times r ms ≡ times r (without m ns) =
    λ r. omega (arith, h r, times-without m r ns some, sum_by-cons (λ k. cond (eqb k r) 1 0) m ms) in
    ap (inserted m) (same_times ms (without m ns) rest) ∙ sym (again m ns some)

-- a number that is not above any other of a list goes to its front
inserted-least : (n : ℕ) (ks : List ℕ) → AllFrom n ks → inserted n ks ≡ n ∷ ks
unfolding inserted
inserted-least n [] h = refl
inserted-least n (k ∷ ks) h = inserted-first n k ks h.0

-- a list that never falls is in order
pub ascending-rises : (ns : List ℕ) → Rises ns → ascending ns ≡ ns
unfolding ascending
ascending-rises [] h = refl
ascending-rises (n ∷ ns) h = ap (inserted n) (ascending-rises ns h.1) ∙ inserted-least n ns h.0

-- a list that never falls from place to place
rises_from : (ns : List ℕ) → IsNonDecreasing ns → Rises ns
rises_from [] h = tt
rises_from (n ∷ ns) h =
    (all_from n ns (λ j m. first j m), rises_from ns (λ i j d p q. h (suc i) (suc j) d (omega (arith, p)) (omega (arith, q))))
  where
    first : (j : ℕ) → Contains ns j → n ≤ j
    first j m = let p : n ≤ get_or ns m.0 j = h 0 (suc m.0) j (omega arith) (omega (arith, m.1)) in omega (arith, p, m.2)

-- what a sort leaves is the list in order
pub sorted-is : (xs ys : List ℕ) → IsPermutation xs ys → IsSorted nat_cmp ys → ys ≡ ascending xs
sorted-is xs ys p s =
    sym (ascending-rises ys (rises_from ys (IsNonDecreasingBy-from_sort (λ n. n) ys s)))
    ∙ same_times ys xs (λ r. sum_by-IsPermutation (λ n. cond (eqb n r) 1 0) xs ys p)
