-- The rows of neighbours: which they are, and that they ascend.
use Rattle.std.proofs.Common.{ℕ, suc, ◌≡◌, ◌<◌, ◌≤◌, Bool, true, false, not, eqb, leb, List, [], ◌∷◌, map, filter, get_or, sym, refl, ap, ◌∙◌, subst, inl, inr, arith}
use Rattle.std.specs.Prelude.{Contains, ◌⊎◌, ◌≢◌}
use Rattle.std.proofs.lemmas.Bool.{cases_lt, cases_eq, not-true, and_parts, and_from, leb-true, le-leb, eqb-false, ne_eqb}
use Rattle.hot_units.specs.Values.{BodyValue, place}
use Rattle.hot_units.specs.Bodies.{RowsDiffer}
use Rattle.hot_units.proofs.Members.{head_has, tail_has, nil_has, cons_cases, filter_has, has_filter, map_has, has_map}
use Rattle.hot_units.proofs.Sorts.{AllAbove, Ascends, ascends_strict}
use Rattle.hot_model.specs.Kernel.{square, distance2}
use Rattle.near_walk.specs.Ascending.{inserted, ascending}
use Rattle.near_walk.specs.Additions.{inserted-first, inserted-behind}
use Rattle.near_walk.specs.Near.{is_neighbour, near_rows}
use Rattle.near_walk.specs.Laws.{IsNeighbourOf, RowsOfNeighbours}

-- a number that was put in is there
inserted-has : (n : ℕ) (ks : List ℕ) → Contains (inserted n ks) n
unfolding inserted
inserted-has n [] = head_has n []
inserted-has n (k ∷ ks) =
    elim (cases_lt k n) [
      | inl l ↦ rw (inserted-behind n k ks l) (tail_has k (inserted n ks) n (inserted-has n ks))
      | inr l ↦ rw (inserted-first n k ks l) (head_has n (k ∷ ks))
    ]

-- what was there is there still
inserted-keeps : (n : ℕ) (ks : List ℕ) (j : ℕ) → Contains ks j → Contains (inserted n ks) j
unfolding inserted
inserted-keeps n [] j m = absurd (nil_has j m)
inserted-keeps n (k ∷ ks) j m =
    elim (cases_lt k n) [
      | inl l ↦ rw (inserted-behind n k ks l) (elim (cons_cases k ks j m) [
        | inl e ↦ subst (λ (z : ℕ). Contains (k ∷ inserted n ks) z) (sym e) (head_has k (inserted n ks))
        | inr e ↦ tail_has k (inserted n ks) j (inserted-keeps n ks j e)
      ])
      | inr l ↦ rw (inserted-first n k ks l) (tail_has n (k ∷ ks) j m)
    ]

-- nothing else is there
inserted-cases : (n : ℕ) (ks : List ℕ) (j : ℕ) → Contains (inserted n ks) j → (j ≡ n) ⊎ Contains ks j
unfolding inserted
inserted-cases n [] j m = cons_cases n [] j m
inserted-cases n (k ∷ ks) j m =
    elim (cases_lt k n) [
      | inl l ↦ elim (cons_cases k (inserted n ks) j (rw (inserted-behind n k ks l) at m)) [
        | inl e ↦ inr (subst (λ (z : ℕ). Contains (k ∷ ks) z) (sym e) (head_has k ks))
        | inr e ↦ elim (inserted-cases n ks j e) [
          | inl f ↦ inl f
          | inr f ↦ inr (tail_has k ks j f)
        ]
      ]
      | inr l ↦ cons_cases n (k ∷ ks) j (rw (inserted-first n k ks l) at m)
    ]

-- numbers in order are those of the list
ascending-has : (ns : List ℕ) (j : ℕ) → Contains ns j → Contains (ascending ns) j
unfolding ascending
ascending-has [] j m = absurd (nil_has j m)
ascending-has (n ∷ ns) j m =
    elim (cons_cases n ns j m) [
      | inl e ↦ subst (λ (z : ℕ). Contains (inserted n (ascending ns)) z) (sym e) (inserted-has n (ascending ns))
      | inr e ↦ inserted-keeps n (ascending ns) j (ascending-has ns j e)
    ]

has-ascending : (ns : List ℕ) (j : ℕ) → Contains (ascending ns) j → Contains ns j
unfolding ascending
has-ascending [] j m = absurd (nil_has j m)
has-ascending (n ∷ ns) j m =
    elim (inserted-cases n (ascending ns) j m) [
      | inl e ↦ subst (λ (z : ℕ). Contains (n ∷ ns) z) (sym e) (head_has n ns)
      | inr e ↦ tail_has n ns j (has-ascending ns j e)
    ]

-- a list above k with one more number above k
above-inserted : (k n : ℕ) (ns : List ℕ) → k < n → AllAbove k ns → AllAbove k (inserted n ns)
unfolding inserted
above-inserted k n [] h a = (h, tt)
above-inserted k n (m ∷ ms) h a =
    elim (cases_lt m n) [
      | inl l ↦ subst (λ (z : List ℕ). AllAbove k z) (sym (inserted-behind n m ms l)) (a.0, above-inserted k n ms h a.1)
      | inr l ↦ subst (λ (z : List ℕ). AllAbove k z) (sym (inserted-first n m ms l)) (h, a)
    ]

-- a list above k is above what is below k
above-lower : (k j : ℕ) (ns : List ℕ) → j < k → AllAbove k ns → AllAbove j ns
above-lower k j [] h a = tt
above-lower k j (n ∷ ns) h a = (omega (arith, a.0), above-lower k j ns h a.1)

-- a list that ascends with a number put in that it has not
ascends-inserted : (n : ℕ) (ns : List ℕ) → Ascends ns → (Contains ns n → ⊥) → Ascends (inserted n ns)
unfolding inserted
ascends-inserted n [] a h = (tt, tt)
ascends-inserted n (m ∷ ms) a h =
    elim (cases_lt m n) [
      | inl l ↦ subst (λ (z : List ℕ). Ascends z) (sym (inserted-behind n m ms l)) (above-inserted m n ms l a.0, ascends-inserted n ms a.1 (λ e. h (tail_has m ms n e)))
      | inr l ↦
          let p : n < m = elim (cases_eq n m) [
            | inl e ↦ absurd (h (subst (λ (z : ℕ). Contains (m ∷ ms) z) (sym e) (head_has m ms)))
            | inr d ↦ elim (cases_lt n m) [
              | inl q ↦ q
              | inr q ↦ absurd (d (omega arith))
            ]
          ] in
          subst (λ (z : List ℕ). Ascends z) (sym (inserted-first n m ms l)) ((p, above-lower m n ms p a.0), a)
    ]

-- behind the first body of a list whose rows differ no body has its row
first-alone : (x : BodyValue) (xs : List BodyValue) → RowsDiffer (x ∷ xs) → (o : BodyValue) → Contains xs o → o.row ≡ x.row → ⊥
first-alone x xs d o m e =
    let f : get_or xs m.0 o ≡ o = m.2 in
    let z : 0 ≡ suc m.0 = d 0 (suc m.0) o (omega arith) (omega (arith, m.1)) (sym e ∙ ap (λ (b : BodyValue). b.row) (sym f)) in
    omega (arith, z)

-- the rows of the bodies that pass a test, in order, ascend where rows differ
rows-ascend : (p : BodyValue → Bool) (bodies : List BodyValue) → RowsDiffer bodies → Ascends (ascending (map (λ o. o.row) (filter p bodies)))
unfolding ascending
rows-ascend p [] d = tt
rows-ascend p (x ∷ xs) d =
    by_test (rows-ascend p xs (λ i j b h k e. (let s : suc i ≡ suc j = d (suc i) (suc j) b (omega (arith, h)) (omega (arith, k)) e in omega (arith, s)))) (p x) refl
  where
    alone : Contains (ascending (map (λ o. o.row) (filter p xs))) x.row → ⊥
    alone m =
        let r = has_map (λ (o : BodyValue). o.row) (filter p xs) x.row (has-ascending (map (λ o. o.row) (filter p xs)) x.row m) in
        first-alone x xs d r.0 (has_filter p xs r.0 r.1).0 (sym r.2)

    by_test : Ascends (ascending (map (λ o. o.row) (filter p xs))) → (t : Bool) → p x ≡ t → Ascends (ascending (map (λ o. o.row) (filter p (x ∷ xs))))
    by_test deeper true e = rw e (ascends-inserted x.row (ascending (map (λ o. o.row) (filter p xs))) deeper alone)
    by_test deeper false e = rw e deeper

-- a neighbour by its parts
neighbour-parts : (radius : ℕ) (b o : BodyValue) → is_neighbour radius b o ≡ true → (o.row ≢ b.row) × (distance2 (place b) (place o) ≤ square radius)
neighbour-parts radius b o h =
    let p = and_parts (not (eqb o.row b.row)) (leb (distance2 (place b) (place o)) (square radius)) h in
    (eqb-false o.row b.row (not-true (eqb o.row b.row) p.0), leb-true (distance2 (place b) (place o)) (square radius) p.1)

parts-neighbour : (radius : ℕ) (b o : BodyValue) → o.row ≢ b.row → distance2 (place b) (place o) ≤ square radius → is_neighbour radius b o ≡ true
parts-neighbour radius b o h k =
    and_from (not (eqb o.row b.row)) (leb (distance2 (place b) (place o)) (square radius))
    (ap not (ne_eqb o.row b.row h)) (le-leb (distance2 (place b) (place o)) (square radius) k)

-- the rows of the filter are those of the neighbours, and ascend
pub rows-of-neighbours : RowsOfNeighbours
rows-of-neighbours radius bodies b d =
    (ascends_strict (near_rows radius bodies b) (rows-ascend (is_neighbour radius b) bodies d), λ row. (to row, from row))
  where
    to : (row : ℕ) → Contains (near_rows radius bodies b) row → (o : BodyValue) × Contains bodies o × IsNeighbourOf radius b row o
    to row m =
        let r = has_map (λ (o : BodyValue). o.row) (filter (is_neighbour radius b) bodies) row (has-ascending (map (λ o. o.row) (filter (is_neighbour radius b) bodies)) row m) in
        let f = has_filter (is_neighbour radius b) bodies r.0 r.1 in
        let n = neighbour-parts radius b r.0 f.1 in
        (r.0, f.0, (sym r.2, n.0, n.1))

    from : (row : ℕ) → ((o : BodyValue) × Contains bodies o × IsNeighbourOf radius b row o) → Contains (near_rows radius bodies b) row
    from row h =
        let o = h.0 in
        let f = filter_has (is_neighbour radius b) bodies o h.1 (parts-neighbour radius b o h.2.1 h.2.2) in
        let m = map_has (λ (x : BodyValue). x.row) (filter (is_neighbour radius b) bodies) o f in
        ascending-has (map (λ x. x.row) (filter (is_neighbour radius b) bodies)) row (subst (λ (z : ℕ). Contains (map (λ x. x.row) (filter (is_neighbour radius b) bodies)) z) h.2.0 m)
