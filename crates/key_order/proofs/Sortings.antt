-- A list in key order, each row once, is the one ordered list of its bodies.
use Rattle.std.proofs.Common.{ℕ, zero, suc, ◌≡◌, ◌+◌, ◌<◌, ◌≤◌, Bool, true, false, cond, eqb, ltb, ℤ, List, [], ◌∷◌, length, sum_by, get_or, sym, refl, ap, ◌∙◌, subst, inl, inr, arith}
use Rattle.std.specs.Prelude.{Contains, All, ◌⊎◌, ◌||◌, ◌&&◌}
use Rattle.std.specs.List.Sorted.{IsPermutation}
use Rattle.std.proofs.lemmas.Bool.{cases_eq, eq-eqb, ne_eqb}
use Rattle.std.proofs.lemmas.Bool.Decides.{nat_tests}
use Rattle.std.proofs.lemmas.List.Sums.{sum_by-cons}
use Rattle.std.proofs.lemmas.List.Sorted.{sorted_far, sum_by-IsPermutation, Contains-permutation, IsPermutation-sym, All-permutation, length_permutation}
use Rattle.std.specs.Ordering.{is_lt, ordering_then, nat_cmp}
use Rattle.hot_units.specs.Values.{BodyValue}
use Rattle.hot_units.specs.Keys.{key_of_body}
use Rattle.hot_units.specs.Order.{before, placed, ordered, IsInOrder}
use Rattle.hot_units.specs.Bodies.{mass_of, mass_of_body, IsBody, RowsCount, RowsDiffer}
use Rattle.hot_units.proofs.Members.{head_has, tail_has, cons_cases, nil_has}
use Rattle.hot_units.proofs.Bodies.{before_orders, in_order_tail}
use Rattle.key_order.specs.Ordered.{IsSet, IsOrderedSet}

-- how many bodies have the row r
abbrev count_row : ℕ → List BodyValue → ℕ
count_row r xs = sum_by (λ b. cond (eqb b.row r) 1 0) xs

abbrev one_if : Bool → ℕ
one_if t = cond t 1 0

-- no row stands twice
abbrev pub OneEach : List BodyValue → Type 0
OneEach xs = (r : ℕ) → sum_by (λ b. cond (eqb b.row r) 1 0) xs ≤ 1

count-cons : (r : ℕ) (x : BodyValue) (xs : List BodyValue) → count_row r (x ∷ xs) ≡ cond (eqb x.row r) 1 0 + count_row r xs
count-cons r x xs = sum_by-cons (λ b. cond (eqb b.row r) 1 0) x xs

one-of : (r : ℕ) (x : BodyValue) → x.row ≡ r → one_if (eqb x.row r) ≡ 1
one-of r x e = ap one_if (eq-eqb _ _ e)

none-of : (r : ℕ) (x : BodyValue) → (x.row ≡ r → ⊥) → one_if (eqb x.row r) ≡ 0
none-of r x n = ap one_if (ne_eqb _ _ n)

one_each_tail : (x : BodyValue) (xs : List BodyValue) → OneEach (x ∷ xs) → OneEach xs
one_each_tail x xs h r = omega (arith, h r, count-cons r x xs)

member_counts : (r : ℕ) (xs : List BodyValue) (b : BodyValue) → Contains xs b → b.row ≡ r → 1 ≤ count_row r xs
member_counts r [] b m e = absurd (nil_has b m)
member_counts r (x ∷ xs) b m e =
    elim (cons_cases x xs b m) [
      | inl f ↦
          let g : x.row ≡ r = subst (λ (y : BodyValue). y.row ≡ r) f e in
          omega (arith, count-cons r x xs, one-of r x g)
      | inr f ↦ let deeper = member_counts r xs b f e in omega (arith, deeper, count-cons r x xs)
    ]

rows_apart : (x : BodyValue) (xs : List BodyValue) (b : BodyValue) → OneEach (x ∷ xs) → Contains xs b → b.row ≡ x.row → ⊥
rows_apart x xs b h m e =
    omega (arith, count-cons x.row x xs, one-of x.row x refl, h x.row, member_counts x.row xs b m e)

-- the order, strictly
strict : (a b : BodyValue) → before b a ≡ false → (b.row ≡ a.row → ⊥) → before a b ≡ true
unfolding before
strict a b h n = grind (arith, nat_tests)

join : (a b c : BodyValue) → before a b ≡ true → before b c ≡ true → before a c ≡ true
unfolding before
join a b c h k = grind (arith, nat_tests)

not_self : (a : BodyValue) → before a a ≡ true → ⊥
not_self a h = let k = before_orders.one_way a a h in absurd cc

-- each body is before all that stand behind it
abbrev AllAfter : BodyValue → List BodyValue → Type 0
AllAfter x xs = (b : BodyValue) → Contains xs b → before x b ≡ true

abbrev Up : List BodyValue → Type 0
Up [] = Unit {0}
Up (x ∷ xs) = AllAfter x xs × Up xs

head_first : (x : BodyValue) (xs : List BodyValue) → IsInOrder (x ∷ xs) → OneEach (x ∷ xs) → AllAfter x xs
head_first x xs s h b m =
    let far : before (get_or xs m.0 b) x ≡ false = sorted_far before before_orders (x ∷ xs) s 0 (suc m.0) b (omega arith) (omega (arith, m.1)) in
    strict x b (rw m.2 at far) (rows_apart x xs b h m)

up_in_order : (xs : List BodyValue) → IsInOrder xs → OneEach xs → Up xs
up_in_order [] s h = tt
up_in_order (x ∷ xs) s h = (head_first x xs s h, up_in_order xs (in_order_tail x xs s) (one_each_tail x xs h))

-- the members of an ordered list
placed_has : (b : BodyValue) (xs : List BodyValue) (y : BodyValue) → Contains (placed b xs) y → (y ≡ b) ⊎ Contains xs y
unfolding placed
placed_has b [] y m = cons_cases b [] y m
placed_has b (x ∷ xs) y m = by_test (placed_has b xs y) (before b x) m
  where
    by_test : (Contains (placed b xs) y → (y ≡ b) ⊎ Contains xs y) → (t : Bool) → Contains (cond t (b ∷ x ∷ xs) (x ∷ placed b xs)) y → (y ≡ b) ⊎ Contains (x ∷ xs) y
    by_test deeper true n = cons_cases b (x ∷ xs) y n
    by_test deeper false n =
        elim (cons_cases x (placed b xs) y n) [
          | inl e ↦ inr (subst (λ z. Contains (x ∷ xs) z) (sym e) (head_has x xs))
          | inr e ↦ elim (deeper e) [
            | inl f ↦ inl f
            | inr f ↦ inr (tail_has x xs y f)
          ]
        ]

has_placed : (b : BodyValue) (xs : List BodyValue) (y : BodyValue) → Contains (b ∷ xs) y → Contains (placed b xs) y
unfolding placed
has_placed b [] y m = m
has_placed b (x ∷ xs) y m = by_test (has_placed b xs y) (before b x)
  where
    by_test : (Contains (b ∷ xs) y → Contains (placed b xs) y) → (t : Bool) → Contains (cond t (b ∷ x ∷ xs) (x ∷ placed b xs)) y
    by_test deeper true = m
    by_test deeper false =
        elim (cons_cases b (x ∷ xs) y m) [
          | inl e ↦ tail_has x (placed b xs) y (deeper (subst (λ z. Contains (b ∷ xs) z) (sym e) (head_has b xs)))
          | inr e ↦ elim (cons_cases x xs y e) [
            | inl f ↦ subst (λ z. Contains (x ∷ placed b xs) z) (sym f) (head_has x (placed b xs))
            | inr f ↦ tail_has x (placed b xs) y (deeper (tail_has b xs y f))
          ]
        ]

-- a member of the ordered list is one of the list
pub ordered_has : (xs : List BodyValue) (y : BodyValue) → Contains (ordered xs) y → Contains xs y
unfolding ordered
ordered_has [] y m = m
ordered_has (x ∷ xs) y m =
    elim (placed_has x (ordered xs) y m) [
      | inl e ↦ subst (λ z. Contains (x ∷ xs) z) (sym e) (head_has x xs)
      | inr e ↦ tail_has x xs y (ordered_has xs y e)
    ]

-- a member of the list is one of the ordered list
pub has_ordered : (xs : List BodyValue) (y : BodyValue) → Contains xs y → Contains (ordered xs) y
unfolding ordered
has_ordered [] y m = m
has_ordered (x ∷ xs) y m =
    has_placed x (ordered xs) y
    (elim (cons_cases x xs y m) [
      | inl e ↦ subst (λ z. Contains (x ∷ ordered xs) z) (sym e) (head_has x (ordered xs))
      | inr e ↦ tail_has x (ordered xs) y (has_ordered xs y e)
    ])

-- the ordered list is strictly in order
up_placed : (b : BodyValue) (xs : List BodyValue) → Up xs → ((y : BodyValue) → Contains xs y → y.row ≡ b.row → ⊥) → Up (placed b xs)
unfolding placed
up_placed b [] u n = (λ y m. absurd (nil_has y m), tt)
up_placed b (x ∷ xs) u n = by_test (up_placed b xs u.1 (λ y m. n y (tail_has x xs y m))) (before b x) refl
  where
    by_test : Up (placed b xs) → (t : Bool) → before b x ≡ t → Up (cond t (b ∷ x ∷ xs) (x ∷ placed b xs))
    by_test deeper true e = (
      λ y m. elim (cons_cases x xs y m) [
        | inl f ↦ subst (λ z. before b z ≡ true) (sym f) e
        | inr f ↦ join b x y e (u.0 y f)
      ],
      u,
    )
    by_test deeper false e =
        let first : before x b ≡ true = strict x b e (λ g. n x (head_has x xs) (sym g)) in (
          λ y m. elim (placed_has b xs y m) [
            | inl f ↦ subst (λ z. before x z ≡ true) (sym f) first
            | inr f ↦ u.0 y f
          ],
          deeper,
        )

up_ordered : (xs : List BodyValue) → OneEach xs → Up (ordered xs)
unfolding ordered
up_ordered [] h = tt
up_ordered (x ∷ xs) h = up_placed x (ordered xs) (up_ordered xs (one_each_tail x xs h)) (λ y m. rows_apart x xs y h (ordered_has xs y m))

-- two lists strictly in order with the same members are one
below_head : (y z : BodyValue) (zs : List BodyValue) (b : BodyValue) → y ≡ z → before y b ≡ true → Contains (z ∷ zs) b → Contains zs b
below_head y z zs b e h m =
    elim (cons_cases z zs b m) [
      | inl f ↦ absurd (not_self y (subst (λ w. before y w ≡ true) (f ∙ sym e) h))
      | inr f ↦ f
    ]

same_head : (y z : BodyValue) (ys zs : List BodyValue) → AllAfter y ys → AllAfter z zs → Contains (z ∷ zs) y → Contains (y ∷ ys) z → y ≡ z
same_head y z ys zs u v f g =
    elim (cons_cases z zs y f) [
      | inl e ↦ e
      | inr m ↦ elim (cons_cases y ys z g) [
        | inl e ↦ sym e
        | inr n ↦ absurd (not_self y (join y z y (u z n) (v y m)))
      ]
    ]

same_list : (ys zs : List BodyValue) → Up ys → Up zs → ((b : BodyValue) → Contains ys b → Contains zs b) → ((b : BodyValue) → Contains zs b → Contains ys b) → ys ≡ zs
same_list [] [] u v f g = refl
same_list [] (z ∷ zs) u v f g = absurd (nil_has z (g z (head_has z zs)))
same_list (y ∷ ys) [] u v f g = absurd (nil_has y (f y (head_has y ys)))
same_list (y ∷ ys) (z ∷ zs) u v f g =
    let e : y ≡ z = same_head y z ys zs u.0 v.0 (f y (head_has y ys)) (g z (head_has z zs)) in
    let rest : ys ≡ zs = same_list ys zs u.1 v.1 (λ b m. below_head y z zs b e (u.0 b m) (f b (tail_has y ys b m))) (λ b m. below_head z y ys b (sym e) (v.0 b m) (g b (tail_has z zs b m))) in
    ap (λ (w : BodyValue). w ∷ ys) e ∙ ap (λ (ws : List BodyValue). z ∷ ws) rest

one_each_moved : (xs ys : List BodyValue) → OneEach xs → IsPermutation xs ys → OneEach ys
one_each_moved xs ys h p r = omega (arith, h r, sum_by-IsPermutation (λ b. cond (eqb b.row r) 1 0) xs ys p)

-- what a sort by key and row leaves is the ordered list
pub sorted_is_ordered : (xs ys : List BodyValue) → OneEach xs → IsPermutation xs ys → IsInOrder ys → ys ≡ ordered xs
sorted_is_ordered xs ys h p s =
    same_list ys (ordered xs) (up_in_order ys s (one_each_moved xs ys h p)) (up_ordered xs h)
    (λ b m. has_ordered xs b (Contains-permutation ys xs b (IsPermutation-sym xs ys p) m))
    (λ b m. Contains-permutation xs ys b p (ordered_has xs b m))

-- rows that count up stand once each
counts_from : (k : ℕ) (xs : List BodyValue) → ((i : ℕ) (d : BodyValue) → i < length xs → (get_or xs i d).row ≡ k + i) → (r : ℕ) → (count_row r xs ≤ 1) × (r < k → count_row r xs ≡ 0)
counts_from k [] h r = (omega arith, λ _. refl)
counts_from k (x ∷ xs) h r =
    let here : x.row ≡ k + 0 = h 0 x (omega arith) in
    let rest = counts_from (suc k) xs (λ i d p. (let q = h (suc i) d (omega (arith, p)) in omega (arith, q))) r in
    let s = count-cons r x xs in
    elim (cases_eq x.row r) [
      | inl e ↦
          let u = one-of r x e in
          let none : count_row r xs ≡ 0 = rest.1 (omega (arith, here, e)) in
          (omega (arith, s, u, none), λ p. absurd (omega (arith, here, e, p)))
      | inr n ↦
          let u = none-of r x n in
          (omega (arith, s, u, rest.0), λ p. (let z : count_row r xs ≡ 0 = rest.1 (omega (arith, p)) in omega (arith, s, u, z)))
    ]

-- where the rows count up, no row stands twice
pub one_each : (xs : List BodyValue) → RowsCount xs → OneEach xs
one_each xs h r = (counts_from 0 xs (λ i d p. (let q = h i d p in omega (arith, q))) r).0

-- what stands at a place of a list is a member of it
pub has_at : (xs : List BodyValue) (j : ℕ) (d : BodyValue) → j < length xs → Contains xs (get_or xs j d)
has_at [] j d h = absurd (omega (arith, h))
has_at (x ∷ xs) zero d h = head_has x xs
has_at (x ∷ xs) (suc j) d h = tail_has x xs (get_or xs j d) (has_at xs j d (omega (arith, h)))

-- where no row stands twice, bodies at different places have different rows
pub rows_differ : (xs : List BodyValue) → OneEach xs → RowsDiffer xs
rows_differ [] h i j d p q e = absurd (omega (arith, p))
rows_differ (x ∷ xs) h zero zero d p q e = refl
rows_differ (x ∷ xs) h zero (suc j) d p q e = absurd (rows_apart x xs (get_or xs j d) h (has_at xs j d (omega (arith, q))) (sym e))
rows_differ (x ∷ xs) h (suc i) zero d p q e = absurd (rows_apart x xs (get_or xs i d) h (has_at xs i d (omega (arith, p))) e)
rows_differ (x ∷ xs) h (suc i) (suc j) d p q e = ap suc (rows_differ xs (one_each_tail x xs h) i j d (omega (arith, p)) (omega (arith, q)) e)

-- the same holds of the bodies in any other order
pub differ_moved : (xs ys : List BodyValue) → OneEach xs → IsPermutation xs ys → RowsDiffer ys
differ_moved xs ys h p = rows_differ ys (one_each_moved xs ys h p)

-- by key, and then by row
pub before_is : (a b : BodyValue) → before a b ≡ (ltb (key_of_body a) (key_of_body b) || (eqb (key_of_body a) (key_of_body b) && ltb a.row b.row))
unfolding before
before_is a b = refl

-- of two pairs of numbers the first counts, and where they are equal the second
pub two_compared : (j k m n : ℕ) → is_lt (ordering_then (nat_cmp j k) (nat_cmp m n)) ≡ (ltb j k || (eqb j k && ltb m n))
two_compared j k m n = grind (arith, nat_tests)

-- what holds of the ordered list
pub ordered_set : (xs ys : List BodyValue) (idents : List ℤ) (weights : List ℕ) → IsSet xs idents weights → IsPermutation xs ys → IsInOrder ys → IsOrderedSet (record { bodies = ys; idents = idents; weights = weights })
ordered_set xs ys idents weights s p o =
    let n : length ys ≡ length xs = length_permutation xs ys p in
    let m : mass_of ys ≡ mass_of xs = sum_by-IsPermutation mass_of_body xs ys p in
    let in_xs : All (λ b. b.row < length xs) xs = λ i d h. (let e = s.rows i d h in omega (arith, e, h)) in
    let in_ys : All (λ b. b.row < length xs) ys = All-permutation (λ b. b.row < length xs) xs ys p in_xs in
    record {
      sound = All-permutation IsBody xs ys p s.sound;
      in_order = o;
      rows_differ = differ_moved xs ys (one_each xs s.rows) p;
      rows_in = λ i d h. (let e = in_ys i d h in omega (arith, n, e));
      few = omega (arith, n, s.few);
      light = omega (arith, m, s.light);
      idents_too = omega (arith, n, s.idents_too);
      weights_too = omega (arith, n, s.weights_too);
    }
