-- Which elements a list has.
use Rattle.std.proofs.Common.{ℕ, zero, suc, ◌≡◌, ◌<◌, Bool, true, false, cond, List, [], ◌∷◌, length, map, filter, flat_map, get_or, sym, refl, subst, inl, inr, arith}
use Rattle.std.specs.Prelude.{Contains, All, ◌⊎◌, ◌||◌}
use Rattle.std.proofs.lemmas.List.Elements.{All-weaker, All-contains, All-contains_itself, Contains-append_left, Contains-append_right, Contains-append_cases}
use Rattle.std.specs.List.{list_all, list_any}
use Rattle.hot_units.specs.Keys.{digits}

-- a list has its first item
pub head_has : {X : Type 0} (x : X) (xs : List X) → Contains (x ∷ xs) x
head_has x xs = (0, omega arith, refl)

-- a list has what it has behind its first item
pub tail_has : {X : Type 0} (x : X) (xs : List X) (y : X) → Contains xs y → Contains (x ∷ xs) y
tail_has x xs y h = (suc h.0, omega (arith, h.1), h.2)

-- a member is the first item or stands behind it
pub cons_cases : {X : Type 0} (x : X) (xs : List X) (y : X) → Contains (x ∷ xs) y → (y ≡ x) ⊎ Contains xs y
cons_cases x xs y h = by_place h.0 h.1 h.2
  where
    by_place : (i : ℕ) → i < length (x ∷ xs) → get_or (x ∷ xs) i y ≡ y → (y ≡ x) ⊎ Contains xs y
    by_place zero p e = inl (sym e)
    by_place (suc i) p e = inr (i, omega (arith, p), e)

-- an empty list has no member
pub nil_has : {X : Type 0} (y : X) → Contains [] y → ⊥
nil_has y h = absurd (omega (arith, h.1))

-- what holds of each member holds of all
pub all_members : {X : Type 0} (P : X → Type 0) (xs : List X) → ((x : X) → Contains xs x → P x) → All P xs
all_members P xs f = All-weaker (Contains xs) P f xs (All-contains_itself xs)

-- a member that passes the test is kept
pub filter_has : {X : Type 0} (p : X → Bool) (xs : List X) (x : X) → Contains xs x → p x ≡ true → Contains (filter p xs) x
filter_has p [] x h e = absurd (nil_has x h)
filter_has p (y ∷ ys) x h e =
    elim (cons_cases y ys x h) [
      | inl f ↦
          let t : p y ≡ true = subst (λ z. p z ≡ true) f e in
          rw t (subst (λ z. Contains (y ∷ filter p ys) z) (sym f) (head_has y (filter p ys)))
      | inr f ↦
          let deeper = filter_has p ys x f e in
          elim (p y) as (λ (t : Bool). Contains (cond t (y ∷ filter p ys) (filter p ys)) x) [
            | true ↦ tail_has y (filter p ys) x deeper
            | false ↦ deeper
          ]
    ]

-- what is kept is a member and passes the test
pub has_filter : {X : Type 0} (p : X → Bool) (xs : List X) (x : X) → Contains (filter p xs) x → Contains xs x × (p x ≡ true)
has_filter p [] x h = absurd (nil_has x h)
has_filter {X = X} p (y ∷ ys) x h = by_test (has_filter p ys x) (p y) refl h
  where
    by_test : (Contains (filter p ys) x → Contains ys x × (p x ≡ true)) → (t : Bool) → p y ≡ t → Contains (cond t (y ∷ filter p ys) (filter p ys)) x → Contains (y ∷ ys) x × (p x ≡ true)
    by_test deeper true e g =
        elim (cons_cases y (filter p ys) x g) [
          | inl f ↦ (subst (λ z. Contains (y ∷ ys) z) (sym f) (head_has y ys), subst (λ z. p z ≡ true) (sym f) e)
          | inr f ↦ let r = deeper f in (tail_has y ys x r.0, r.1)
        ]
    by_test deeper false e g = let r = deeper g in (tail_has y ys x r.0, r.1)

-- the value at a member is in the list of values
pub map_has : {X Y : Type 0} (f : X → Y) (xs : List X) (x : X) → Contains xs x → Contains (map f xs) (f x)
map_has f [] x h = absurd (nil_has x h)
map_has f (y ∷ ys) x h =
    elim (cons_cases y ys x h) [
      | inl e ↦ subst (λ z. Contains (f y ∷ map f ys) (f z)) (sym e) (head_has (f y) (map f ys))
      | inr e ↦ tail_has (f y) (map f ys) (f x) (map_has f ys x e)
    ]

-- what is in the list of values is the value at some member
pub has_map : {X Y : Type 0} (f : X → Y) (xs : List X) (y : Y) → Contains (map f xs) y → (x : X) × Contains xs x × (y ≡ f x)
has_map f [] y h = absurd (nil_has y h)
has_map f (x ∷ xs) y h =
    elim (cons_cases (f x) (map f xs) y h) [
      | inl e ↦ (x, head_has x xs, e)
      | inr e ↦ let r = has_map f xs y e in (r.0, tail_has x xs r.0 r.1, r.2)
    ]

-- what a member's list has is in the joined list
pub flat_has : {X Y : Type 0} (f : X → List Y) (xs : List X) (x : X) (y : Y) → Contains xs x → Contains (f x) y → Contains (flat_map f xs) y
flat_has f [] x y h k = absurd (nil_has x h)
flat_has f (z ∷ zs) x y h k =
    elim (cons_cases z zs x h) [
      | inl e ↦ Contains-append_left (f z) (flat_map f zs) y (subst (λ v. Contains (f v) y) e k)
      | inr e ↦ Contains-append_right (f z) (flat_map f zs) y (flat_has f zs x y e k)
    ]

-- what is in the joined list is in the list of some member
pub has_flat : {X Y : Type 0} (f : X → List Y) (xs : List X) (y : Y) → Contains (flat_map f xs) y → (x : X) × Contains xs x × Contains (f x) y
has_flat f [] y h = absurd (nil_has y h)
has_flat f (z ∷ zs) y h =
    elim (Contains-append_cases (f z) (flat_map f zs) y h) [
      | inl e ↦ (z, head_has z zs, e)
      | inr e ↦ let r = has_flat f zs y e in (r.0, tail_has z zs r.0 r.1, r.2)
    ]

-- the digits are the numbers below eight
pub digits_have : (d : ℕ) → d < 8 → Contains digits d
digits_have d h = (d, h, digits_at d d h)
  where
    digits_at : (e i : ℕ) → i < 8 → get_or digits i e ≡ i
    digits_at e zero h = refl
    digits_at e (suc zero) h = refl
    digits_at e (suc (suc zero)) h = refl
    digits_at e (suc (suc (suc zero))) h = refl
    digits_at e (suc (suc (suc (suc zero)))) h = refl
    digits_at e (suc (suc (suc (suc (suc zero))))) h = refl
    digits_at e (suc (suc (suc (suc (suc (suc zero)))))) h = refl
    digits_at e (suc (suc (suc (suc (suc (suc (suc zero))))))) h = refl
    digits_at e (suc (suc (suc (suc (suc (suc (suc (suc n)))))))) h = absurd (omega (arith, h))

-- each of the digits is below eight
pub have_digits : (d : ℕ) → Contains digits d → d < 8
have_digits d h = All-contains (λ (i : ℕ). i < 8) digits d small h
  where
    small : All (λ (i : ℕ). i < 8) digits
    small zero e h = omega arith
    small (suc zero) e h = omega arith
    small (suc (suc zero)) e h = omega arith
    small (suc (suc (suc zero))) e h = omega arith
    small (suc (suc (suc (suc zero)))) e h = omega arith
    small (suc (suc (suc (suc (suc zero))))) e h = omega arith
    small (suc (suc (suc (suc (suc (suc zero)))))) e h = omega arith
    small (suc (suc (suc (suc (suc (suc (suc zero))))))) e h = omega arith
    small (suc (suc (suc (suc (suc (suc (suc (suc n)))))))) e h = absurd (omega (arith, h))

-- a list that has a member is not empty
pub has_length : {X : Type 0} (xs : List X) (x : X) → Contains xs x → 0 < length xs
has_length xs x h = omega (arith, h.1)

-- a list that is not empty has a member
pub some_member : {X : Type 0} (xs : List X) → 0 < length xs → (x : X) × Contains xs x
some_member [] h = absurd (omega (arith, h))
some_member (x ∷ xs) h = (x, head_has x xs)

-- where a test does not hold of all, it fails at a member
pub not_all : {X : Type 0} (p : X → Bool) (xs : List X) → list_all p xs ≡ false → (x : X) × Contains xs x × (p x ≡ false)
not_all p [] h = absurd (let e : true ≡ false = h in cc)
not_all {X = X} p (x ∷ xs) h = by_test (not_all p xs) (p x) refl
  where
    by_test : (list_all p xs ≡ false → (y : X) × Contains xs y × (p y ≡ false)) → (t : Bool) → p x ≡ t → (y : X) × Contains (x ∷ xs) y × (p y ≡ false)
    by_test deeper false e = (x, head_has x xs, e)
    by_test deeper true e = let f : list_all p xs ≡ false = rw e at h in let r = deeper f in (r.0, tail_has x xs r.0 r.1, r.2)

-- where a test holds of any, it holds of some member
pub any_has : {X : Type 0} (p : X → Bool) (xs : List X) → list_any p xs ≡ true → (x : X) × Contains xs x × (p x ≡ true)
any_has p [] h = absurd (let e : false ≡ true = h in cc)
any_has {X = X} p (x ∷ xs) h = by_test (any_has p xs) (p x) refl
  where
    by_test : (list_any p xs ≡ true → (y : X) × Contains xs y × (p y ≡ true)) → (t : Bool) → p x ≡ t → (y : X) × Contains (x ∷ xs) y × (p y ≡ true)
    by_test deeper true e = (x, head_has x xs, e)
    by_test deeper false e = let f : list_any p xs ≡ true = rw e at h in let r = deeper f in (r.0, tail_has x xs r.0 r.1, r.2)

-- where a test holds of a member, it holds of any
pub has_any : {X : Type 0} (p : X → Bool) (xs : List X) (x : X) → Contains xs x → p x ≡ true → list_any p xs ≡ true
has_any p [] x h e = absurd (nil_has x h)
has_any p (y ∷ ys) x h e =
    elim (cons_cases y ys x h) [
      | inl f ↦ let t : p y ≡ true = subst (λ z. p z ≡ true) f e in rw t refl
      | inr f ↦ let t : list_any p ys ≡ true = has_any p ys x f e in rw t (elim (p y) as (λ (v : Bool). (v || true) ≡ true) [ true ↦ refl | false ↦ refl ])
    ]

-- two functions that agree on the members of a list join to the same list over it
pub flat_same : {X Y : Type 0} (f g : X → List Y) (xs : List X) → ((x : X) → Contains xs x → f x ≡ g x) → flat_map f xs ≡ flat_map g xs
flat_same f g [] h = refl
flat_same f g (x ∷ xs) h =
    let e = h x (head_has x xs) in
    let r = flat_same f g xs (λ y m. h y (tail_has x xs y m)) in
    rw (e, r) refl

-- two functions that agree on the members of a list make the same list of it
pub map_same : {X Y : Type 0} (f g : X → Y) (xs : List X) → ((x : X) → Contains xs x → f x ≡ g x) → map f xs ≡ map g xs
map_same f g [] h = refl
map_same f g (x ∷ xs) h =
    let e = h x (head_has x xs) in
    let r = map_same f g xs (λ y m. h y (tail_has x xs y m)) in
    rw (e, r) refl

-- two tests that agree on the members of a list keep the same of it
pub filter_same : {X : Type 0} (p q : X → Bool) (xs : List X) → ((x : X) → Contains xs x → p x ≡ q x) → filter p xs ≡ filter q xs
filter_same p q [] h = refl
filter_same p q (x ∷ xs) h =
    let e = h x (head_has x xs) in
    let r = filter_same p q xs (λ y m. h y (tail_has x xs y m)) in
    rw (e, r) refl
