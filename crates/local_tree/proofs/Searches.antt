-- Binary search in a list in key order.
use Rattle.std.proofs.Common.{ℕ, zero, suc, ◌≡◌, ◌+◌, ◌<◌, ◌≤◌, true, false, cond, ltb, List, [], ◌∷◌, length, get_or, arith, refl, subst, ◌∙◌, inl, inr}
use Rattle.std.proofs.lemmas.Bool.{cases_lt, lt-ltb, le-ltb}
use Rattle.std.proofs.lemmas.List.Sums.{sum_by-cons}
use Rattle.hot_units.specs.Values.{BodyValue}
use Rattle.hot_units.specs.Keys.{key_of_body, IsCell}
use Rattle.hot_units.specs.Order.{IsInOrder}
use Rattle.hot_model.proofs.Ranges.{Rising, NoneBelow, rising_in_order}
use Rattle.morton_key.specs.Ranges.{count_below, first_key, last_key}
use Rattle.morton_key.proofs.Numbers.{is_least, is_greatest}

one_more : (k : ℕ) (x : BodyValue) (xs : List BodyValue) → count_below k (x ∷ xs) ≡ cond (ltb (key_of_body x) k) 1 0 + count_below k xs
one_more k x xs = sum_by-cons (λ b. cond (ltb (key_of_body b) k) 1 0) x xs

counted : (k : ℕ) (x : BodyValue) (xs : List BodyValue) → key_of_body x < k → count_below k (x ∷ xs) ≡ 1 + count_below k xs
counted k x xs p = let t : ltb (key_of_body x) k ≡ true = lt-ltb _ _ p in one_more k x xs ∙ rw t refl

passed : (k : ℕ) (x : BodyValue) (xs : List BodyValue) → k ≤ key_of_body x → count_below k (x ∷ xs) ≡ count_below k xs
passed k x xs p = let t : ltb (key_of_body x) k ≡ false = le-ltb _ _ p in one_more k x xs ∙ rw t (omega arith)

none_below : (k j : ℕ) (xs : List BodyValue) → k ≤ j → NoneBelow j xs → count_below k xs ≡ 0
none_below k j [] h n = omega arith
none_below k j (x ∷ xs) h n = passed k x xs (omega (arith, n.0, h)) ∙ none_below k j xs h n.1

-- at most all bodies are counted
pub count-le : (k : ℕ) (xs : List BodyValue) → count_below k xs ≤ length xs
count-le k [] = omega arith
count-le k (x ∷ xs) = elim (cases_lt (key_of_body x) k) [
  | inl p ↦ omega (arith, counted k x xs p, count-le k xs)
  | inr p ↦ omega (arith, passed k x xs p, count-le k xs)
]

member_from : (j m : ℕ) (xs : List BodyValue) (d : BodyValue) → NoneBelow j xs → m < length xs → j ≤ key_of_body (get_or xs m d)
member_from j m [] d n h = absurd (omega (arith, h))
member_from j zero (x ∷ xs) d n h = n.0
member_from j (suc m) (x ∷ xs) d n h = member_from j m xs d n.1 (omega (arith, h))

at_low : (k m : ℕ) (xs : List BodyValue) (d : BodyValue) → Rising xs → m < length xs → key_of_body (get_or xs m d) < k → m + 1 ≤ count_below k xs
at_low k m [] d r h l = absurd (omega (arith, h))
at_low k zero (x ∷ xs) d r h l = omega (arith, counted k x xs l)
at_low k (suc m) (x ∷ xs) d r h l =
    let p = member_from (key_of_body x) m xs d r.0 (omega (arith, h)) in
    omega (arith, counted k x xs (omega (arith, p, l)), at_low k m xs d r.1 (omega (arith, h)) l)

at_high : (k m : ℕ) (xs : List BodyValue) (d : BodyValue) → Rising xs → m < length xs → k ≤ key_of_body (get_or xs m d) → count_below k xs ≤ m
at_high k m [] d r h l = absurd (omega (arith, h))
at_high k zero (x ∷ xs) d r h l = omega (arith, passed k x xs l, none_below k (key_of_body x) xs l r.0)
at_high k (suc m) (x ∷ xs) d r h l = elim (cases_lt (key_of_body x) k) [
  | inl p ↦ omega (arith, counted k x xs p, at_high k m xs d r.1 (omega (arith, h)) l)
  | inr p ↦ omega (arith, passed k x xs p, none_below k (key_of_body x) xs p r.0)
]

-- a body with a smaller key, and all before it
pub place-low : (k m : ℕ) (xs : List BodyValue) (b : BodyValue) → IsInOrder xs → m < length xs → b ≡ get_or xs m b → key_of_body b < k → m + 1 ≤ count_below k xs
place-low k m xs b o h at l = at_low k m xs b (rising_in_order xs o) h (subst (λ (z : BodyValue). key_of_body z < k) at l)

-- a body without a smaller key, and none behind it
pub place-high : (k m : ℕ) (xs : List BodyValue) (b : BodyValue) → IsInOrder xs → m < length xs → b ≡ get_or xs m b → k ≤ key_of_body b → count_below k xs ≤ m
place-high k m xs b o h at l = at_high k m xs b (rising_in_order xs o) h (subst (λ (z : BodyValue). k ≤ key_of_body z) at l)

-- below a greater key at least as many are counted
pub count-rises : (j k : ℕ) (xs : List BodyValue) → j ≤ k → count_below j xs ≤ count_below k xs
count-rises j k [] h = omega arith
count-rises j k (x ∷ xs) h = elim (cases_lt (key_of_body x) j) [
  | inl p ↦ omega (arith, counted j x xs p, counted k x xs (omega arith), count-rises j k xs h)
  | inr p ↦ omega (arith, passed j x xs p, one_more k x xs, count-rises j k xs h)
]

-- the first place of a cell's bodies is at most the second
pub places-rise : (xs : List BodyValue) (c : ℕ) → IsCell c → count_below (first_key c) xs ≤ count_below (last_key c + 1) xs
places-rise xs c i =
    let high : first_key c ≤ last_key c = (is_least c i).least (last_key c) (is_greatest c i).body (is_greatest c i).within in
    count-rises (first_key c) (last_key c + 1) xs (omega (arith, high))

-- a body with at most the last key of a cell stands before the second place
pub place-within : (xs : List BodyValue) (c at : ℕ) (b : BodyValue) → IsInOrder xs → at < length xs → b ≡ get_or xs at b → key_of_body b ≤ last_key c → at + 1 ≤ count_below (last_key c + 1) xs
place-within xs c at b o h e l = place-low (last_key c + 1) at xs b o h e (omega (arith, l))

-- a body with a greater key does not
pub place-past : (xs : List BodyValue) (c at : ℕ) (b : BodyValue) → IsInOrder xs → at < length xs → b ≡ get_or xs at b → last_key c < key_of_body b → count_below (last_key c + 1) xs ≤ at
place-past xs c at b o h e l = place-high (last_key c + 1) at xs b o h e (omega (arith, l))
