-- The greatest and the least key of a list in key order.
use Rattle.std.proofs.Common.{ℕ, zero, suc, ◌≡◌, ◌+◌, ◌<◌, ◌≤◌, true, false, leb, List, [], ◌∷◌, length, map, get_or, sym, refl, ap, ◌∙◌, inl, inr, arith, Option, Some, None}
use Rattle.std.proofs.lemmas.Bool.{cases_lt, le-leb, lt-leb}
use Rattle.hot_units.specs.Values.{BodyValue}
use Rattle.hot_units.specs.Numbers.{greatest, least, more_of, less_of}
use Rattle.hot_units.specs.Keys.{key_of_body}
use Rattle.hot_units.specs.Order.{IsInOrder}
use Rattle.hot_model.proofs.Ranges.{Rising, NoneBelow, rising_in_order}

member_from : (j m : ℕ) (xs : List BodyValue) (d : BodyValue) → NoneBelow j xs → m < length xs → j ≤ key_of_body (get_or xs m d)
member_from j m [] d n h = absurd (omega (arith, h))
member_from j zero (x ∷ xs) d n h = n.0
member_from j (suc m) (x ∷ xs) d n h = member_from j m xs d n.1 (omega (arith, h))

more-up : (k m : ℕ) → k ≤ m → more_of k (Some m) ≡ m
more-up k m h = elim (cases_lt k m) [
  | inl p ↦ let t : leb m k ≡ false = lt-leb _ _ p in rw t refl
  | inr p ↦ let t : leb m k ≡ true = le-leb _ _ p in rw t (omega (arith, h, p))
]

less-down : (k m : ℕ) → k ≤ m → less_of k (Some m) ≡ k
less-down k m h = let t : leb k m ≡ true = le-leb _ _ h in rw t refl

rising-last : (xs : List BodyValue) (i : ℕ) (d : BodyValue) → Rising xs → i + 1 ≡ length xs → greatest (map key_of_body xs) ≡ Some (key_of_body (get_or xs i d))
unfolding greatest
rising-last [] i d r h = absurd (omega (arith, h))
rising-last (x ∷ []) zero d r h = refl
rising-last (x ∷ []) (suc i) d r h = absurd (omega (arith, h))
rising-last (x ∷ y ∷ ys) zero d r h = absurd (omega (arith, h))
rising-last (x ∷ y ∷ ys) (suc i) d r h =
    let ih : greatest (map key_of_body (y ∷ ys)) ≡ Some (key_of_body (get_or (y ∷ ys) i d)) = rising-last (y ∷ ys) i d r.1 (omega (arith, h)) in
    let up = member_from (key_of_body x) i (y ∷ ys) d r.0 (omega (arith, h)) in
    ap (λ (o : Option ℕ). Some (more_of (key_of_body x) o)) ih ∙ ap (λ (n : ℕ). Some n) (more-up (key_of_body x) (key_of_body (get_or (y ∷ ys) i d)) up)

rising-first : (x : BodyValue) (xs : List BodyValue) → Rising (x ∷ xs) → least (map key_of_body (x ∷ xs)) ≡ Some (key_of_body x)
unfolding least
rising-first x [] r = refl
rising-first x (y ∷ ys) r =
    let ih : least (map key_of_body (y ∷ ys)) ≡ Some (key_of_body y) = rising-first y ys r.1 in
    ap (λ (o : Option ℕ). Some (less_of (key_of_body x) o)) ih ∙ ap (λ (n : ℕ). Some n) (less-down (key_of_body x) (key_of_body y) r.0.0)

-- the last key is the greatest
pub last-greatest : (xs : List BodyValue) (i k : ℕ) (b : BodyValue) → IsInOrder xs → i + 1 ≡ length xs → b ≡ get_or xs i b → k ≡ key_of_body b → Some k ≡ greatest (map key_of_body xs)
last-greatest xs i k b o h at e = ap (λ (n : ℕ). Some n) (e ∙ ap key_of_body at) ∙ sym (rising-last xs i b (rising_in_order xs o) h)

none-greatest : (xs : List BodyValue) → length xs ≡ 0 → None ≡ greatest (map key_of_body xs)
unfolding greatest
none-greatest [] h = refl
none-greatest (x ∷ xs) h = absurd (omega (arith, h))

-- the first key is the least
pub first-least : (xs : List BodyValue) (k : ℕ) (b : BodyValue) → IsInOrder xs → 0 < length xs → b ≡ get_or xs 0 b → k ≡ key_of_body b → Some k ≡ least (map key_of_body xs)
first-least [] k b o h at e = absurd (omega (arith, h))
first-least (x ∷ xs) k b o h at e = ap (λ (n : ℕ). Some n) (e ∙ ap key_of_body at) ∙ sym (rising-first x xs (rising_in_order (x ∷ xs) o))

none-least : (xs : List BodyValue) → length xs ≡ 0 → None ≡ least (map key_of_body xs)
unfolding least
none-least [] h = refl
none-least (x ∷ xs) h = absurd (omega (arith, h))

-- an empty list has no greatest key
pub no-greatest : (xs : List BodyValue) → length xs ≡ 0 → None ≡ greatest (map key_of_body xs)
no-greatest xs h = none-greatest xs h

-- an empty list has no least key
pub no-least : (xs : List BodyValue) → length xs ≡ 0 → None ≡ least (map key_of_body xs)
no-least xs h = none-least xs h
