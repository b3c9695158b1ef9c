-- The list of all cells that have bodies: its members, its order, its length.
use Rattle.std.proofs.Common.{◌^◌, ℕ, zero, suc, ◌≡◌, ◌-◌, ◌*◌, ◌<◌, ◌≤◌, eqb, List, [], ◌∷◌, length, map, sym, refl, ap, subst, inl, inr, arith, length-append}
use Rattle.std.specs.Prelude.{Contains, ◌↔◌}
use Rattle.std.proofs.lemmas.List.Kept.{Contains-dedup_nat, Contains-from_dedup}
use Rattle.std.proofs.lemmas.Bool.{cases_lt}
use Rattle.std.proofs.lemmas.List.Elements.{Contains-append_left, Contains-append_right, Contains-append_cases}
use Rattle.std.proofs.Math.Nat.{pow-succ'}
use Rattle.hot_units.specs.Values.{BodyValue}
use Rattle.hot_units.specs.Keys.{key_of_body, front, IsCell}
use Rattle.hot_units.specs.Order.{IsInOrder}
use Rattle.hot_units.proofs.Digits.{div_rises, eight_pow_le}
use Rattle.hot_units.proofs.Members.{map_has, has_map, has_length, some_member}
use Rattle.hot_units.proofs.Sorts.{dedup_short, AllFrom, Rises, Ascends, dedup_rises, ascends_append, all_from, all_under}
use Rattle.hot_model.specs.Trees.{inside}
use Rattle.hot_model.specs.Cells.{cells_at, cells_above, cells}
use Rattle.hot_model.proofs.Parts.{inside_has, has_inside}
use Rattle.hot_model.proofs.Fronts.{front_level, own_front, contains_front}
use Rattle.hot_model.proofs.Ranges.{Rising, NoneBelow, rising_in_order}

-- the cells of one level
pub cells_at_has : (bodies : List BodyValue) (l : ℕ) (b : BodyValue) → Contains bodies b → Contains (cells_at bodies l) (front l (key_of_body b))
cells_at_has bodies l b h = Contains-dedup_nat (map (λ x. front l (key_of_body x)) bodies) (front l (key_of_body b)) (map_has (λ (x : BodyValue). front l (key_of_body x)) bodies b h)

-- a listed cell of a level is the front at that level of the key of some body
pub has_cells_at : (bodies : List BodyValue) (l k : ℕ) → Contains (cells_at bodies l) k → (b : BodyValue) × Contains bodies b × (k ≡ front l (key_of_body b))
has_cells_at bodies l k h = has_map (λ (x : BodyValue). front l (key_of_body x)) bodies k (Contains-from_dedup eqb (map (λ x. front l (key_of_body x)) bodies) k h)

-- the cells of the levels below n
pub cells_above_has : (bodies : List BodyValue) (n l : ℕ) (b : BodyValue) → l < n → Contains bodies b → Contains (cells_above bodies n) (front l (key_of_body b))
unfolding cells_above
cells_above_has bodies zero l b p h = absurd (omega (arith, p))
cells_above_has bodies (suc n) l b p h =
    elim (cases_lt l n) [
      | inl q ↦ Contains-append_left (cells_above bodies n) (cells_at bodies n) (front l (key_of_body b)) (cells_above_has bodies n l b q h)
      | inr q ↦
          let e : n ≡ l = omega (arith, p, q) in
          Contains-append_right (cells_above bodies n) (cells_at bodies n) (front l (key_of_body b)) (subst (λ (z : ℕ). Contains (cells_at bodies z) (front l (key_of_body b))) (sym e) (cells_at_has bodies l b h))
    ]

-- a listed cell of the levels below n is the front at one of them of the key of some body
pub has_cells_above : (bodies : List BodyValue) (n k : ℕ) → Contains (cells_above bodies n) k → (l : ℕ) × (l < n) × ((b : BodyValue) × Contains bodies b × (k ≡ front l (key_of_body b)))
unfolding cells_above
has_cells_above bodies zero k h = absurd (omega (arith, h.1))
has_cells_above bodies (suc n) k h =
    elim (Contains-append_cases (cells_above bodies n) (cells_at bodies n) k h) [
      | inl m ↦ let r = has_cells_above bodies n k m in (r.0, omega (arith, r.1), r.2)
      | inr m ↦ (n, omega arith, has_cells_at bodies n k m)
    ]

-- the list has exactly the cells that have bodies
pub cells-are : (bodies : List BodyValue) (k : ℕ) → Contains (cells bodies) k ↔ (IsCell k × (0 < length (inside bodies k)))
cells-are bodies k = (to, from)
  where
    to : Contains (cells bodies) k → IsCell k × (0 < length (inside bodies k))
    to h =
        let r = has_cells_above bodies 22 k h in
        let b = r.2.0 in
        let p : r.0 ≤ 21 = omega (arith, r.1) in
        let m : Contains (inside bodies (front r.0 (key_of_body b))) b = inside_has bodies (front r.0 (key_of_body b)) b r.2.1 (own_front r.0 b p) in
        subst (λ (z : ℕ). IsCell z × (0 < length (inside bodies z))) (sym r.2.2) ((r.0, p, front_level r.0 b p), has_length (inside bodies (front r.0 (key_of_body b))) b m)

    from : IsCell k × (0 < length (inside bodies k)) → Contains (cells bodies) k
    from h =
        let m = some_member (inside bodies k) h.1 in
        let i = has_inside bodies k m.0 m.1 in
        let f = contains_front k h.0.0 m.0 h.0.1 h.0.2 i.1 in
        subst (λ (z : ℕ). Contains (cells bodies) z) f (cells_above_has bodies 22 h.0.0 m.0 (omega (arith, h.0.1)) i.0)

map_length : {X Y : Type 0} (f : X → Y) (xs : List X) → length (map f xs) ≡ length xs
map_length f [] = refl
map_length f (x ∷ xs) = ap suc (map_length f xs)

-- at most 22 for each body
cells_above_short : (bodies : List BodyValue) (n : ℕ) → length (cells_above bodies n) ≤ n * length bodies
unfolding cells_above
cells_above_short bodies zero = omega arith
cells_above_short bodies (suc n) =
    let a = cells_above_short bodies n in
    let b = dedup_short (map (λ b. front n (key_of_body b)) bodies) in
    let c : length (map (λ b. front n (key_of_body b)) bodies) ≡ length bodies = map_length (λ (b : BodyValue). front n (key_of_body b)) bodies in
    omega (arith, a, b, c, length-append (cells_above bodies n) (cells_at bodies n))

-- there are at most 22 cells with bodies for each body
pub cells_short : (bodies : List BodyValue) → length (cells bodies) ≤ 22 * length bodies
cells_short bodies = cells_above_short bodies 22

-- the list ascends
from_map : (l k : ℕ) (xs : List BodyValue) → NoneBelow k xs → AllFrom (front l k) (map (λ b. front l (key_of_body b)) xs)
from_map l k [] h = tt
from_map l k (x ∷ xs) h = (div_rises k (key_of_body x) (8 ^ (21 - l)) h.0, from_map l k xs h.1)

rises_map : (l : ℕ) (xs : List BodyValue) → Rising xs → Rises (map (λ b. front l (key_of_body b)) xs)
rises_map l [] h = tt
rises_map l (x ∷ xs) h = (from_map l (key_of_body x) xs h.0, rises_map l xs h.1)

cells_above_ascend : (bodies : List BodyValue) (n : ℕ) → n ≤ 22 → Rising bodies → Ascends (cells_above bodies n)
unfolding cells_above
cells_above_ascend bodies zero h r = tt
cells_above_ascend bodies (suc n) h r =
    ascends_append (8 ^ n) (cells_above bodies n) (cells_at bodies n)
    (cells_above_ascend bodies n (omega (arith, h)) r)
    (dedup_rises (map (λ b. front n (key_of_body b)) bodies) (rises_map n bodies r))
    (all_under (8 ^ n) (cells_above bodies n) (λ j m. upper j m))
    (all_from (8 ^ n) (cells_at bodies n) (λ j m. lower j m))
  where
    lower : (j : ℕ) → Contains (cells_at bodies n) j → 8 ^ n ≤ j
    lower j m =
        let r = has_cells_at bodies n j m in
        let p = front_level n r.0 (omega (arith, h)) in
        omega (arith, p.0, r.2)

    upper : (j : ℕ) → Contains (cells_above bodies n) j → j < 8 ^ n
    upper j m =
        let r = has_cells_above bodies n j m in
        let p = front_level r.0 r.2.0 (omega (arith, h, r.1)) in
        let q : 8 ^ suc r.0 ≤ 8 ^ n = eight_pow_le (suc r.0) n (omega (arith, r.1)) in
        omega (arith, p.1, r.2.2, q, pow-succ' 8 r.0)

-- the list of the cells of bodies in order ascends
pub cells_ascend : (bodies : List BodyValue) → IsInOrder bodies → Ascends (cells bodies)
cells_ascend bodies g = cells_above_ascend bodies 22 (omega arith) (rising_in_order bodies g)
