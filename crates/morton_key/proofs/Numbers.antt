-- Keys as numbers: first and last keys, parents, children.
use Rattle.std.proofs.Common.{ℕ, zero, suc, ◌≡◌, ◌+◌, ◌-◌, ◌*◌, ◌/◌, ◌%◌, ◌^◌, ◌<◌, ◌≤◌, true, ap, ◌∙◌, arith}
use Rattle.std.proofs.Math.Nat.{pow-succ', div-eq_of_lt-le, div-mul-le_self, lt-div-mul-add, mul-le-mul_right}
use Rattle.hot_units.specs.Keys.{HasLevel, IsCell, level, covers, child, parent}
use Rattle.hot_units.proofs.Digits.{eight_pow_pos, eight_pow_le, level-is, level-has, level-le, two_pow_three, top-level}
use Rattle.hot_model.proofs.Parts.{child-level}
use Rattle.hot_model.proofs.Fronts.{covers_front, front_covers, parent_level, eight_add}
use Rattle.morton_key.specs.Ranges.{IsBodyKey, followed_by, first_key, last_key, IsLeastIn, IsGreatestIn}

-- digits behind a number
pub with_zeros : (c n : ℕ) → followed_by c n 0 ≡ c * 8 ^ n
unfolding followed_by
with_zeros c zero = omega arith
with_zeros c (suc n) = rw (pow-succ' 8 n) (omega (arith, with_zeros c n))

-- n sevens behind c are one less than n zeros behind c + 1
pub with_sevens : (c n : ℕ) → followed_by c n 7 + 1 ≡ (c + 1) * 8 ^ n
unfolding followed_by
with_sevens c zero = omega arith
with_sevens c (suc n) = rw (pow-succ' 8 n) (omega (arith, with_sevens c n))

-- a cell covers the body keys of an interval
pub covered_between : (c k l : ℕ) → l ≤ 21 → HasLevel c l → HasLevel k 21 → covers c k ≡ true → (c * 8 ^ (21 - l) ≤ k) × (k < (c + 1) * 8 ^ (21 - l))
covered_between c k l h i j e =
    let f : k / 8 ^ (21 - l) ≡ c = covers_front c k l 21 h (omega arith) i j e in
    let p : 0 < 8 ^ (21 - l) = omega (arith, eight_pow_pos (21 - l)) in
    let low : k / 8 ^ (21 - l) * 8 ^ (21 - l) ≤ k = div-mul-le_self k (8 ^ (21 - l)) in
    let high : k < k / 8 ^ (21 - l) * 8 ^ (21 - l) + 8 ^ (21 - l) = lt-div-mul-add p in
    let low' : c * 8 ^ (21 - l) ≤ k = rw f at low in
    let high' : k < c * 8 ^ (21 - l) + 8 ^ (21 - l) = rw f at high in
    (low', omega (arith, high'))

-- and every body key of that interval
pub between_covered : (c k l : ℕ) → l ≤ 21 → HasLevel c l → HasLevel k 21 → c * 8 ^ (21 - l) ≤ k → k < (c + 1) * 8 ^ (21 - l) → covers c k ≡ true
between_covered c k l h i j low high = front_covers c k l 21 h (omega arith) i j (div-eq_of_lt-le (8 ^ (21 - l)) low high)

-- the first and the last key of a cell
pub first_is : (c : ℕ) → first_key c ≡ c * 8 ^ (21 - level c)
first_is c = with_zeros c (21 - level c)

-- the last key of a cell is one less than the next number with zeros behind it
pub last_is : (c : ℕ) → last_key c + 1 ≡ (c + 1) * 8 ^ (21 - level c)
last_is c = with_sevens c (21 - level c)

-- a number in the interval of a cell has 21 digits behind its 1
pub deep_level : (c l m : ℕ) → l ≤ 21 → HasLevel c l → c * 8 ^ (21 - l) ≤ m → m < (c + 1) * 8 ^ (21 - l) → HasLevel m 21
deep_level c l m h i low high =
    let s : 21 ≡ l + (21 - l) = omega arith in
    let e : 8 ^ 21 ≡ 8 ^ l * 8 ^ (21 - l) = ap (λ (n : ℕ). 8 ^ n) s ∙ eight_add l (21 - l) in
    let a : 8 ^ l * 8 ^ (21 - l) ≤ c * 8 ^ (21 - l) = mul-le-mul_right (8 ^ (21 - l)) i.0 in
    let b : (c + 1) * 8 ^ (21 - l) ≤ 2 * 8 ^ l * 8 ^ (21 - l) = mul-le-mul_right (8 ^ (21 - l)) (omega (arith, i.1)) in
    (omega (arith, e, a, low), omega (arith, e, b, high))

-- the first key of a cell is a body key
pub first_body : (c : ℕ) → IsCell c → IsBodyKey (first_key c)
first_body c i =
    let p = eight_pow_pos (21 - level c) in
    deep_level c (level c) (first_key c) (level-le c i) (level-has c i) (omega (arith, first_is c)) (omega (arith, first_is c, p))

-- the last key of a cell is a body key
pub last_body : (c : ℕ) → IsCell c → IsBodyKey (last_key c)
last_body c i =
    let p = eight_pow_pos (21 - level c) in
    deep_level c (level c) (last_key c) (level-le c i) (level-has c i) (omega (arith, last_is c, p)) (omega (arith, last_is c))

-- the first key of a cell is the least body key in it
pub is_least : (c : ℕ) → IsCell c → IsLeastIn c (first_key c)
is_least c i = record {
  body = first_body c i;
  within = between_covered c (first_key c) (level c) (level-le c i) (level-has c i) (first_body c i) (omega (arith, first_is c)) (omega (arith, first_is c, eight_pow_pos (21 - level c)));
  least = λ j b e. (let h = covered_between c j (level c) (level-le c i) (level-has c i) b e in omega (arith, first_is c, h.0));
}

-- the last key of a cell is the greatest body key in it
pub is_greatest : (c : ℕ) → IsCell c → IsGreatestIn c (last_key c)
is_greatest c i = record {
  body = last_body c i;
  within = between_covered c (last_key c) (level c) (level-le c i) (level-has c i) (last_body c i) (omega (arith, last_is c, eight_pow_pos (21 - level c))) (omega (arith, last_is c));
  greatest = λ j b e. (let h = covered_between c j (level c) (level-le c i) (level-has c i) b e in omega (arith, last_is c, h.1));
}

-- cells by the place of the highest bit
pub cell_of_top : (k r : ℕ) → r < 64 → 2 ^ r ≤ k → k < 2 * 2 ^ r → r % 3 ≡ 0 → IsCell k
cell_of_top k r h p q e =
    let s : r ≡ 3 * (r / 3) = omega arith in
    let t : 2 ^ r ≡ 8 ^ (r / 3) = ap (λ (n : ℕ). 2 ^ n) s ∙ two_pow_three (r / 3) in
    (r / 3, omega arith, (omega (arith, t), omega (arith, t)))

-- the place of a cell key's highest bit is a multiple of 3
pub top_of_cell : (k r : ℕ) → IsCell k → 2 ^ r ≤ k → k < 2 * 2 ^ r → r % 3 ≡ 0
top_of_cell k r c p q = omega (arith, top-level k r c p q)

-- a cell is the root or has a level above the others
pub below_root : (c : ℕ) → IsCell c → (c ≡ 1 → ⊥) → (l : ℕ) × (suc l ≤ 21) × HasLevel c (suc l)
below_root c i n = by_level i.0 i.1 i.2
  where
    by_level : (l : ℕ) → l ≤ 21 → HasLevel c l → (m : ℕ) × (suc m ≤ 21) × HasLevel c (suc m)
    by_level zero h p = absurd (n (omega (arith, p.0, p.1)))
    by_level (suc l) h p = (l, h, p)

-- the parent of a cell below the root is a cell
pub parent_cell : (c : ℕ) → IsCell c → (c ≡ 1 → ⊥) → IsCell (parent c)
parent_cell c i n = let u = below_root c i n in (u.0, omega (arith, u.1), parent_level c u.0 u.2)

-- the parent of a cell below the root is one level higher
pub parent_lifts : (c : ℕ) → IsCell c → (c ≡ 1 → ⊥) → level c ≡ level (parent c) + 1
parent_lifts c i n =
    let u = below_root c i n in
    omega (arith, level-is c (suc u.0) u.1 u.2, level-is (parent c) u.0 (omega (arith, u.1)) (parent_level c u.0 u.2))

-- a child has one digit more behind its 1 than its cell
pub child_has : (c d : ℕ) → IsCell c → d < 8 → HasLevel (child c d) (suc (level c))
child_has c d i h = child-level c (level c) d (level-has c i) h

-- a child of a cell above the deepest level is a cell
pub child_is_cell : (c d : ℕ) → IsCell c → level c < 21 → d < 8 → IsCell (child c d)
child_is_cell c d i h k = (suc (level c), omega arith, child_has c d i k)

-- a child of a cell above the deepest level is one level deeper
pub child_lowers : (c d : ℕ) → IsCell c → level c < 21 → d < 8 → level (child c d) ≡ level c + 1
child_lowers c d i h k = omega (arith, level-is (child c d) (suc (level c)) (omega arith) (child_has c d i k))

-- a child's key fits its type
pub child_fits : (c d : ℕ) → IsCell c → level c < 21 → d < 8 → 8 * c + d < 2 ^ 64
child_fits c d i h k =
    let p = child_has c d i k in
    let q = eight_pow_le (suc (level c)) 21 h in
    omega (arith, p.1, q)

-- the keys of a cell by shifts
pub shift_is : (c : ℕ) → 2 ^ (3 * (21 - level c)) ≡ 8 ^ (21 - level c)
shift_is c = two_pow_three (21 - level c)

-- the key of a cell shifted to 21 digits is its first key, within 64 bits
pub first_shifted : (c : ℕ) → IsCell c → c * 2 ^ (3 * (21 - level c)) % 2 ^ 64 ≡ first_key c
first_shifted c i =
    let b = first_body c i in
    rw (shift_is c, ← first_is c) (omega (arith, b.1))

-- 1 shifted by the digits below a cell is a power of 8, within 64 bits
pub one_shifted : (c : ℕ) → IsCell c → 1 * 2 ^ (3 * (21 - level c)) % 2 ^ 64 ≡ 8 ^ (21 - level c)
one_shifted c i =
    let q = eight_pow_le (21 - level c) 21 (omega arith) in
    rw (shift_is c) (omega (arith, q))

-- the last key of a cell is the first and that power of 8, less 1
pub last_from_first : (c : ℕ) → first_key c + (8 ^ (21 - level c) - 1) ≡ last_key c
last_from_first c = omega (arith, first_is c, last_is c, eight_pow_pos (21 - level c))
