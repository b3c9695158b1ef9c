-- Keys as numbers: their sizes, their levels, their fronts.
use Rattle.std.proofs.Common.{ℕ, zero, suc, ◌≡◌, ◌+◌, ◌-◌, ◌*◌, ◌/◌, ◌%◌, ◌^◌, ◌<◌, ◌≤◌, min, true, false, cond, leb, sym, refl, subst, inl, inr, arith, add-one, ap, ◌∙◌, Bool, ◌&&◌, eqb}
use Rattle.std.proofs.Math.Nat.{pow-succ', pow-le-pow_right, mod-lt, div-zero, div-mul-le_self}
use Rattle.std.proofs.lemmas.Bool.{cases_lt, le-leb, lt-leb}
use Rattle.std.proofs.lemmas.Nat.{le-div}
use Rattle.hot_units.specs.Keys.{bit, digit, key_to, place_key, IsCell, levels_to, HasLevel, level, covers}

-- a power of 8 is at least 1
pub eight_pow_pos : (l : ℕ) → 1 ≤ 8 ^ l
eight_pow_pos zero = omega arith
eight_pow_pos (suc l) = omega (arith, pow-succ' 8 l, eight_pow_pos l)

-- with a greater exponent a power of 8 is no less
pub eight_pow_le : (i j : ℕ) → i ≤ j → 8 ^ i ≤ 8 ^ j
eight_pow_le i j h = pow-le-pow_right (omega arith) h

-- a bit is at most 1
pub bit-le : (n k : ℕ) → bit n k ≤ 1
bit-le n k = let h : n / 2 ^ k % 2 < 2 = mod-lt (n / 2 ^ k) (omega arith) in omega arith

-- a digit of a place is at most 7
pub digit-le : (x y z l : ℕ) → digit x y z l ≤ 7
digit-le x y z l = omega (arith, bit-le x (29 - l), bit-le y (29 - l), bit-le z (29 - l))

-- the key to one level more is eight times the key so far, plus the digit of that level
pub key_to-suc : (l x y z : ℕ) → key_to (suc l) x y z ≡ 8 * key_to l x y z + digit x y z (suc l)
unfolding key_to
key_to-suc l x y z = refl

-- a key to level l is at least 8^l
pub key_to-low : (l x y z : ℕ) → 8 ^ l ≤ key_to l x y z
unfolding key_to
key_to-low zero x y z = omega arith
key_to-low (suc l) x y z = omega (arith, key_to-low l x y z, pow-succ' 8 l)

-- a key to level l is below twice 8^l
pub key_to-high : (l x y z : ℕ) → key_to l x y z < 2 * 8 ^ l
unfolding key_to
key_to-high zero x y z = omega arith
key_to-high (suc l) x y z = omega (arith, key_to-high l x y z, pow-succ' 8 l, digit-le x y z (suc l))

-- the key of a place is a cell key
pub key_is_cell : (x y z : ℕ) → IsCell (place_key x y z)
key_is_cell x y z = (21, omega arith, (key_to-low 21 x y z, key_to-high 21 x y z))

-- of one level more, that one counts too where the number reaches it
pub levels_to-suc : (n k : ℕ) → levels_to (suc n) k ≡ levels_to n k + cond (leb (8 ^ suc n) k) 1 0
unfolding levels_to
levels_to-suc n k = refl

-- the same with n + 1 for one more
pub levels_to-more : (n k : ℕ) → levels_to (n + 1) k ≡ levels_to n k + cond (leb (8 ^ (n + 1)) k) 1 0
levels_to-more n k = rw add-one (levels_to-suc n k)

-- of the levels 1 to n, a key with l digits behind its 1 reaches the lesser of n and l
pub levels_to-is : (n k l : ℕ) → HasLevel k l → levels_to n k ≡ min n l
unfolding levels_to
levels_to-is zero k l h = omega arith
levels_to-is (suc n) k l h =
    elim (cases_lt n l) [
      | inl p ↦
          let le : 8 ^ suc n ≤ 8 ^ l = eight_pow_le (suc n) l (omega arith) in
          let t : leb (8 ^ suc n) k ≡ true = le-leb _ _ (omega (arith, h.0)) in
          rw t (omega (arith, levels_to-is n k l h))
      | inr p ↦
          let le : 8 ^ suc l ≤ 8 ^ suc n = eight_pow_le (suc l) (suc n) (omega arith) in
          let t : leb (8 ^ suc n) k ≡ false = lt-leb _ _ (omega (arith, h.1, pow-succ' 8 l)) in
          rw t (omega (arith, levels_to-is n k l h))
    ]

-- a key with l digits behind its 1, at most 21, is of level l
pub level-is : (k l : ℕ) → l ≤ 21 → HasLevel k l → level k ≡ l
level-is k l h p = omega (arith, levels_to-is 21 k l p)

-- a cell key has as many digits behind its 1 as its level says
pub level-has : (k : ℕ) → IsCell k → HasLevel k (level k)
level-has k c = subst (λ (l : ℕ). HasLevel k l) (sym (level-is k c.0 c.1 c.2)) c.2

-- the level of a cell is at most 21
pub level-le : (k : ℕ) → IsCell k → level k ≤ 21
level-le k c = omega (arith, level-is k c.0 c.1 c.2)

-- 2 to three times d is 8 to d
pub two_pow_three : (d : ℕ) → 2 ^ (3 * d) ≡ 8 ^ d
two_pow_three zero = refl
two_pow_three (suc d) =
    let e : 3 * suc d ≡ suc (suc (suc (3 * d))) = omega arith in
    rw e (omega (arith, pow-succ' 2 (suc (suc (3 * d))), pow-succ' 2 (suc (3 * d)), pow-succ' 2 (3 * d), pow-succ' 8 d, two_pow_three d))

-- of no levels a number reaches none
pub levels_to-zero : (k : ℕ) → levels_to 0 k ≡ 0
unfolding levels_to
levels_to-zero k = refl

-- a cell key is above 0
pub cell-pos : (k : ℕ) → IsCell k → 0 < k
cell-pos k c = omega (arith, c.2.0, eight_pow_pos c.0)

-- the place of a key's highest bit
pub top-is : (k r l : ℕ) → HasLevel k l → 2 ^ r ≤ k → k < 2 * 2 ^ r → r ≡ 3 * l
top-is k r l h p q =
    let e : 2 ^ (3 * l) ≡ 8 ^ l = two_pow_three l in
    elim (cases_lt r (3 * l)) [
      | inl less ↦
          let m : 2 ^ suc r ≤ 2 ^ (3 * l) = pow-le-pow_right (omega arith) (omega arith) in
          absurd (omega (arith, h.0, pow-succ' 2 r))
      | inr more ↦
          elim (cases_lt (3 * l) r) [
            | inl above ↦
                let m : 2 ^ suc (3 * l) ≤ 2 ^ r = pow-le-pow_right (omega arith) (omega arith) in
                absurd (omega (arith, h.1, pow-succ' 2 (3 * l)))
            | inr below ↦ omega arith
          ]
    ]

-- the highest bit of a cell key stands at three times its level
pub top-level : (k r : ℕ) → IsCell k → 2 ^ r ≤ k → k < 2 * 2 ^ r → r ≡ 3 * level k
top-level k r c p q = top-is k r (level k) (level-has k c) p q

-- a third of the place of a cell key's highest bit is its level
pub third-level : (k r : ℕ) → IsCell k → 2 ^ r ≤ k → k < 2 * 2 ^ r → r / 3 ≡ level k
third-level k r c p q = omega (arith, top-level k r c p q)

-- a key without the digits below another's
pub front-is : (a b i j k : ℕ) → a ≡ 3 * i → b ≡ 3 * j → k / 2 ^ (b - a) ≡ k / 8 ^ (j - i)
front-is a b i j k e f =
    let g : b - a ≡ 3 * (j - i) = omega arith in
    rw (g, two_pow_three (j - i)) refl

-- the test of covering by the highest bits of two cell keys says what `covers` says
pub covers-by : (cell key a b : ℕ) → IsCell cell → IsCell key → 2 ^ a ≤ cell → cell < 2 * 2 ^ a → 2 ^ b ≤ key → key < 2 * 2 ^ b → (leb a b && eqb (key / 2 ^ (b - a)) cell) ≡ covers cell key
covers-by cell key a b c d p q r s =
    let e : a ≡ 3 * level cell = top-level cell a c p q in
    let f : b ≡ 3 * level key = top-level key b d r s in
    rw (front-is a b (level cell) (level key) key e f) (ap (λ (t : Bool). t && eqb (key / 8 ^ (level key - level cell)) cell) (
    elim (cases_lt b a) [
      | inl less ↦ lt-leb a b less ∙ sym (lt-leb (level cell) (level key) (omega arith))
      | inr more ↦ le-leb a b more ∙ sym (le-leb (level cell) (level key) (omega arith))
    ]
    ))

-- the quotient of a greater number is no less
pub div_rises : (a b k : ℕ) → a ≤ b → a / k ≤ b / k
div_rises a b zero h = rw (div-zero a, div-zero b) (omega arith)
div_rises a b (suc k) h = le-div (a / suc k) b (suc k) (omega arith) (omega (arith, div-mul-le_self a (suc k), h))
