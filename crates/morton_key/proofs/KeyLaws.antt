-- The laws of keys.
use Rattle.std.proofs.Common.{ℕ, suc, ◌≡◌, ◌+◌, ◌-◌, ◌*◌, ◌/◌, ◌%◌, ◌^◌, ◌<◌, Bool, true, false, cond, ltb, List, [], ◌∷◌, sym, refl, ap, ◌∙◌, inl, inr, arith}
use Rattle.std.proofs.Math.Nat.{pow-succ'}
use Rattle.std.proofs.lemmas.Bool.{cases_lt}
use Rattle.std.proofs.lemmas.List.Sums.{sum_by-cons}
use Rattle.hot_units.specs.Values.{BodyValue}
use Rattle.hot_units.specs.Keys.{key_of_body, IsCell, level, covers, child}
use Rattle.hot_units.proofs.Digits.{eight_pow_le, level-has, level-le}
use Rattle.hot_model.proofs.Parts.{children_share}
use Rattle.hot_model.proofs.Fronts.{covers_front, front_covers, drop_twice}
use Rattle.hot_model.proofs.Ranges.{below, inside-is-range, rising_in_order}
use Rattle.morton_key.specs.Ranges.{IsBodyKey, count_below}
use Rattle.morton_key.specs.Laws as laws
use Rattle.morton_key.proofs.Numbers.{covered_between, between_covered, first_is, last_is, child_has}

-- a cell covers the body keys from its first to its last
pub range_of_a_cell : laws.RangeOfACell
range_of_a_cell c k i b = (
  λ e. (let h = covered_between c k (level c) (level-le c i) (level-has c i) b e in
      (omega (arith, first_is c, h.0), omega (arith, last_is c, h.1))),
  λ r. between_covered c k (level c) (level-le c i) (level-has c i) b (omega (arith, first_is c, r.0)) (omega (arith, last_is c, r.1)),
)

-- a body key without its digits below a child
abbrev above : ℕ → ℕ → ℕ
above c k = k / 8 ^ (21 - suc (level c))

in_child : (c k d : ℕ) → IsCell c → level c < 21 → IsBodyKey k → d < 8 → covers (child c d) k ≡ true → above c k ≡ child c d
in_child c k d i h b m e = covers_front (child c d) k (suc (level c)) 21 (omega arith) (omega arith) (child_has c d i m) b e

to_child : (c k d : ℕ) → IsCell c → level c < 21 → IsBodyKey k → d < 8 → above c k ≡ child c d → covers (child c d) k ≡ true
to_child c k d i h b m e = front_covers (child c d) k (suc (level c)) 21 (omega arith) (omega arith) (child_has c d i m) b e

above_parent : (c k : ℕ) → level c < 21 → above c k / 8 ≡ k / 8 ^ (21 - level c)
above_parent c k h =
    let s : (21 - suc (level c)) + 1 ≡ 21 - level c = omega arith in
    drop_twice k (21 - suc (level c)) 1 ∙ ap (λ (n : ℕ). k / 8 ^ n) s

in_cell : (c k : ℕ) → IsCell c → level c < 21 → IsBodyKey k → covers c k ≡ true → above c k / 8 ≡ c
in_cell c k i h b e = above_parent c k h ∙ covers_front c k (level c) 21 (level-le c i) (omega arith) (level-has c i) b e

to_cell : (c k : ℕ) → IsCell c → level c < 21 → IsBodyKey k → above c k / 8 ≡ c → covers c k ≡ true
to_cell c k i h b e = front_covers c k (level c) 21 (level-le c i) (omega arith) (level-has c i) b (sym (above_parent c k h) ∙ e)

-- a body key is in a cell above the last level exactly where it is in one child alone
pub children_part_a_cell : laws.ChildrenPartACell
children_part_a_cell c k i h b = (
  λ e. (let f = in_cell c k i h b e in (
    above c k % 8,
    (
      omega arith,
      to_child c k (above c k % 8) i h b (omega arith) (omega (arith, f)),
      λ j m g. (let t = in_child c k j i h b m g in omega (arith, t)),
    ),
  )),
  λ d. (let t = in_child c k d.0 i h b d.1.0 d.1.1 in to_cell c k i h b (omega (arith, t, d.1.0))),
)

-- a sum over the bodies of a cell above the last level is the sum over its children
pub children_share_sums : laws.ChildrenShareSums
children_share_sums f bodies c i h = children_share f bodies c (level c) (omega arith) (level-has c i)

-- a number has one level at most
pub one_level_each : laws.OneLevelEach
one_level_each k l m p q =
    elim (cases_lt l m) [
      | inl less ↦ absurd (let r = eight_pow_le (suc l) m less in omega (arith, r, p.1, q.0, pow-succ' 8 l))
      | inr more ↦ elim (cases_lt m l) [
        | inl above ↦ absurd (let r = eight_pow_le (suc m) l above in omega (arith, r, q.1, p.0, pow-succ' 8 m))
        | inr same ↦ omega arith
      ]
    ]

below_counts : (k : ℕ) (xs : List BodyValue) → below k xs ≡ count_below k xs
below_counts k [] = refl
below_counts k (x ∷ xs) =
    elim (ltb (key_of_body x) k) as (λ (t : Bool). cond t (suc (below k xs)) (below k xs) ≡ cond t 1 0 + count_below k xs) [
      | true ↦ omega (arith, below_counts k xs)
      | false ↦ omega (arith, below_counts k xs)
    ]
    ∙ sym (sum_by-cons (λ b. cond (ltb (key_of_body b) k) 1 0) x xs)

-- the bodies of a cell are a range of a list in key order
pub bodies_stand_together : laws.BodiesStandTogether
bodies_stand_together bodies c i o =
    let r = inside-is-range c (level c) bodies (level-le c i) (level-has c i) (rising_in_order bodies o) in
    rw (last_is c, first_is c, ← below_counts (c * 8 ^ (21 - level c)) bodies, ← below_counts ((c + 1) * 8 ^ (21 - level c)) bodies) r
