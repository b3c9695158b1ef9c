-- What the tests of a reader say.
use Rattle.std.specs.Prelude.{IsTrue, ◌↔◌, List, slice_index}
use Rattle.std.proofs.Common.{sym, ◌≡◌, ℕ, zero, suc, ◌+◌, ◌-◌, ◌*◌, ◌%◌, ◌/◌, ◌^◌, ◌<◌, ◌≤◌, Bool, true, false, eqb, leb, ltb, ◌&&◌, ◌||◌, ◌⊎◌, refl, arith, inl, inr}
use Rattle.std.proofs.Math.Nat.{pow-le-pow_right, div-eq_of_lt-le, div-mul-le_self, lt-div-mul-add}
use Rattle.std.proofs.lemmas.Nat.{mul-le, one_shl}
use Rattle.std.proofs.lemmas.Bool.{cases_lt, le-leb, lt-leb, lt-ltb, le-ltb, eq-eqb, eqb-true}
use Rattle.hot_units.specs.Limits.{fine_bits, max_level, max_body_mass}
use Rattle.hot_units.specs.Values.{BodyValue, CellValue}
use Rattle.hot_units.specs.Keys.{HasLevel, IsCell, corner, corner_along, extent}
use Rattle.hot_units.proofs.Digits.{eight_pow_le, eight_pow_pos}
use Rattle.hot_model.specs.Facts.{IsFirstSum, IsSecondSum, IsCellRecord}
use Rattle.hot_model.proofs.Corners.{box_in_cube}
use Rattle.cell_mail.specs.Grammar.{IsRecord, IsSent, IsBelowRoot}
use Rattle.cell_mail.specs.Reading.{cell_below, is_cell, is_below_root, is_first, is_second, firsts_fit, seconds_fit, is_record, with_sums, is_sent}
use Rattle.cell_mail.specs.Spelling.{sums_of}

-- both parts of a conjunction that holds hold
pub both : (a b : Bool) → (a && b) ≡ true → (a ≡ true) × (b ≡ true)
both true b e = (refl, e)
both false b e = absurd cc

-- a conjunction of what holds holds
pub both_true : (a b : Bool) → a ≡ true → b ≡ true → (a && b) ≡ true
both_true a b e f = rw (e, f) refl

-- a test of order that passes is an order
pub leb_le : (m n : ℕ) → leb m n ≡ true → m ≤ n
leb_le m n e = elim (cases_lt n m) [ inl lt ↦ absurd (let f : false ≡ true = rw (lt-leb _ _ lt) at e in cc) | inr le ↦ le ]

-- a test of strict order that passes is a strict order
pub ltb_lt : (m n : ℕ) → ltb m n ≡ true → m < n
ltb_lt m n e = elim (cases_lt m n) [ inl lt ↦ lt | inr le ↦ absurd (let f : false ≡ true = rw (le-ltb _ _ le) at e in cc) ]

quotient_one : (k p : ℕ) → 1 ≤ p → k / p ≡ 1 → (p ≤ k) × (k < 2 * p)
quotient_one k p pos e =
    let low : k / p * p ≤ k = div-mul-le_self k p in
    let high : k < k / p * p + p = lt-div-mul-add (let q : 0 < p = omega arith in q) in
    let l : 1 * p ≤ k = rw e at low in
    let h : k < 1 * p + p = rw e at high in
    (omega arith, omega arith)

quotient_is_one : (k p : ℕ) → 1 ≤ p → p ≤ k → k < 2 * p → k / p ≡ 1
quotient_is_one k p pos l h =
    let a : 1 * p ≤ k = omega arith in
    let b : k < (1 + 1) * p = omega arith in
    div-eq_of_lt-le p a b

-- of a disjunction that holds one part does
pub or_cases : (a b : Bool) → (a || b) ≡ true → (a ≡ true) ⊎ (b ≡ true)
or_cases true b e = inl refl
or_cases false b e = inr e

cell-found : (n k : ℕ) → cell_below n k ≡ true → (l : ℕ) × (l < n) × HasLevel k l
unfolding cell_below
cell-found zero k e = absurd cc
cell-found (suc n) k e =
    elim (or_cases (cell_below n k) (eqb (k / 8 ^ n) 1) e) [
      | inl f ↦ let h = cell-found n k f in (h.0, omega (arith, h.1), h.2)
      | inr f ↦ (n, omega arith, quotient_one k (8 ^ n) (eight_pow_pos n) (eqb-true _ _ f))
    ]

or_left : (a b : Bool) → a ≡ true → (a || b) ≡ true
or_left a b e = rw e refl

or_right : (a b : Bool) → b ≡ true → (a || b) ≡ true
or_right true b e = refl
or_right false b e = e

cell-finds : (n k l : ℕ) → l < n → HasLevel k l → cell_below n k ≡ true
unfolding cell_below
cell-finds zero k l lt h = absurd (omega arith)
cell-finds (suc n) k l lt h =
    elim (cases_lt l n) [
      | inl p ↦ or_left (cell_below n k) (eqb (k / 8 ^ n) 1) (cell-finds n k l p h)
      | inr p ↦
          let e : l ≡ n = omega arith in
          or_right (cell_below n k) (eqb (k / 8 ^ n) 1) (rw (← e) (eq-eqb _ _ (quotient_is_one k (8 ^ l) (eight_pow_pos l) h.0 h.1)))
    ]

-- what passes as a cell is one
pub is_cell-is : (k : ℕ) → is_cell k ≡ true → IsCell k
is_cell-is k e = let h = cell-found (suc max_level) k e in (h.0, omega (arith, h.1), h.2)

-- a cell passes as one
pub is_cell-back : (k : ℕ) → IsCell k → is_cell k ≡ true
is_cell-back k c = cell-finds (suc max_level) k c.0 (omega (arith, c.1)) c.2

-- a cell fits eight bytes
pub cell-small : (k : ℕ) → IsCell k → k < 256 ^ 8
cell-small k c = let h : 8 ^ c.0 ≤ 8 ^ 21 = eight_pow_le c.0 21 c.1 in omega (arith, h, c.2.1)

-- what passes as below the root is a cell below it
pub below_root-is : (k : ℕ) → is_below_root k ≡ true → IsBelowRoot k
below_root-is k e = let b = both (is_cell k) (leb 8 k) e in (is_cell-is k b.0, leb_le 8 k b.1)

-- a cell below the root passes as one
pub below_root-back : (k : ℕ) → IsBelowRoot k → is_below_root k ≡ true
below_root-back k h = both_true (is_cell k) (leb 8 k) (is_cell-back k h.0) (le-leb _ _ h.1)

first-is : (m k w s : ℕ) → is_first m k w s ≡ true → IsFirstSum m k w s
first-is m k w s e = let b = both _ _ e in record { low = leb_le _ _ b.0; high = leb_le _ _ b.1 }

first-back : (m k w s : ℕ) → IsFirstSum m k w s → is_first m k w s ≡ true
first-back m k w s h = both_true _ _ (le-leb _ _ h.low) (le-leb _ _ h.high)

second-is : (m k l w s t q : ℕ) → is_second m k l w s t q ≡ true → IsSecondSum m k l w s t q
unfolding is_second
second-is m k l w s t q e = let b = both _ _ e in record { low = leb_le _ _ b.0; high = leb_le _ _ b.1 }

second-back : (m k l w s t q : ℕ) → IsSecondSum m k l w s t q → is_second m k l w s t q ≡ true
unfolding is_second
second-back m k l w s t q h = both_true _ _ (le-leb _ _ h.low) (le-leb _ _ h.high)

-- the first three sums
pub record FirstsFit (c : CellValue) : Type 0 where
  pub x_in : IsFirstSum c.mass (corner c.key).x (extent c.key) c.sx
  pub y_in : IsFirstSum c.mass (corner c.key).y (extent c.key) c.sy
  pub z_in : IsFirstSum c.mass (corner c.key).z (extent c.key) c.sz

firsts-are : (c : CellValue) → firsts_fit c.key c.mass (sums_of c) ≡ true → FirstsFit c
unfolding firsts_fit
firsts-are c e =
    let a = both _ _ e in let b = both _ _ a.1 in
    record { x_in = first-is _ _ _ _ a.0; y_in = first-is _ _ _ _ b.0; z_in = first-is _ _ _ _ b.1 }

firsts-back : (c : CellValue) → FirstsFit c → firsts_fit c.key c.mass (sums_of c) ≡ true
unfolding firsts_fit
firsts-back c h = both_true _ _ (first-back _ _ _ _ h.x_in) (both_true _ _ (first-back _ _ _ _ h.y_in) (first-back _ _ _ _ h.z_in))

-- the other six
pub record SecondsFit (c : CellValue) : Type 0 where
  pub xx_in : IsSecondSum c.mass (corner c.key).x (corner c.key).x (extent c.key) c.sx c.sx c.sxx
  pub yy_in : IsSecondSum c.mass (corner c.key).y (corner c.key).y (extent c.key) c.sy c.sy c.syy
  pub zz_in : IsSecondSum c.mass (corner c.key).z (corner c.key).z (extent c.key) c.sz c.sz c.szz
  pub xy_in : IsSecondSum c.mass (corner c.key).x (corner c.key).y (extent c.key) c.sx c.sy c.sxy
  pub xz_in : IsSecondSum c.mass (corner c.key).x (corner c.key).z (extent c.key) c.sx c.sz c.sxz
  pub yz_in : IsSecondSum c.mass (corner c.key).y (corner c.key).z (extent c.key) c.sy c.sz c.syz

seconds-are : (c : CellValue) → seconds_fit c.key c.mass (sums_of c) ≡ true → SecondsFit c
unfolding seconds_fit
seconds-are c e =
    let a = both _ _ e in let b = both _ _ a.1 in let d = both _ _ b.1 in let f = both _ _ d.1 in let g = both _ _ f.1 in
    record {
      xx_in = second-is _ _ _ _ _ _ _ a.0;
      yy_in = second-is _ _ _ _ _ _ _ b.0;
      zz_in = second-is _ _ _ _ _ _ _ d.0;
      xy_in = second-is _ _ _ _ _ _ _ f.0;
      xz_in = second-is _ _ _ _ _ _ _ g.0;
      yz_in = second-is _ _ _ _ _ _ _ g.1;
    }

seconds-back : (c : CellValue) → SecondsFit c → seconds_fit c.key c.mass (sums_of c) ≡ true
unfolding seconds_fit
seconds-back c h =
    both_true _ _ (second-back _ _ _ _ _ _ _ h.xx_in) (both_true _ _ (second-back _ _ _ _ _ _ _ h.yy_in) (both_true _ _ (second-back _ _ _ _ _ _ _ h.zz_in)
    (both_true _ _ (second-back _ _ _ _ _ _ _ h.xy_in) (both_true _ _ (second-back _ _ _ _ _ _ _ h.xz_in) (second-back _ _ _ _ _ _ _ h.yz_in)))))

-- what passes as a record is one
pub is_record-is : (c : CellValue) → is_record c ≡ true → IsRecord c
unfolding is_record
is_record-is c e =
    let a = both _ _ e in let b = both _ _ a.1 in let d = both _ _ b.1 in let f = both _ _ d.1 in let g = both _ _ f.1 in let h = both _ _ g.1 in
    let some = leb_le _ _ b.0 in
    let x = firsts-are c h.0 in
    let y = seconds-are c h.1 in
    record {
      facts = record {
        cell = is_cell-is c.key a.0;
        counted = leb_le _ _ f.0;
        light = leb_le _ _ g.0;
        weighs = λ _. some;
        x_in = x.x_in;
        y_in = x.y_in;
        z_in = x.z_in;
        xx_in = y.xx_in;
        yy_in = y.yy_in;
        zz_in = y.zz_in;
        xy_in = y.xy_in;
        xz_in = y.xz_in;
        yz_in = y.yz_in;
      };
      some = some;
      few = leb_le _ _ d.0;
    }

-- a record passes as one
pub is_record-back : (c : CellValue) → IsRecord c → is_record c ≡ true
unfolding is_record
is_record-back c h =
    let f = h.facts in
    both_true _ _ (is_cell-back c.key f.cell) (both_true _ _ (le-leb _ _ h.some) (both_true _ _ (le-leb _ _ h.few) (both_true _ _ (le-leb _ _ f.counted)
    (both_true _ _ (le-leb _ _ f.light) (both_true _ _
    (firsts-back c (record { x_in = f.x_in; y_in = f.y_in; z_in = f.z_in }))
    (seconds-back c (record { xx_in = f.xx_in; yy_in = f.yy_in; zz_in = f.zz_in; xy_in = f.xy_in; xz_in = f.xz_in; yz_in = f.yz_in })))))))

-- what passes as a record of these sums has the facts of a record
pub is_record-facts : (key count mass : ℕ) (s : List ℕ) → is_record (with_sums key count mass s) ≡ true → IsCellRecord (with_sums key count mass s)
is_record-facts key count mass s e = (is_record-is (with_sums key count mass s) e).facts

-- a sum that passed its test is small
first-small : (m k w s : ℕ) → m ≤ 2 ^ 40 → k < 2 ^ 29 → w < 2 ^ 29 → is_first m k w s ≡ true → s ≤ 2 ^ 70
first-small m k w s h a b e =
    let f = first-is m k w s e in
    let o : m * (k + w) ≤ 2 ^ 40 * (2 ^ 29 + 2 ^ 29) = mul-le m (k + w) (2 ^ 40) (2 ^ 29 + 2 ^ 29) h (omega arith) in
    omega (arith, o, f.high)

corner-small : (c axis : ℕ) → IsCell c → (corner_along c axis < 2 ^ 29) × (extent c < 2 ^ 29)
corner-small c axis i = let b = box_in_cube c axis i in (omega (arith, b), omega (arith, b))

-- first sums that fit their cell are small
pub firsts-small : (key mass : ℕ) (s : List ℕ) → IsCell key → mass ≤ 2 ^ 40 → firsts_fit key mass s ≡ true → (slice_index s 0 ≤ 2 ^ 70) × (slice_index s 1 ≤ 2 ^ 70) × (slice_index s 2 ≤ 2 ^ 70)
unfolding firsts_fit
firsts-small key mass s i h e =
    let a = both _ _ e in let b = both _ _ a.1 in
    let x = corner-small key 2 i in
    let y = corner-small key 1 i in
    let z = corner-small key 0 i in (
      first-small mass (corner key).x (extent key) (slice_index s 0) h x.0 x.1 a.0,
      first-small mass (corner key).y (extent key) (slice_index s 1) h y.0 y.1 b.0,
      first-small mass (corner key).z (extent key) (slice_index s 2) h z.0 z.1 b.1,
    )

-- a product sum that is past every mass times two coordinates
pub second-past : (m k l w s t q : ℕ) → m ≤ 2 ^ 40 → k < 2 ^ 29 → l < 2 ^ 29 → w < 2 ^ 29 → s ≤ 2 ^ 70 → t ≤ 2 ^ 70 → 2 ^ 101 ≤ q → is_second m k l w s t q ≡ false
unfolding is_second
second-past m k l w s t q h a b d f g e =
    let x : k * t ≤ 2 ^ 29 * 2 ^ 70 = mul-le k t (2 ^ 29) (2 ^ 70) (omega arith) g in
    let y : l * s ≤ 2 ^ 29 * 2 ^ 70 = mul-le l s (2 ^ 29) (2 ^ 70) (omega arith) f in
    let z : w * w ≤ 2 ^ 29 * 2 ^ 29 = mul-le w w (2 ^ 29) (2 ^ 29) (omega arith) (omega arith) in
    let o : m * (w * w) ≤ 2 ^ 40 * (2 ^ 29 * 2 ^ 29) = mul-le m (w * w) (2 ^ 40) (2 ^ 29 * 2 ^ 29) h z in
    let r : leb (q + m * (k * l)) (k * t + l * s + m * (w * w)) ≡ false = lt-leb _ _ (omega (arith, x, y, o, e)) in
    rw r (and_false (leb (k * t + l * s) (q + m * (k * l))))
  where
    and_false : (b : Bool) → (b && false) ≡ false
    and_false true = refl
    and_false false = refl

-- what passes as a body is one
pub is_sent-is : (b : BodyValue) → is_sent b ≡ true → IsSent b
unfolding is_sent
is_sent-is b e =
    let a = both _ _ e in let c = both _ _ a.1 in let d = both _ _ c.1 in let f = both _ _ d.1 in let g = both _ _ f.1 in
    record { x_in = ltb_lt _ _ a.0; y_in = ltb_lt _ _ c.0; z_in = ltb_lt _ _ d.0; weighs = leb_le _ _ f.0; light = leb_le _ _ g.0; row_in = ltb_lt _ _ g.1 }

-- a body passes as one
pub is_sent-back : (b : BodyValue) → IsSent b → is_sent b ≡ true
unfolding is_sent
is_sent-back b h =
    both_true _ _ (lt-ltb _ _ h.x_in) (both_true _ _ (lt-ltb _ _ h.y_in) (both_true _ _ (lt-ltb _ _ h.z_in) (both_true _ _ (le-leb _ _ h.weighs) (both_true _ _ (le-leb _ _ h.light) (lt-ltb _ _ h.row_in)))))

-- what passes as a body has the facts of a body
pub is_sent-facts : (x y z mass row : ℕ) → is_sent (record { x = x; y = y; z = z; mass = mass; row = row }) ≡ true → (x < 2 ^ fine_bits) × (y < 2 ^ fine_bits) × (z < 2 ^ fine_bits) × (1 ≤ mass) × (mass ≤ max_body_mass)
is_sent-facts x y z mass row e = let h = is_sent-is (record { x = x; y = y; z = z; mass = mass; row = row }) e in (h.x_in, h.y_in, h.z_in, h.weighs, h.light)

-- a test that says what a cell is gives the same as the reader's
pub is_cell-same : (b : Bool) (k : ℕ) → IsTrue b ↔ IsCell k → b ≡ is_cell k
is_cell-same true k h = sym (is_cell-back k (h.0 refl))
is_cell-same false k h = elim (is_cell k) as (λ (c : Bool). is_cell k ≡ c → false ≡ c) [
  | true ↦ λ e. let f : false ≡ true = h.1 (is_cell-is k e) in absurd cc
  | false ↦ λ e. refl
] refl

-- a side less one, as code has it
pub extent-small : (n : ℕ) → n ≤ 29 → 1 * 2 ^ n % 2 ^ 32 - 1 < 2 ^ 29
extent-small n h =
    let two : 0 < 2 = omega arith in
    let p : 2 ^ n ≤ 2 ^ 29 = pow-le-pow_right two h in
    let q : (1 * 2 ^ n) % 2 ^ 32 ≡ 2 ^ n = one_shl n 32 (omega arith) in
    omega (arith, p, q)
