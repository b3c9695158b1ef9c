-- The records of some or all children of a cell, added up.
use Rattle.std.proofs.Common.{ℕ, ◌≡◌, ◌+◌, ◌*◌, ◌<◌, ◌≤◌, ◌^◌, true, List, [], ◌∷◌, ◌++◌, length, take, drop, flat_map, sum_by, sym, refl, ap, ◌∙◌, arith, length-append}
use Rattle.std.proofs.lemmas.List.{take-append-drop, drop_more}
use Rattle.std.proofs.lemmas.List.Concat.{flat_map-append}
use Rattle.std.proofs.lemmas.List.Sums.{sum_by-append, sum_by-cons}
use Rattle.hot_units.specs.Limits.{max_all_mass}
use Rattle.hot_units.specs.Values.{BodyValue, CellValue}
use Rattle.hot_units.specs.Keys.{IsCell, level, covers, contains, child, digits}
use Rattle.hot_units.specs.Order.{IsInOrder}
use Rattle.hot_units.specs.Bodies.{mass_of, mass_of_body}
use Rattle.hot_units.proofs.Digits.{level-has}
use Rattle.hot_units.proofs.Bodies.{sum_filter_le}
use Rattle.hot_model.specs.Trees.{inside, record_of, cell_record}
use Rattle.hot_model.proofs.Parts.{digits-at}
use Rattle.hot_model.proofs.Fronts.{child_covers}
use Rattle.hot_model.proofs.Ranges.{rising_in_order}
use Rattle.hot_model.proofs.Orders.{same_cell}
use Rattle.hot_model.proofs.Children.{inside-children}
use Rattle.moments.specs.Sums.{joined}

-- the sums over some bodies of a list, or over all where it counts as many
pub record IsPart (c : ℕ) (xs : List BodyValue) (r : CellValue) : Type 0 where
  pub key : r.key ≡ c
  pub few : r.count ≤ length xs
  pub light : r.mass ≤ mass_of xs
  pub whole : r.count ≡ length xs → r ≡ record_of c xs

-- the bodies of the children of a cell from the digit d on
abbrev pub from_digit : List BodyValue → ℕ → ℕ → List BodyValue
from_digit bodies c d = flat_map (λ e. inside bodies (child c e)) (drop d digits)

-- those of one more child before them
pub one_before : (bodies : List BodyValue) (c d : ℕ) → d < 8 → from_digit bodies c d ≡ inside bodies (child c d) ++ from_digit bodies c (d + 1)
one_before bodies c d h =
    ap (flat_map (λ e. inside bodies (child c e))) (drop_more digits d 0 h ∙ ap (λ (k : ℕ). k ∷ drop (d + 1) digits) (digits-at d h))

-- those of all children are those of the cell
pub from_all : (bodies : List BodyValue) (c : ℕ) → IsInOrder bodies → IsCell c → level c < 21 → inside bodies c ≡ from_digit bodies c 0
from_all bodies c o i h = inside-children bodies c (level c) (omega (arith, h)) (level-has c i) (rising_in_order bodies o)

-- whatever is summed over them is at most that over all bodies
sum_from : (f : BodyValue → ℕ) (bodies : List BodyValue) (c d : ℕ) → IsInOrder bodies → IsCell c → level c < 21 → sum_by f (from_digit bodies c d) ≤ sum_by f bodies
sum_from f bodies c d o i h =
    let g : ℕ → List BodyValue = λ e. inside bodies (child c e) in
    let e : flat_map g (take d digits ++ drop d digits) ≡ flat_map g digits = ap (flat_map g) (take-append-drop d digits) in
    let cut : flat_map g digits ≡ flat_map g (take d digits) ++ flat_map g (drop d digits) = sym e ∙ flat_map-append g (take d digits) (drop d digits) in
    let sum : sum_by f (inside bodies c) ≡ sum_by f (flat_map g (take d digits)) + sum_by f (flat_map g (drop d digits)) =
    ap (sum_by f) (from_all bodies c o i h ∙ cut) ∙ sum_by-append f (flat_map g (take d digits)) (flat_map g (drop d digits)) in
    omega (arith, sum, sum_filter_le f (contains c) bodies)

ones : (xs : List BodyValue) → sum_by (λ b. 1) xs ≡ length xs
ones [] = refl
ones (x ∷ xs) = omega (arith, sum_by-cons (λ b. 1) x xs, ones xs)

count_from : (bodies : List BodyValue) (c d : ℕ) → IsInOrder bodies → IsCell c → level c < 21 → length (from_digit bodies c d) ≤ length bodies
count_from bodies c d o i h = omega (arith, sum_from (λ b. 1) bodies c d o i h, ones (from_digit bodies c d), ones bodies)

-- two records of lists, added up, whatever the order of the lists
joins_by : (c k : ℕ) (xs ys zs : List BodyValue) → length xs + length ys ≡ length zs → ((f : BodyValue → ℕ) → sum_by f xs + sum_by f ys ≡ sum_by f zs) → joined (record_of c xs) (record_of k ys) ≡ record_of c zs
joins_by c k xs ys zs n s =
    same_cell _ _ refl n (s mass_of_body)
    (s (λ b. b.mass * b.x)) (s (λ b. b.mass * b.y)) (s (λ b. b.mass * b.z))
    (s (λ b. b.mass * b.x * b.x)) (s (λ b. b.mass * b.y * b.y)) (s (λ b. b.mass * b.z * b.z))
    (s (λ b. b.mass * b.x * b.y)) (s (λ b. b.mass * b.x * b.z)) (s (λ b. b.mass * b.y * b.z))

joins_before : (c k : ℕ) (xs ys : List BodyValue) → joined (record_of c xs) (record_of k ys) ≡ record_of c (ys ++ xs)
joins_before c k xs ys = joins_by c k xs ys (ys ++ xs) (omega (arith, length-append ys xs)) (λ f. omega (arith, sum_by-append f ys xs))

-- one more child, whose bodies are left out
part_skip : (c : ℕ) (xs ys : List BodyValue) (r : CellValue) → IsPart c xs r → IsPart c (ys ++ xs) r
part_skip c xs [] r p = p
part_skip c xs (y ∷ ys) r p = record {
  key = p.key;
  few = omega (arith, p.few, length-append ys xs);
  light = omega (arith, p.light, sum_by-append mass_of_body (y ∷ ys) xs);
  whole = λ e. absurd (omega (arith, e, p.few, length-append ys xs));
}

-- a child that is left out
pub part-skipped : (bodies : List BodyValue) (c d e : ℕ) (r : CellValue) → d < 8 → e ≡ d + 1 → IsPart c (from_digit bodies c e) r → IsPart c (from_digit bodies c d) r
part-skipped bodies c d e r h n p =
    rw (one_before bodies c d h) (part_skip c (from_digit bodies c (d + 1)) (inside bodies (child c d)) r (rw n at p))

-- or added
part_more : (c k : ℕ) (xs ys : List BodyValue) (r s t : CellValue) → IsPart c xs r → s ≡ record_of k ys → t ≡ joined r s → IsPart c (ys ++ xs) t
part_more c k xs ys r s t p f g =
    let n : s.count ≡ length ys = ap (λ (v : CellValue). v.count) f in
    let m : s.mass ≡ mass_of ys = ap (λ (v : CellValue). v.mass) f in
    let tn : t.count ≡ r.count + s.count = ap (λ (v : CellValue). v.count) g in
    let tm : t.mass ≡ r.mass + s.mass = ap (λ (v : CellValue). v.mass) g in
    record {
      key = ap (λ (v : CellValue). v.key) g ∙ p.key;
      few = omega (arith, p.few, n, tn, length-append ys xs);
      light = omega (arith, p.light, m, tm, sum_by-append mass_of_body ys xs);
      whole = λ e. (let q = p.whole (omega (arith, e, n, tn, length-append ys xs)) in g ∙ (rw (q, f) (joins_before c k xs ys)));
    }

-- a child that is added
pub part-added : (bodies : List BodyValue) (c d e : ℕ) (r s t : CellValue) → d < 8 → e ≡ d + 1 → IsPart c (from_digit bodies c e) r → s ≡ cell_record bodies (child c d) → t ≡ joined r s → IsPart c (from_digit bodies c d) t
part-added bodies c d e r s t h n p f g =
    rw (one_before bodies c d h) (part_more c (child c d) (from_digit bodies c (d + 1)) (inside bodies (child c d)) r s t (rw n at p) f g)

-- the count stays small
pub part-few : (bodies : List BodyValue) (c d e : ℕ) (r s : CellValue) → IsInOrder bodies → IsCell c → level c < 21 → length bodies < 2 ^ 32 → d < 8 → e ≡ d + 1 → IsPart c (from_digit bodies c e) r → s ≡ cell_record bodies (child c d) → r.count + s.count < 2 ^ 32
part-few bodies c d e r s o i l b h n p f =
    let m : s.count ≡ length (inside bodies (child c d)) = ap (λ (v : CellValue). v.count) f in
    let q : IsPart c (from_digit bodies c (d + 1)) r = rw n at p in
    let k : length (from_digit bodies c d) ≡ length (inside bodies (child c d) ++ from_digit bodies c (d + 1)) = ap (λ (ys : List BodyValue). length ys) (one_before bodies c d h) in
    omega (arith, m, q.few, k, length-append (inside bodies (child c d)) (from_digit bodies c (d + 1)), count_from bodies c d o i l, b)

-- and so does the mass
pub part-light : (bodies : List BodyValue) (c d e : ℕ) (r s : CellValue) → IsInOrder bodies → IsCell c → level c < 21 → mass_of bodies ≤ max_all_mass → d < 8 → e ≡ d + 1 → IsPart c (from_digit bodies c e) r → s ≡ cell_record bodies (child c d) → r.mass + s.mass ≤ max_all_mass
part-light bodies c d e r s o i l b h n p f =
    let m : s.mass ≡ mass_of (inside bodies (child c d)) = ap (λ (v : CellValue). v.mass) f in
    let q : IsPart c (from_digit bodies c (d + 1)) r = rw n at p in
    let k : mass_of (from_digit bodies c d) ≡ mass_of (inside bodies (child c d)) + mass_of (from_digit bodies c (d + 1)) = ap mass_of (one_before bodies c d h) ∙ sum_by-append mass_of_body (inside bodies (child c d)) (from_digit bodies c (d + 1)) in
    omega (arith, m, q.light, k, sum_from mass_of_body bodies c d o i l, b)

-- a child lies in its cell
pub part-covers : (c d : ℕ) (xs : List BodyValue) (r s : CellValue) → IsCell c → level c < 21 → d < 8 → IsPart c xs r → s.key ≡ child c d → covers r.key s.key ≡ true
part-covers c d xs r s i l h p k = rw (p.key, k) (child_covers c d (level c) (omega (arith, l)) (level-has c i) h)

-- where all bodies are counted, the sums are those of the cell
pub part-whole : (bodies : List BodyValue) (c : ℕ) (r : CellValue) → IsInOrder bodies → IsCell c → level c < 21 → IsPart c (from_digit bodies c 0) r → r.count ≡ length (inside bodies c) → r ≡ cell_record bodies c
part-whole bodies c r o i l p n =
    let a = from_all bodies c o i l in
    let b : length (inside bodies c) ≡ length (from_digit bodies c 0) = ap (λ (ys : List BodyValue). length ys) a in
    p.whole (n ∙ b) ∙ ap (record_of c) (sym a)
