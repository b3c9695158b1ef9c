-- Cells as boxes: the corner and the side, and what sums of bodies in a box keep.
use Rattle.std.proofs.Common.{ℕ, zero, suc, ◌≡◌, ◌+◌, ◌-◌, ◌*◌, ◌/◌, ◌^◌, ◌<◌, ◌≤◌, Bool, true, false, cond, List, [], ◌∷◌, length, sum_by, sym, refl, ap, ◌∙◌, subst, inl, inr, arith}
use Rattle.std.proofs.Math.Nat.{pow-succ', div-div-eq-div-mul, div-mul-le_self, lt-div-mul-add, div-le_of_le-mul}
use Rattle.std.proofs.lemmas.Nat.{mul-le, le-div, pow-add, pow_pos, div_below}
use Rattle.std.specs.Prelude.{All}
use Rattle.std.proofs.lemmas.List.Sums.{sum_by-cons}
use Rattle.std.proofs.lemmas.List.Elements.{All-head, All-tail, All-filter, All-cons}
use Rattle.std.proofs.lemmas.Bool.{cases_lt}
use Rattle.hot_units.specs.Limits.{max_all_mass}
use Rattle.hot_units.specs.Values.{BodyValue, cell_of, CellValue}
use Rattle.hot_units.specs.Keys.{bit, key_to, bits_along, IsCell, level, contains, side, corner, extent, covers, corner_along, IsInBox, HasLevel, key_of_body}
use Rattle.hot_units.specs.Bodies.{mass_of, mass_of_body, IsBody}
use Rattle.hot_units.proofs.Digits.{digit-le, key_to-suc, bit-le, level-has, level-le, key_to-low, key_to-high}
use Rattle.hot_model.specs.Facts.{IsFirstSum, IsSecondSum, IsCellRecord}
use Rattle.hot_model.specs.Trees.{record_of, cell_record, inside}
use Rattle.hot_model.proofs.Fronts.{covers_level, covers_front, contains_front, front_contains}

-- the highest bits of a coordinate
abbrev high : ℕ → ℕ → ℕ
high l x = x / 2 ^ (29 - l)

half : (l x : ℕ) → l < 29 → high (suc l) x / 2 ≡ high l x
half l x h =
    let s : 29 - l ≡ suc (29 - suc l) = omega arith in
    let e : 2 ^ (29 - suc l) * 2 ≡ 2 ^ (29 - l) = rw (s, pow-succ' 2 (29 - suc l)) (omega arith) in
    div-div-eq-div-mul x (2 ^ (29 - suc l)) 2 ∙ ap (λ (n : ℕ). x / n) e

next_bit : (l x : ℕ) → l < 29 → high (suc l) x ≡ 2 * high l x + bit x (29 - suc l)
next_bit l x h = let e = half l x h in omega (arith, e)

key-above : (l x y z : ℕ) → key_to (suc l) x y z / 8 ≡ key_to l x y z
key-above l x y z = rw key_to-suc (omega (arith, digit-le x y z (suc l)))

last_x : (k a b c : ℕ) → a ≤ 1 → b ≤ 1 → c ≤ 1 → bit (8 * k + (4 * a + 2 * b + c)) 2 ≡ a
last_x k a b c p q r = omega arith

last_y : (k a b c : ℕ) → a ≤ 1 → b ≤ 1 → c ≤ 1 → bit (8 * k + (4 * a + 2 * b + c)) 1 ≡ b
last_y k a b c p q r = omega arith

last_z : (k a b c : ℕ) → a ≤ 1 → b ≤ 1 → c ≤ 1 → bit (8 * k + (4 * a + 2 * b + c)) 0 ≡ c
last_z k a b c p q r = omega arith

bits_x : (l x y z : ℕ) → l ≤ 29 → x < 2 ^ 29 → bits_along l (key_to l x y z) 2 ≡ high l x
unfolding bits_along
bits_x zero x y z h m = omega (arith, m)
bits_x (suc l) x y z h m =
    let e = last_x (key_to l x y z) (bit x (29 - suc l)) (bit y (29 - suc l)) (bit z (29 - suc l)) (bit-le x (29 - suc l)) (bit-le y (29 - suc l)) (bit-le z (29 - suc l)) in
    rw (key-above l x y z, bits_x l x y z (omega arith) m, key_to-suc l x y z) (omega (arith, e, next_bit l x h))

bits_y : (l x y z : ℕ) → l ≤ 29 → y < 2 ^ 29 → bits_along l (key_to l x y z) 1 ≡ high l y
unfolding bits_along
bits_y zero x y z h m = omega (arith, m)
bits_y (suc l) x y z h m =
    let e = last_y (key_to l x y z) (bit x (29 - suc l)) (bit y (29 - suc l)) (bit z (29 - suc l)) (bit-le x (29 - suc l)) (bit-le y (29 - suc l)) (bit-le z (29 - suc l)) in
    rw (key-above l x y z, bits_y l x y z (omega arith) m, key_to-suc l x y z) (omega (arith, e, next_bit l y h))

bits_z : (l x y z : ℕ) → l ≤ 29 → z < 2 ^ 29 → bits_along l (key_to l x y z) 0 ≡ high l z
unfolding bits_along
bits_z zero x y z h m = omega (arith, m)
bits_z (suc l) x y z h m =
    let e = last_z (key_to l x y z) (bit x (29 - suc l)) (bit y (29 - suc l)) (bit z (29 - suc l)) (bit-le x (29 - suc l)) (bit-le y (29 - suc l)) (bit-le z (29 - suc l)) in
    rw (key-above l x y z, bits_z l x y z (omega arith) m, key_to-suc l x y z) (omega (arith, e, next_bit l z h))

-- the first digits of a key
key-front : (l n x y z : ℕ) → key_to (l + n) x y z / 8 ^ n ≡ key_to l x y z
key-front l zero x y z = let e : l + 0 ≡ l = omega arith in rw e (omega arith)
key-front l (suc n) x y z =
    let e : l + suc n ≡ suc (l + n) = omega arith in
    let p : 8 ^ suc n ≡ 8 * 8 ^ n = pow-succ' 8 n ∙ omega arith in
    rw (e, p) (sym (div-div-eq-div-mul (key_to (suc (l + n)) x y z) 8 (8 ^ n)) ∙ rw (key-above (l + n) x y z) (key-front l n x y z))

-- a place is in a box from k to k + w
abbrev pub IsWithin : ℕ → ℕ → ℕ → Type 0
IsWithin k w x = (k ≤ x) × (x ≤ k + w)

in_part : (a x : ℕ) → 0 < a → IsWithin (a * (x / a)) (a - 1) x
in_part a x h =
    let low : x / a * a ≤ x = div-mul-le_self x a in
    let top : x < x / a * a + a = lt-div-mul-add h in
    (omega arith, omega arith)

key_of_cell : (c : ℕ) (b : BodyValue) → IsCell c → contains c b ≡ true → key_to (level c) b.x b.y b.z ≡ c
key_of_cell c b i e =
    let l = level c in
    let h : l ≤ 21 = level-le c i in
    let s : 21 ≡ l + (21 - l) = omega arith in
    let f = contains_front c l b h (level-has c i) e in
    sym (key-front l (21 - l) b.x b.y b.z) ∙ (ap (λ (n : ℕ). key_to n b.x b.y b.z / 8 ^ (21 - l)) (sym s) ∙ f)

-- a body of a cell lies in the cell's box
pub x_within : (c : ℕ) (b : BodyValue) → IsCell c → b.x < 2 ^ 29 → contains c b ≡ true → IsWithin (corner c).x (extent c) b.x
x_within c b i m e =
    let h : level c ≤ 29 = omega (arith, level-le c i) in
    let k : bits_along (level c) c 2 ≡ high (level c) b.x = rw (key_of_cell c b i e) at (bits_x (level c) b.x b.y b.z h m) in
    rw k (in_part (side c) b.x (pow_pos (29 - level c)))

-- the same along y
pub y_within : (c : ℕ) (b : BodyValue) → IsCell c → b.y < 2 ^ 29 → contains c b ≡ true → IsWithin (corner c).y (extent c) b.y
y_within c b i m e =
    let h : level c ≤ 29 = omega (arith, level-le c i) in
    let k : bits_along (level c) c 1 ≡ high (level c) b.y = rw (key_of_cell c b i e) at (bits_y (level c) b.x b.y b.z h m) in
    rw k (in_part (side c) b.y (pow_pos (29 - level c)))

-- the same along z
pub z_within : (c : ℕ) (b : BodyValue) → IsCell c → b.z < 2 ^ 29 → contains c b ≡ true → IsWithin (corner c).z (extent c) b.z
z_within c b i m e =
    let h : level c ≤ 29 = omega (arith, level-le c i) in
    let k : bits_along (level c) c 0 ≡ high (level c) b.z = rw (key_of_cell c b i e) at (bits_z (level c) b.x b.y b.z h m) in
    rw k (in_part (side c) b.z (pow_pos (29 - level c)))

-- the bits of a key without its last digits
bits-front : (l n k axis : ℕ) → bits_along (l + n) k axis / 2 ^ n ≡ bits_along l (k / 8 ^ n) axis
unfolding bits_along
bits-front l zero k axis = let e : l + 0 ≡ l = omega arith in let f : k / 8 ^ 0 ≡ k = omega arith in rw (e, f) (omega arith)
bits-front l (suc n) k axis =
    let e : l + suc n ≡ suc (l + n) = omega arith in
    let p : 2 ^ suc n ≡ 2 * 2 ^ n = pow-succ' 2 n ∙ omega arith in
    let q : 8 ^ suc n ≡ 8 * 8 ^ n = pow-succ' 8 n ∙ omega arith in
    let b : bit k axis ≤ 1 = bit-le k axis in
    let u : (2 * bits_along (l + n) (k / 8) axis + bit k axis) / 2 ≡ bits_along (l + n) (k / 8) axis = omega arith in
    let v : k / (8 * 8 ^ n) ≡ k / 8 / 8 ^ n = sym (div-div-eq-div-mul k 8 (8 ^ n)) in
    rw (e, p, q, v) (sym (div-div-eq-div-mul (2 * bits_along (l + n) (k / 8) axis + bit k axis) 2 (2 ^ n)) ∙ rw u (bits-front l n (k / 8) axis))

-- one bit of each of the last l digits makes a number below 2^l
pub bits-small : (l k axis : ℕ) → bits_along l k axis < 2 ^ l
unfolding bits_along
bits-small zero k axis = omega arith
bits-small (suc l) k axis = omega (arith, bits-small l (k / 8) axis, bit-le k axis, pow-succ' 2 l)

-- a box in another
abbrev pub IsInside : ℕ → ℕ → ℕ → ℕ → Type 0
IsInside k w k' w' = (k ≤ k') × (k' + w' ≤ k + w)

nested : (a r b : ℕ) → 0 < a → 0 < r → IsInside (a * r * (b / r)) (a * r - 1) (a * b) (a - 1)
nested a r b h k =
    let low : b / r * r ≤ b = div-mul-le_self b r in
    let top : b < b / r * r + r = lt-div-mul-add k in
    let m : a * (b / r * r) ≤ a * b = mul-le a (b / r * r) a b (omega arith) low in
    let n : a * (b + 1) ≤ a * (b / r * r + r) = mul-le a (b + 1) a (b / r * r + r) (omega arith) (omega arith) in
    let o : 1 * 1 ≤ a * r = mul-le 1 1 a r h k in
    (omega arith, omega arith)

-- a cell in another cell has its box in the other's
pub box_inside : (c d axis : ℕ) → IsCell c → IsCell d → covers c d ≡ true → IsInside (corner_along c axis) (extent c) (corner_along d axis) (extent d)
box_inside c d axis i j e =
    let l = level c in
    let m = level d in
    let hc = level-le c i in
    let hd = level-le d j in
    let h : l ≤ m = covers_level c d l m hc hd (level-has c i) (level-has d j) e in
    let f : d / 8 ^ (m - l) ≡ c = covers_front c d l m hc hd (level-has c i) (level-has d j) e in
    let s : m ≡ l + (m - l) = omega arith in
    let t : 29 - l ≡ (29 - m) + (m - l) = omega arith in
    let b : bits_along m d axis / 2 ^ (m - l) ≡ bits_along l c axis = ap (λ (n : ℕ). bits_along n d axis / 2 ^ (m - l)) s ∙ (bits-front l (m - l) d axis ∙ ap (λ (n : ℕ). bits_along l n axis) f) in
    let p : 2 ^ (29 - l) ≡ 2 ^ (29 - m) * 2 ^ (m - l) = ap (λ (n : ℕ). 2 ^ n) t ∙ pow-add 2 (29 - m) (m - l) in
    rw (p, ← b) (nested (2 ^ (29 - m)) (2 ^ (m - l)) (bits_along m d axis) (pow_pos (29 - m)) (pow_pos (m - l)))

-- a box lies in the cube
pub box_in_cube : (c axis : ℕ) → IsCell c → corner_along c axis + extent c < 2 ^ 29
box_in_cube c axis i =
    let l = level c in
    let h = level-le c i in
    let t : 29 ≡ (29 - l) + l = omega arith in
    let p : 2 ^ 29 ≡ 2 ^ (29 - l) * 2 ^ l = ap (λ (n : ℕ). 2 ^ n) t ∙ pow-add 2 (29 - l) l in
    let m : 2 ^ (29 - l) * (bits_along l c axis + 1) ≤ 2 ^ (29 - l) * 2 ^ l = mul-le (2 ^ (29 - l)) (bits_along l c axis + 1) (2 ^ (29 - l)) (2 ^ l) (omega arith) (omega (arith, bits-small l c axis)) in
    omega (arith, p, m, pow_pos (29 - l))

-- sums in a wider box
pub wider-first : (m k w k' w' s : ℕ) → IsInside k w k' w' → IsFirstSum m k' w' s → IsFirstSum m k w s
wider-first m k w k' w' s h f =
    let a : m * k ≤ m * k' = mul-le m k m k' (omega arith) h.0 in
    let b : m * (k' + w') ≤ m * (k + w) = mul-le m (k' + w') m (k + w) (omega arith) h.1 in
    record { low = omega (arith, a, f.low); high = omega (arith, b, f.high) }

-- the same in offsets: u and v from one corner to the other, e and f the sums of the offsets, r that of their products
wider-offsets : (m k l u v w e f r : ℕ) (w' : ℕ) → u + w' ≤ w → v + w' ≤ w → e ≤ m * w' → f ≤ m * w' → r ≤ m * (w' * w') → u * f + v * e + r + m * (u * v) ≤ m * (w * w)
wider-offsets m k l u v w e f r w' a b c d g =
    let p : u * f ≤ u * (m * w') = mul-le u f u (m * w') (omega arith) d in
    let q : v * e ≤ v * (m * w') = mul-le v e v (m * w') (omega arith) c in
    let n : (u + w') * (v + w') ≤ w * w = mul-le (u + w') (v + w') w w a b in
    let o : m * ((u + w') * (v + w')) ≤ m * (w * w) = mul-le m ((u + w') * (v + w')) m (w * w) (omega arith) n in
    omega (arith, p, q, g, o)

-- the same for the sums of mass times two coordinates
pub wider-second : (m k l w k' l' w' s t q : ℕ) → IsInside k w k' w' → IsInside l w l' w' → IsFirstSum m k' w' s → IsFirstSum m l' w' t → IsSecondSum m k' l' w' s t q → IsSecondSum m k l w s t q
wider-second m k l w k' l' w' s t q h g f y z =
    let u = k' - k in
    let v = l' - l in
    let e = s - m * k' in
    let d = t - m * l' in
    let r = (q + m * (k' * l')) - (k' * t + l' * s) in
    let ku : k' ≡ k + u = omega (arith, h.0) in
    let lv : l' ≡ l + v = omega (arith, g.0) in
    let se : s ≡ m * k' + e = omega (arith, f.low) in
    let td : t ≡ m * l' + d = omega (arith, y.low) in
    let qr : q + m * (k' * l') ≡ k' * t + l' * s + r = omega (arith, z.low) in
    let ee : e ≤ m * w' = omega (arith, f.high) in
    let dd : d ≤ m * w' = omega (arith, y.high) in
    let rr : r ≤ m * (w' * w') = omega (arith, z.high) in
    let top = wider-offsets m k l u v w e d r w' (omega (arith, h.0, h.1)) (omega (arith, g.0, g.1)) ee dd rr in
    let whole : q + m * (k * l) ≡ k * t + l * s + (u * d + v * e + r + m * (u * v)) = shifted m k l u v e d r s t q k' l' ku lv se td qr in
    record { low = omega (arith, whole); high = omega (arith, whole, top) }
  where
    shifted : (m k l u v e d r s t q k' l' : ℕ) → k' ≡ k + u → l' ≡ l + v → s ≡ m * k' + e → t ≡ m * l' + d → q + m * (k' * l') ≡ k' * t + l' * s + r → q + m * (k * l) ≡ k * t + l * s + (u * d + v * e + r + m * (u * v))
    shifted m k l u v e d r s t q k' l' ku lv se td qr =
        let a : s ≡ m * (k + u) + e = rw ku at se in
        let b : t ≡ m * (l + v) + d = rw lv at td in
        let f : q + m * ((k + u) * (l + v)) ≡ (k + u) * (m * (l + v) + d) + (l + v) * (m * (k + u) + e) + r = rw (ku, lv, a, b) at qr in
        rw (a, b) (omega (arith, f))

-- sums of two lists
pub first-plus : (m n k w s t : ℕ) → IsFirstSum m k w s → IsFirstSum n k w t → IsFirstSum (m + n) k w (s + t)
first-plus m n k w s t f g = record { low = omega (arith, f.low, g.low); high = omega (arith, f.high, g.high) }

-- the same for the sums of mass times two coordinates
pub second-plus : (m n k l w s t q s' t' q' : ℕ) → IsSecondSum m k l w s t q → IsSecondSum n k l w s' t' q' → IsSecondSum (m + n) k l w (s + s') (t + t') (q + q')
second-plus m n k l w s t q s' t' q' f g = record { low = omega (arith, f.low, g.low); high = omega (arith, f.high, g.high) }

-- one body
first-one : (m k w x : ℕ) → IsWithin k w x → IsFirstSum m k w (m * x)
first-one m k w x h = record { low = mul-le m k m x (omega arith) h.0; high = mul-le m x m (k + w) (omega arith) h.1 }

-- a product of two coordinates in offsets
in_offsets : (m k l e f x y : ℕ) → x ≡ k + e → y ≡ l + f → m * x * y + m * (k * l) ≡ k * (m * y) + l * (m * x) + m * (e * f)
in_offsets m k l e f x y g h = rw (g, h) (omega arith)

second-one : (m k l w x y : ℕ) → IsWithin k w x → IsWithin l w y → IsSecondSum m k l w (m * x) (m * y) (m * x * y)
second-one m k l w x y h g =
    let e = x - k in
    let f = y - l in
    let xe : x ≡ k + e = omega (arith, h.0) in
    let yf : y ≡ l + f = omega (arith, g.0) in
    let p : e * f ≤ w * w = mul-le e f w w (omega (arith, h.1)) (omega (arith, g.1)) in
    let o : m * (e * f) ≤ m * (w * w) = mul-le m (e * f) m (w * w) (omega arith) p in
    let whole : m * x * y + m * (k * l) ≡ k * (m * y) + l * (m * x) + m * (e * f) = in_offsets m k l e f x y xe yf in
    record { low = omega (arith, whole); high = omega (arith, whole, o) }

-- lists of bodies
abbrev pub AreWithin : ℕ → ℕ → (BodyValue → ℕ) → List BodyValue → Type 0
AreWithin k w f xs = All (λ b. IsWithin k w (f b)) xs

-- of bodies with a coordinate from k to k + w, the sum of mass times it is within its bounds
pub first-of : (k w : ℕ) (f : BodyValue → ℕ) (xs : List BodyValue) → AreWithin k w f xs → IsFirstSum (mass_of xs) k w (sum_by (λ b. b.mass * f b) xs)
first-of k w f [] h = record { low = omega arith; high = omega arith }
first-of k w f (x ∷ xs) h =
    let one = first-one x.mass k w (f x) (All-head (λ (b : BodyValue). IsWithin k w (f b)) x xs h) in
    let rest = first-of k w f xs (All-tail (λ (b : BodyValue). IsWithin k w (f b)) x xs h) in
    rw (sum_by-cons mass_of_body x xs, sum_by-cons (λ (b : BodyValue). b.mass * f b) x xs)
    (first-plus x.mass (mass_of xs) k w (x.mass * f x) (sum_by (λ b. b.mass * f b) xs) one rest)

-- the same for the sum of mass times two coordinates
pub second-of : (k l w : ℕ) (f g : BodyValue → ℕ) (xs : List BodyValue) → AreWithin k w f xs → AreWithin l w g xs → IsSecondSum (mass_of xs) k l w (sum_by (λ b. b.mass * f b) xs) (sum_by (λ b. b.mass * g b) xs) (sum_by (λ b. b.mass * f b * g b) xs)
second-of k l w f g [] h i = record { low = omega arith; high = omega arith }
second-of k l w f g (x ∷ xs) h i =
    let one = second-one x.mass k l w (f x) (g x) (All-head (λ (b : BodyValue). IsWithin k w (f b)) x xs h) (All-head (λ (b : BodyValue). IsWithin l w (g b)) x xs i) in
    let rest = second-of k l w f g xs (All-tail (λ (b : BodyValue). IsWithin k w (f b)) x xs h) (All-tail (λ (b : BodyValue). IsWithin l w (g b)) x xs i) in
    rw (sum_by-cons mass_of_body x xs, sum_by-cons (λ (b : BodyValue). b.mass * f b) x xs, sum_by-cons (λ (b : BodyValue). b.mass * g b) x xs, sum_by-cons (λ (b : BodyValue). b.mass * f b * g b) x xs)
    (second-plus x.mass (mass_of xs) k l w (x.mass * f x) (x.mass * g x) (x.mass * f x * g x) (sum_by (λ b. b.mass * f b) xs) (sum_by (λ b. b.mass * g b) xs) (sum_by (λ b. b.mass * f b * g b) xs) one rest)

-- sums over bodies that have a mass and stand in the cube
pub count_mass : (xs : List BodyValue) → All IsBody xs → length xs ≤ mass_of xs
count_mass [] h = omega arith
count_mass (x ∷ xs) h =
    let b = All-head IsBody x xs h in
    omega (arith, b.weighs, count_mass xs (All-tail IsBody x xs h), sum_by-cons mass_of_body x xs)

-- where such bodies weigh at least 1 together, there is at least one
pub mass_count : (xs : List BodyValue) → All IsBody xs → 1 ≤ mass_of xs → 1 ≤ length xs
mass_count [] h m = absurd (omega (arith, m))
mass_count (x ∷ xs) h m = omega arith

-- the bodies of a cell lie in its box
inside_within : (c : ℕ) (k w : ℕ) (f : BodyValue → ℕ) (bodies : List BodyValue) → ((b : BodyValue) → IsBody b → contains c b ≡ true → IsWithin k w (f b)) → All IsBody bodies → AreWithin k w f (inside bodies c)
inside_within c k w f [] g h = λ i d m. absurd (omega (arith, m))
inside_within c k w f (x ∷ xs) g h = by_test (inside_within c k w f xs g (All-tail IsBody x xs h)) (contains c x) refl
  where
    by_test : AreWithin k w f (inside xs c) → (t : Bool) → contains c x ≡ t → AreWithin k w f (cond t (x ∷ inside xs c) (inside xs c))
    by_test rest true e = All-cons (λ (b : BodyValue). IsWithin k w (f b)) x (inside xs c) (g x (All-head IsBody x xs h) e) rest
    by_test rest false e = rest

-- the record of bodies of a cell is one that code can hold
pub list-facts : (c : ℕ) (xs : List BodyValue) → IsCell c → All IsBody xs → mass_of xs ≤ max_all_mass → AreWithin (corner c).x (extent c) (λ b. b.x) xs → AreWithin (corner c).y (extent c) (λ b. b.y) xs → AreWithin (corner c).z (extent c) (λ b. b.z) xs → IsCellRecord (record_of c xs)
list-facts c xs i all light x y z = record {
  cell = i;
  counted = count_mass xs all;
  light = light;
  weighs = mass_count xs all;
  x_in = first-of (corner c).x (extent c) (λ b. b.x) xs x;
  y_in = first-of (corner c).y (extent c) (λ b. b.y) xs y;
  z_in = first-of (corner c).z (extent c) (λ b. b.z) xs z;
  xx_in = second-of (corner c).x (corner c).x (extent c) (λ b. b.x) (λ b. b.x) xs x x;
  yy_in = second-of (corner c).y (corner c).y (extent c) (λ b. b.y) (λ b. b.y) xs y y;
  zz_in = second-of (corner c).z (corner c).z (extent c) (λ b. b.z) (λ b. b.z) xs z z;
  xy_in = second-of (corner c).x (corner c).y (extent c) (λ b. b.x) (λ b. b.y) xs x y;
  xz_in = second-of (corner c).x (corner c).z (extent c) (λ b. b.x) (λ b. b.z) xs x z;
  yz_in = second-of (corner c).y (corner c).z (extent c) (λ b. b.y) (λ b. b.z) xs y z;
}

-- so is a cell's record over bodies with a mass in the cube, where its own is within the limit
pub inside-facts : (c : ℕ) (bodies : List BodyValue) → IsCell c → All IsBody bodies → mass_of (inside bodies c) ≤ max_all_mass → IsCellRecord (cell_record bodies c)
inside-facts c bodies i all light =
    list-facts c (inside bodies c) i (All-filter (contains c) IsBody bodies all) light
    (inside_within c (corner c).x (extent c) (λ b. b.x) bodies (λ b s e. x_within c b i s.x_in e) all)
    (inside_within c (corner c).y (extent c) (λ b. b.y) bodies (λ b s e. y_within c b i s.y_in e) all)
    (inside_within c (corner c).z (extent c) (λ b. b.z) bodies (λ b s e. z_within c b i s.z_in e) all)

-- a wider cell keeps the facts of what lies in it, and two records of a cell add up
pub wider-facts : (c d count mass sx sy sz sxx syy szz sxy sxz syz : ℕ) → IsCell c → covers c d ≡ true → IsCellRecord (cell_of d count mass sx sy sz sxx syy szz sxy sxz syz) → IsCellRecord (cell_of c count mass sx sy sz sxx syy szz sxy sxz syz)
wider-facts c d count mass sx sy sz sxx syy szz sxy sxz syz i e f =
    let x = box_inside c d 2 i f.cell e in
    let y = box_inside c d 1 i f.cell e in
    let z = box_inside c d 0 i f.cell e in
    let a = corner c in
    let b = corner d in
    let w = extent c in
    let v = extent d in
    record {
      cell = i;
      counted = f.counted;
      light = f.light;
      weighs = f.weighs;
      x_in = wider-first mass a.x w b.x v sx x f.x_in;
      y_in = wider-first mass a.y w b.y v sy y f.y_in;
      z_in = wider-first mass a.z w b.z v sz z f.z_in;
      xx_in = wider-second mass a.x a.x w b.x b.x v sx sx sxx x x f.x_in f.x_in f.xx_in;
      yy_in = wider-second mass a.y a.y w b.y b.y v sy sy syy y y f.y_in f.y_in f.yy_in;
      zz_in = wider-second mass a.z a.z w b.z b.z v sz sz szz z z f.z_in f.z_in f.zz_in;
      xy_in = wider-second mass a.x a.y w b.x b.y v sx sy sxy x y f.x_in f.y_in f.xy_in;
      xz_in = wider-second mass a.x a.z w b.x b.z v sx sz sxz x z f.x_in f.z_in f.xz_in;
      yz_in = wider-second mass a.y a.z w b.y b.z v sy sz syz y z f.y_in f.z_in f.yz_in;
    }

both_weigh : (n m n' m' : ℕ) → (1 ≤ m → 1 ≤ n) → (1 ≤ m' → 1 ≤ n') → 1 ≤ m + m' → 1 ≤ n + n'
both_weigh n m n' m' f g h =
    elim (cases_lt 0 m) [
      | inl p ↦ omega (arith, f p)
      | inr p ↦ omega (arith, g (omega (arith, p, h)))
    ]

-- the sum of two records of a cell keeps the facts, where its mass is within the limit
pub facts-plus : (a b : CellValue) → IsCellRecord a → IsCellRecord b → a.key ≡ b.key → a.mass + b.mass ≤ max_all_mass → IsCellRecord (cell_of a.key (a.count + b.count) (a.mass + b.mass) (a.sx + b.sx) (a.sy + b.sy) (a.sz + b.sz) (a.sxx + b.sxx) (a.syy + b.syy) (a.szz + b.szz) (a.sxy + b.sxy) (a.sxz + b.sxz) (a.syz + b.syz))
facts-plus a b f h e light =
    let g : IsCellRecord (cell_of a.key b.count b.mass b.sx b.sy b.sz b.sxx b.syy b.szz b.sxy b.sxz b.syz) = subst (λ (k : ℕ). IsCellRecord (cell_of k b.count b.mass b.sx b.sy b.sz b.sxx b.syy b.szz b.sxy b.sxz b.syz)) (sym e) h in
    let k = corner a.key in
    let w = extent a.key in
    record {
      cell = f.cell;
      counted = omega (arith, f.counted, g.counted);
      light = light;
      weighs = both_weigh a.count a.mass b.count b.mass f.weighs h.weighs;
      x_in = first-plus a.mass b.mass k.x w a.sx b.sx f.x_in g.x_in;
      y_in = first-plus a.mass b.mass k.y w a.sy b.sy f.y_in g.y_in;
      z_in = first-plus a.mass b.mass k.z w a.sz b.sz f.z_in g.z_in;
      xx_in = second-plus a.mass b.mass k.x k.x w a.sx a.sx a.sxx b.sx b.sx b.sxx f.xx_in g.xx_in;
      yy_in = second-plus a.mass b.mass k.y k.y w a.sy a.sy a.syy b.sy b.sy b.syy f.yy_in g.yy_in;
      zz_in = second-plus a.mass b.mass k.z k.z w a.sz a.sz a.szz b.sz b.sz b.szz f.zz_in g.zz_in;
      xy_in = second-plus a.mass b.mass k.x k.y w a.sx a.sy a.sxy b.sx b.sy b.sxy f.xy_in g.xy_in;
      xz_in = second-plus a.mass b.mass k.x k.z w a.sx a.sz a.sxz b.sx b.sz b.sxz f.xz_in g.xz_in;
      yz_in = second-plus a.mass b.mass k.y k.z w a.sy a.sz a.syz b.sy b.sz b.syz f.yz_in g.yz_in;
    }

-- a sum is below the mass times 2^29
pub first-in-cube : (c m axis s : ℕ) → IsCell c → IsFirstSum m (corner_along c axis) (extent c) s → s ≤ m * (2 ^ 29 - 1)
first-in-cube c m axis s i f =
    let b = box_in_cube c axis i in
    let o : m * (corner_along c axis + extent c) ≤ m * (2 ^ 29 - 1) = mul-le m (corner_along c axis + extent c) m (2 ^ 29 - 1) (omega arith) (omega (arith, b)) in
    omega (arith, o, f.high)

-- in a record the sum of mass times x is at most the mass times 2^29 - 1
pub sx-in-cube : (c : CellValue) → IsCellRecord c → c.sx ≤ c.mass * (2 ^ 29 - 1)
sx-in-cube c f = first-in-cube c.key c.mass 2 c.sx f.cell f.x_in

-- the same along y
pub sy-in-cube : (c : CellValue) → IsCellRecord c → c.sy ≤ c.mass * (2 ^ 29 - 1)
sy-in-cube c f = first-in-cube c.key c.mass 1 c.sy f.cell f.y_in

-- the same along z
pub sz-in-cube : (c : CellValue) → IsCellRecord c → c.sz ≤ c.mass * (2 ^ 29 - 1)
sz-in-cube c f = first-in-cube c.key c.mass 0 c.sz f.cell f.z_in

-- the centre lies in the box of its cell
centre-along : (m k w s : ℕ) → 0 < m → IsFirstSum m k w s → IsWithin k w (s / m)
centre-along m k w s h f = (le-div k s m h (omega (arith, f.low)), div-le_of_le-mul m f.high)

-- the three quotients by the mass are a place in the cell's box, if the record has bodies
pub centre-in-box : (c : CellValue) (x y z : ℕ) → IsCellRecord c → x ≡ c.sx / c.mass → y ≡ c.sy / c.mass → z ≡ c.sz / c.mass → 0 < c.count → IsInBox c.key (record { x = x; y = y; z = z })
centre-in-box c x y z f e g h some =
    let m : 0 < c.mass = omega (arith, some, f.counted) in
    let p = pow_pos (29 - level c.key) in
    let a = centre-along c.mass (corner c.key).x (extent c.key) c.sx m f.x_in in
    let b = centre-along c.mass (corner c.key).y (extent c.key) c.sy m f.y_in in
    let d = centre-along c.mass (corner c.key).z (extent c.key) c.sz m f.z_in in
    record {
      x_from = omega (arith, e, a.0);
      y_from = omega (arith, g, b.0);
      z_from = omega (arith, h, d.0);
      x_to = omega (arith, e, a.1, p);
      y_to = omega (arith, g, b.1, p);
      z_to = omega (arith, h, d.1, p);
    }

-- a sum of mass times two coordinates is at most the mass times 2^58
pub second-in-cube : (m k l w s t q : ℕ) → k + w < 2 ^ 29 → l + w < 2 ^ 29 → IsFirstSum m k w s → IsFirstSum m l w t → IsSecondSum m k l w s t q → q ≤ m * 2 ^ 58
second-in-cube m k l w s t q h i f g z =
    let a : k * t ≤ k * (m * (l + w)) = mul-le k t k (m * (l + w)) (omega arith) g.high in
    let b : l * s ≤ l * (m * (k + w)) = mul-le l s l (m * (k + w)) (omega arith) f.high in
    let p : (k + w) * (l + w) ≤ 2 ^ 29 * 2 ^ 29 = mul-le (k + w) (l + w) (2 ^ 29) (2 ^ 29) (omega arith) (omega arith) in
    let o : m * ((k + w) * (l + w)) ≤ m * 2 ^ 58 = mul-le m ((k + w) * (l + w)) m (2 ^ 58) (omega arith) (omega (arith, p)) in
    omega (arith, a, b, o, z.high)

second-below : (m q : ℕ) → m ≤ max_all_mass → q ≤ m * 2 ^ 58 → q ≤ 2 ^ 98
second-below m q h k =
    let o : m * 2 ^ 58 ≤ 2 ^ 40 * 2 ^ 58 = mul-le m (2 ^ 58) (2 ^ 40) (2 ^ 58) h (omega arith) in
    omega (arith, o, k)

-- in a record the sum of mass times x times x is at most 2^98
pub sxx-in-cube : (c : CellValue) → IsCellRecord c → c.sxx ≤ 2 ^ 98
sxx-in-cube c f = second-below c.mass c.sxx f.light (second-in-cube c.mass (corner c.key).x (corner c.key).x (extent c.key) c.sx c.sx c.sxx (box_in_cube c.key 2 f.cell) (box_in_cube c.key 2 f.cell) f.x_in f.x_in f.xx_in)

-- the same for y times y
pub syy-in-cube : (c : CellValue) → IsCellRecord c → c.syy ≤ 2 ^ 98
syy-in-cube c f = second-below c.mass c.syy f.light (second-in-cube c.mass (corner c.key).y (corner c.key).y (extent c.key) c.sy c.sy c.syy (box_in_cube c.key 1 f.cell) (box_in_cube c.key 1 f.cell) f.y_in f.y_in f.yy_in)

-- the same for z times z
pub szz-in-cube : (c : CellValue) → IsCellRecord c → c.szz ≤ 2 ^ 98
szz-in-cube c f = second-below c.mass c.szz f.light (second-in-cube c.mass (corner c.key).z (corner c.key).z (extent c.key) c.sz c.sz c.szz (box_in_cube c.key 0 f.cell) (box_in_cube c.key 0 f.cell) f.z_in f.z_in f.zz_in)

-- the same for x times y
pub sxy-in-cube : (c : CellValue) → IsCellRecord c → c.sxy ≤ 2 ^ 98
sxy-in-cube c f = second-below c.mass c.sxy f.light (second-in-cube c.mass (corner c.key).x (corner c.key).y (extent c.key) c.sx c.sy c.sxy (box_in_cube c.key 2 f.cell) (box_in_cube c.key 1 f.cell) f.x_in f.y_in f.xy_in)

-- the same for x times z
pub sxz-in-cube : (c : CellValue) → IsCellRecord c → c.sxz ≤ 2 ^ 98
sxz-in-cube c f = second-below c.mass c.sxz f.light (second-in-cube c.mass (corner c.key).x (corner c.key).z (extent c.key) c.sx c.sz c.sxz (box_in_cube c.key 2 f.cell) (box_in_cube c.key 0 f.cell) f.x_in f.z_in f.xz_in)

-- the same for y times z
pub syz-in-cube : (c : CellValue) → IsCellRecord c → c.syz ≤ 2 ^ 98
syz-in-cube c f = second-below c.mass c.syz f.light (second-in-cube c.mass (corner c.key).y (corner c.key).z (extent c.key) c.sy c.sz c.syz (box_in_cube c.key 1 f.cell) (box_in_cube c.key 0 f.cell) f.y_in f.z_in f.yz_in)

-- a key is known by its level and its bits
same_bits : (l c d : ℕ) → HasLevel c l → HasLevel d l → bits_along l c 2 ≡ bits_along l d 2 → bits_along l c 1 ≡ bits_along l d 1 → bits_along l c 0 ≡ bits_along l d 0 → c ≡ d
unfolding bits_along
same_bits zero c d h k e f g = omega (arith, h.0, h.1, k.0, k.1)
same_bits (suc l) c d h k e f g =
    let p = upper_level c l h in
    let q = upper_level d l k in
    let a = bit-le c 2 in
    let b = bit-le c 1 in
    let m = bit-le c 0 in
    let n = bit-le d 2 in
    let o = bit-le d 1 in
    let r = bit-le d 0 in
    let u = same_bits l (c / 8) (d / 8) p q (omega (arith, e, a, n)) (omega (arith, f, b, o)) (omega (arith, g, m, r)) in
    let x : bit c 2 ≡ bit d 2 = omega (arith, e, a, n) in
    let y : bit c 1 ≡ bit d 1 = omega (arith, f, b, o) in
    let z : bit c 0 ≡ bit d 0 = omega (arith, g, m, r) in
    omega (arith, u, x, y, z)
  where
    upper_level : (c l : ℕ) → HasLevel c (suc l) → HasLevel (c / 8) l
    upper_level c l h = (omega (arith, h.0, pow-succ' 8 l), omega (arith, h.1, pow-succ' 8 l))

-- a coordinate in a box has the box's bits
bits-in-box : (l c axis x : ℕ) → 2 ^ (29 - l) * bits_along l c axis ≤ x → x < 2 ^ (29 - l) * bits_along l c axis + 2 ^ (29 - l) → bits_along l c axis ≡ high l x
bits-in-box l c axis x h k =
    let p : 0 < 2 ^ (29 - l) = pow_pos (29 - l) in
    let low : bits_along l c axis ≤ high l x = le-div (bits_along l c axis) x (2 ^ (29 - l)) p (omega (arith, h)) in
    let top : high l x < bits_along l c axis + 1 = div_below x (2 ^ (29 - l)) (bits_along l c axis + 1) p (omega (arith, k)) in
    omega (arith, low, top)

-- a body in the box of a cell is one of the cell
pub box-contains : (c : ℕ) (b : BodyValue) → IsCell c → b.x < 2 ^ 29 → b.y < 2 ^ 29 → b.z < 2 ^ 29 → IsWithin (corner c).x (extent c) b.x → IsWithin (corner c).y (extent c) b.y → IsWithin (corner c).z (extent c) b.z → contains c b ≡ true
box-contains c b i x y z h k m =
    let l = level c in
    let le : l ≤ 21 = level-le c i in
    let deep : l ≤ 29 = omega (arith, le) in
    let p : 0 < 2 ^ (29 - l) = pow_pos (29 - l) in
    let u : bits_along l c 2 ≡ high l b.x = bits-in-box l c 2 b.x h.0 (omega (arith, h.1, p)) in
    let v : bits_along l c 1 ≡ high l b.y = bits-in-box l c 1 b.y k.0 (omega (arith, k.1, p)) in
    let w : bits_along l c 0 ≡ high l b.z = bits-in-box l c 0 b.z m.0 (omega (arith, m.1, p)) in
    let e : c ≡ key_to l b.x b.y b.z =
    same_bits l c (key_to l b.x b.y b.z) (level-has c i) (key_to-low l b.x b.y b.z, key_to-high l b.x b.y b.z)
    (u ∙ sym (bits_x l b.x b.y b.z deep x)) (v ∙ sym (bits_y l b.x b.y b.z deep y)) (w ∙ sym (bits_z l b.x b.y b.z deep z)) in
    let s : l + (21 - l) ≡ 21 = omega arith in
    let f : key_of_body b / 8 ^ (21 - l) ≡ key_to l b.x b.y b.z = rw s at (key-front l (21 - l) b.x b.y b.z) in
    front_contains c l b le (level-has c i) (f ∙ sym e)
