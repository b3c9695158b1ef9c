-- Products of signed numbers as code has them.
use Rattle.std.proofs.Common.{ℕ, List, get_or, refl, ℤ, pos, ◌*ℤ◌, ◌-ℤ◌, ◌≡◌, ◌+◌, ◌*◌, ◌/◌, ◌^◌, ◌≤◌, ◌<◌, nat_abs, arith, ◌∙◌}
use Rattle.std.proofs.lemmas.Int.{ints, to_z-of_z}
use mir.Syntax.{w128}
use mir.Val.{SFits, of_z, to_z}
use Rattle.hot_units.specs.Values.{CellValue, Products, coordinates}
use Rattle.hot_units.proofs.Signed.{fits_small}
use Rattle.hot_model.specs.Facts.{IsCellRecord}
use Rattle.hot_model.specs.Kernel.{centre}
use Rattle.hot_model.specs.Second.{trunc, spread_along, spread}
use Rattle.hot_model.proofs.Second.{abs-times, trunc-small, same_products}

-- a product as it is stored
pub times-stored : (a b : ℤ) (m n : ℕ) → SFits w128 a → SFits w128 b → nat_abs a ≤ m → nat_abs b ≤ n → m * n < 2 ^ 127 → to_z w128 (of_z w128 (to_z w128 (of_z w128 a) *ℤ to_z w128 (of_z w128 b))) ≡ a *ℤ b
times-stored a b m n f g h k l =
    let p = fits_small (a *ℤ b) (m * n) (abs-times a b m n h k) l in
    rw (to_z-of_z w128 a f, to_z-of_z w128 b g) (to_z-of_z w128 (a *ℤ b) p)

-- five times a product as it is stored
pub five-stored : (g n : ℤ) → SFits w128 g → SFits w128 n → nat_abs g ≤ 2 ^ 86 → nat_abs n ≤ 2 ^ 20 → to_z w128 (of_z w128 (to_z w128 (of_z w128 (pos 5 *ℤ to_z w128 (of_z w128 g))) *ℤ to_z w128 (of_z w128 n))) ≡ pos 5 *ℤ g *ℤ n
five-stored g n f e h k =
    let a = abs-times (pos 5) g 5 (2 ^ 86) (omega arith) h in
    let b = abs-times (pos 5 *ℤ g) n (5 * 2 ^ 86) (2 ^ 20) a k in
    let p = fits_small (pos 5 *ℤ g) (5 * 2 ^ 86) a (omega arith) in
    let q = fits_small (pos 5 *ℤ g *ℤ n) (5 * 2 ^ 86 * 2 ^ 20) b (omega arith) in
    rw (to_z-of_z w128 g f, to_z-of_z w128 (pos 5 *ℤ g) p, to_z-of_z w128 n e) (to_z-of_z w128 (pos 5 *ℤ g *ℤ n) q)

-- five times a product, over 2^21, is small
pub five-small : (g n : ℤ) → nat_abs g ≤ 2 ^ 86 → nat_abs n ≤ 2 ^ 20 → nat_abs (trunc (pos 5 *ℤ g *ℤ n) (2 ^ 21)) ≤ 2 ^ 88
five-small g n h k =
    let a = abs-times (pos 5) g 5 (2 ^ 86) (omega arith) h in
    let b = abs-times (pos 5 *ℤ g) n (5 * 2 ^ 86) (2 ^ 20) a k in
    trunc-small (pos 5 *ℤ g *ℤ n) (2 ^ 21) (2 ^ 88) (omega (arith, b))

-- a spread by what a sum is more than at the centre
pub spread-rest : (m c d s t q e : ℕ) → s ≡ m * c + e → pos q -ℤ pos (c * t + d * e) ≡ pos (q + m * (c * d)) -ℤ pos (c * t + d * s)
spread-rest m c d s t q e h =
    let k : q + (c * t + d * (m * c + e)) ≡ q + m * (c * d) + (c * t + d * e) = omega arith in
    rw h (same-difference q (c * t + d * e) (q + m * (c * d)) (c * t + d * (m * c + e)) k)
  where
    same-difference : (a b x y : ℕ) → a + y ≡ x + b → pos a -ℤ pos b ≡ pos x -ℤ pos y
    same-difference a b x y h = omega (arith, ints, h)

-- the coordinates of a centre by its sums
pub centre-at-x : (c : CellValue) (at : List ℕ) → at ≡ coordinates (centre c) → get_or at 0 0 ≡ c.sx / c.mass
centre-at-x c at e = rw e refl

-- and of y
pub centre-at-y : (c : CellValue) (at : List ℕ) → at ≡ coordinates (centre c) → get_or at 1 0 ≡ c.sy / c.mass
centre-at-y c at e = rw e refl

-- and of z
pub centre-at-z : (c : CellValue) (at : List ℕ) → at ≡ coordinates (centre c) → get_or at 2 0 ≡ c.sz / c.mass
centre-at-z c at e = rw e refl

-- a cell with a body has mass
pub some-mass : (r v : CellValue) → r ≡ v → IsCellRecord r → 0 < v.count → 0 < r.mass
some-mass r v e f h =
    let k : 0 < r.count = rw e h in
    omega (arith, k, f.counted)

-- the spread by its numbers
pub spread-is : (c : CellValue) (at : List ℕ) (p : Products) → at ≡ coordinates (centre c) → p.xx ≡ spread_along c.mass (get_or at 0 0) (get_or at 0 0) c.sx c.sx c.sxx → p.yy ≡ spread_along c.mass (get_or at 1 0) (get_or at 1 0) c.sy c.sy c.syy → p.zz ≡ spread_along c.mass (get_or at 2 0) (get_or at 2 0) c.sz c.sz c.szz → p.xy ≡ spread_along c.mass (get_or at 0 0) (get_or at 1 0) c.sx c.sy c.sxy → p.xz ≡ spread_along c.mass (get_or at 0 0) (get_or at 2 0) c.sx c.sz c.sxz → p.yz ≡ spread_along c.mass (get_or at 1 0) (get_or at 2 0) c.sy c.sz c.syz → p ≡ spread c
unfolding spread
spread-is c at p e a b d f g h = same_products p _ (a ∙ rw e refl) (b ∙ rw e refl) (d ∙ rw e refl) (f ∙ rw e refl) (g ∙ rw e refl) (h ∙ rw e refl)
