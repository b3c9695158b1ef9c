-- The sizes of the second-order pull, from what a record keeps.
use Rattle.std.proofs.Common.{ℕ, zero, suc, ◌≡◌, ◌+◌, ◌-◌, ◌*◌, ◌/◌, ◌^◌, ◌<◌, ◌≤◌, true, false, ltb, refl, ap, inl, inr, arith, ℤ, pos, negsuc, ◌+ℤ◌, ◌-ℤ◌, ◌*ℤ◌, neg_ℤ, nat_abs}
use Rattle.std.proofs.Math.Nat.{div-le_of_le-mul, le_of_mul-le-mul_left, div-mul-le_self, lt-div-mul-add, pow-le-pow_right}
use Rattle.std.proofs.lemmas.Nat.{mul-le, le-div}
use Rattle.std.proofs.lemmas.Int.{ints, unsigned_abs-mul}
use Rattle.std.proofs.lemmas.Bool.{cases_lt, lt-ltb, le-ltb}
use Rattle.hot_units.specs.Values.{CellValue, Products, Vector, Point}
use Rattle.hot_units.specs.Keys.{corner, extent, IsCell, level, side}
use Rattle.hot_units.proofs.Digits.{level-le}
use Rattle.hot_units.proofs.Signed.{nat_abs-plus-le}
use Rattle.hot_model.specs.Facts.{IsFirstSum, IsSecondSum, IsCellRecord}
use Rattle.hot_model.specs.Kernel.{centre, root, apart, square, distance2, soft2, pull, pull_along, origin, plus}
use Rattle.hot_model.specs.Second.{trunc, spread_along, spread, trace, diagonal, traceless, scaled_along, scaled, heading_along, heading, dot3, times, bent_along, part_along, bent, quadrupole, quad_over, toward_centre, quad, most_spread, most_traceless, most_scaled, most_heading, most_turned, most_dot, most_part, most_quad, AreSmall, IsSmall}
use Rattle.hot_model.proofs.Pulls.{distance2-is, soft2-is, soft2-x, soft2-y, soft2-z, root-above, nat_abs-toward, divisor-is, pull-small-x, pull-small-y, pull-small-z}

nat_abs-neg : (n : ℕ) → nat_abs (neg_ℤ (pos n)) ≡ n
nat_abs-neg zero = refl
nat_abs-neg (suc n) = refl

-- a quotient without its fraction has the quotient of the sizes as its size
pub trunc-size : (a : ℤ) (n : ℕ) → nat_abs (trunc a n) ≡ nat_abs a / n
trunc-size (pos a) n = refl
trunc-size (negsuc a) n = nat_abs-neg (suc a / n)

-- a number of at most m * n in size, divided by n, is at most m in size
pub trunc-small : (a : ℤ) (n m : ℕ) → nat_abs a ≤ m * n → nat_abs (trunc a n) ≤ m
trunc-small a n m h = rw trunc-size (div-le_of_le-mul n (omega (arith, h)))

-- a product is at most the product of both bounds in size
pub abs-times : (a b : ℤ) (m n : ℕ) → nat_abs a ≤ m → nat_abs b ≤ n → nat_abs (a *ℤ b) ≤ m * n
abs-times a b m n h k = rw (unsigned_abs-mul a b) (mul-le (nat_abs a) (nat_abs b) m n h k)

-- a difference is at most the sum of both bounds in size
pub abs-minus : (a b : ℤ) (m n : ℕ) → nat_abs a ≤ m → nat_abs b ≤ n → nat_abs (a -ℤ b) ≤ m + n
abs-minus a b m n h k = omega (arith, ints, h, k)

-- a difference of two numbers that are near
near-small : (x y b : ℕ) → x ≤ y + b → y ≤ x + b → nat_abs (pos x -ℤ pos y) ≤ b
near-small x y b h k = omega (arith, ints)

-- the spread in offsets from the corner: c and d of the centre, e and f of the sums, r of the sum of products
spread-offsets : (m k l c d e f r s t q : ℕ) → s ≡ m * k + e → t ≡ m * l + f → q + m * (k * l) ≡ k * t + l * s + r → q + m * ((k + c) * (l + d)) + (c * f + d * e) ≡ (k + c) * t + (l + d) * s + (r + m * (c * d))
spread-offsets m k l c d e f r s t q g h i =
    let j : q + m * (k * l) ≡ k * (m * l + f) + l * (m * k + e) + r = rw (g, h) at i in
    rw (g, h) (omega (arith, j))

-- what is taken off is at most the mass times the squared extent and the product of the offsets of the centre
off-small : (m w c d e f : ℕ) → 0 < m → c * m ≤ e → e < c * m + m → d * m ≤ f → e ≤ m * w → f ≤ m * w → c * f + d * e ≤ m * (w * w) + m * (c * d)
off-small m w c d e f some ce ec df ew fw =
    let g = e - c * m in
    let eg : e ≡ c * m + g = omega (arith, ce) in
    let a : d * m * g ≤ f * g = mul-le (d * m) g f g df (omega arith) in
    let b : f * e ≤ m * w * (m * w) = mul-le f e (m * w) (m * w) fw ew in
    let whole : m * (c * f + d * g) ≤ m * (m * (w * w)) = gathered m w c d e f g eg a b in
    let top : c * f + d * g ≤ m * (w * w) = le_of_mul-le-mul_left whole some in
    let de : d * e ≡ m * (c * d) + d * g = parted m c d e g eg in
    omega (arith, top, de)
  where
    parted : (m c d e g : ℕ) → e ≡ c * m + g → d * e ≡ m * (c * d) + d * g
    parted m c d e g h = rw h (omega arith)

    gathered : (m w c d e f g : ℕ) → e ≡ c * m + g → d * m * g ≤ f * g → f * e ≤ m * w * (m * w) → m * (c * f + d * g) ≤ m * (m * (w * w))
    gathered m w c d e f g eg a b =
        let b' : f * (c * m + g) ≤ m * w * (m * w) = rw eg at b in
        omega (arith, a, b')

above-corner : (m k s : ℕ) → 0 < m → m * k ≤ s → k ≤ s / m
above-corner m k s h l = le-div k s m h (omega (arith, l))

-- a sum of mass times two offsets from the centre is at most m * w^2 in size
pub spread-small : (m k l w s t q : ℕ) → 0 < m → IsFirstSum m k w s → IsFirstSum m l w t → IsSecondSum m k l w s t q → nat_abs (spread_along m (s / m) (t / m) s t q) ≤ m * (w * w)
unfolding spread_along
spread-small m k l w s t q h f g z =
    let c = s / m - k in
    let d = t / m - l in
    let e = s - m * k in
    let o = t - m * l in
    let r = (q + m * (k * l)) - (k * t + l * s) in
    let ck : s / m ≡ k + c = let p = above-corner m k s h f.low in omega (arith, p) in
    let dl : t / m ≡ l + d = let p = above-corner m l t h g.low in omega (arith, p) in
    let se : s ≡ m * k + e = omega (arith, f.low) in
    let to : t ≡ m * l + o = omega (arith, g.low) in
    let qr : q + m * (k * l) ≡ k * t + l * s + r = omega (arith, z.low) in
    let ew : e ≤ m * w = omega (arith, f.high) in
    let ow : o ≤ m * w = omega (arith, g.high) in
    let rw' : r ≤ m * (w * w) = omega (arith, z.high) in
    bounded m k l w c d e o r s t q (s / m) (t / m) h ck dl se to qr ew ow rw' (div-mul-le_self s m) (lt-div-mul-add h) (div-mul-le_self t m)
  where
    bounded : (m k l w c d e o r s t q u v : ℕ) → 0 < m → u ≡ k + c → v ≡ l + d → s ≡ m * k + e → t ≡ m * l + o → q + m * (k * l) ≡ k * t + l * s + r → e ≤ m * w → o ≤ m * w → r ≤ m * (w * w) → u * m ≤ s → s < u * m + m → v * m ≤ t → nat_abs (pos (q + m * (u * v)) -ℤ pos (u * t + v * s)) ≤ m * (w * w)
    bounded m k l w c d e o r s t q u v h ck dl se to qr ew ow rr us su vt =
        let ce : c * m ≤ e = let a : (k + c) * m ≤ m * k + e = rw (ck, se) at us in omega (arith, a) in
        let ec : e < c * m + m = let a : m * k + e < (k + c) * m + m = rw (ck, se) at su in omega (arith, a) in
        let df : d * m ≤ o = let a : (l + d) * m ≤ m * l + o = rw (dl, to) at vt in omega (arith, a) in
        let whole = spread-offsets m k l c d e o r s t q se to qr in
        let off = off-small m w c d e o h ce ec df ew ow in
        let up : c * (d * m) ≤ c * o = mul-le c (d * m) c o (omega arith) df in
        rw (ck, dl) (near-small (q + m * ((k + c) * (l + d))) ((k + c) * t + (l + d) * s) (m * (w * w)) (omega (arith, whole, up, rr)) (omega (arith, whole, off)))

record-spread : (c : CellValue) → IsCellRecord c → 0 < c.mass → AreSmall (c.mass * (extent c.key * extent c.key)) (spread c)
unfolding spread
record-spread c f h =
    let k = corner c.key in
    let w = extent c.key in
    record {
      xx = spread-small c.mass k.x k.x w c.sx c.sx c.sxx h f.x_in f.x_in f.xx_in;
      yy = spread-small c.mass k.y k.y w c.sy c.sy c.syy h f.y_in f.y_in f.yy_in;
      zz = spread-small c.mass k.z k.z w c.sz c.sz c.szz h f.z_in f.z_in f.zz_in;
      xy = spread-small c.mass k.x k.y w c.sx c.sy c.sxy h f.x_in f.y_in f.xy_in;
      xz = spread-small c.mass k.x k.z w c.sx c.sz c.sxz h f.x_in f.z_in f.xz_in;
      yz = spread-small c.mass k.y k.z w c.sy c.sz c.syz h f.y_in f.z_in f.yz_in;
    }

-- three times a number
three-times : (z : ℤ) → pos 3 *ℤ z ≡ z +ℤ z +ℤ z
three-times (pos n) = ap pos (omega arith)
three-times (negsuc n) = omega (arith, ints)

-- a diagonal number: twice it, less the others
on-diagonal : (a b c t : ℤ) (n : ℕ) → t ≡ a +ℤ b +ℤ c → nat_abs a ≤ n → nat_abs b ≤ n → nat_abs c ≤ n → nat_abs (pos 3 *ℤ a -ℤ t) ≤ 4 * n
on-diagonal a b c t n e h k l = rw (three-times a, e) (omega (arith, ints, h, k, l))

beside : (a : ℤ) (n : ℕ) → nat_abs a ≤ n → nat_abs (pos 3 *ℤ a) ≤ 4 * n
beside a n h = rw (three-times a) (omega (arith, ints, h))

-- the traceless form of numbers of at most b is at most 4 * b
pub traceless-small : (p : Products) (b : ℕ) → AreSmall b p → AreSmall (4 * b) (traceless p)
unfolding traceless diagonal
traceless-small p b h = record {
  xx = on-diagonal p.xx p.yy p.zz (trace p) b refl h.xx h.yy h.zz;
  yy = on-diagonal p.yy p.xx p.zz (trace p) b (omega (arith, ints)) h.yy h.xx h.zz;
  zz = on-diagonal p.zz p.xx p.yy (trace p) b (omega (arith, ints)) h.zz h.xx h.yy;
  xy = beside p.xy b h.xy;
  xz = beside p.xz b h.xz;
  yz = beside p.yz b h.yz;
}

scale-small : (m w r2 : ℕ) (t : ℤ) → w * w ≤ r2 → nat_abs t ≤ 4 * (m * (w * w)) → nat_abs (scaled_along r2 t) ≤ most_scaled m
unfolding scaled_along
scale-small m w r2 t h k =
    let a : nat_abs (t *ℤ pos (2 ^ 20)) ≤ 4 * (m * (w * w)) * 2 ^ 20 = abs-times t (pos (2 ^ 20)) (4 * (m * (w * w))) (2 ^ 20) k (omega arith) in
    let b : m * (w * w) ≤ m * r2 = mul-le m (w * w) m r2 (omega arith) h in
    trunc-small (t *ℤ pos (2 ^ 20)) r2 (most_scaled m) (omega (arith, a, b))

-- numbers within the traceless bound, scaled, are within theirs, where w^2 is at most r2
pub scaled-small : (m w r2 : ℕ) (t : Products) → w * w ≤ r2 → AreSmall (4 * (m * (w * w))) t → AreSmall (most_scaled m) (scaled r2 t)
unfolding scaled
scaled-small m w r2 t h k = record {
  xx = scale-small m w r2 t.xx h k.xx;
  yy = scale-small m w r2 t.yy h k.yy;
  zz = scale-small m w r2 t.zz h k.zz;
  xy = scale-small m w r2 t.xy h k.xy;
  xz = scale-small m w r2 t.xz h k.xz;
  yz = scale-small m w r2 t.yz h k.yz;
}

-- a component of the direction is within its bound, where s is 2^10 times the difference or more
pub heading-small : (p c s : ℕ) → 1024 * apart p c ≤ s → nat_abs (heading_along p c s) ≤ most_heading
unfolding heading_along
heading-small p c s h = rw nat_abs-toward (div-le_of_le-mul s (omega (arith, h)))

-- three numbers of at most m times a vector of at most l make at most 3 * m * l in size
pub dot-small : (a b c : ℤ) (n : Vector) (m l : ℕ) → nat_abs a ≤ m → nat_abs b ≤ m → nat_abs c ≤ m → IsSmall l n → nat_abs (dot3 a b c n) ≤ 3 * (m * l)
unfolding dot3
dot-small a b c n m l h i j k =
    let x = abs-times a n.x m l h k.x in
    let y = abs-times b n.y m l i k.y in
    let z = abs-times c n.z m l j k.z in
    let s = nat_abs-plus-le (a *ℤ n.x) (b *ℤ n.y) (m * l) (m * l) x y in
    let t = nat_abs-plus-le (a *ℤ n.x +ℤ b *ℤ n.y) (c *ℤ n.z) (m * l + m * l) (m * l) s z in
    omega (arith, t)

-- a quadrupole and a direction within their bounds turn to a vector within its own
pub times-small : (q : Products) (n : Vector) (m : ℕ) → AreSmall (most_scaled m) q → IsSmall most_heading n → IsSmall (most_turned m) (times q n)
unfolding times
times-small q n m h k = record {
  x = (let d = dot-small q.xx q.xy q.xz n (most_scaled m) most_heading h.xx h.xy h.xz k in omega (arith, d));
  y = (let d = dot-small q.xy q.yy q.yz n (most_scaled m) most_heading h.xy h.yy h.yz k in omega (arith, d));
  z = (let d = dot-small q.xz q.yz q.zz n (most_scaled m) most_heading h.xz h.yz h.zz k in omega (arith, d));
}

-- its product with the direction is within its bound
pub turned-dot-small : (t n : Vector) (m : ℕ) → IsSmall (most_turned m) t → IsSmall most_heading n → nat_abs (dot3 t.x t.y t.z n) ≤ most_dot m
turned-dot-small t n m h k = let d = dot-small t.x t.y t.z n (most_turned m) most_heading h.x h.y h.z k in omega (arith, d)

-- its part along the direction is within its bound
pub part-small : (t n : Vector) (m : ℕ) → IsSmall (most_turned m) t → IsSmall most_heading n → nat_abs (part_along t n) ≤ most_part m
unfolding part_along
part-small t n m h k =
    let d = turned-dot-small t n m h k in
    trunc-small (dot3 t.x t.y t.z n) (2 ^ 20) (most_part m) (omega (arith, d))

-- five times the part along the direction
pub five-small : (g n : ℤ) (m : ℕ) → nat_abs g ≤ most_part m → nat_abs n ≤ most_heading → nat_abs (trunc (pos 5 *ℤ g *ℤ n) (2 ^ 21)) ≤ 90 * m * 2 ^ 40
five-small g n m h k =
    let a = abs-times (pos 5) g 5 (most_part m) (omega arith) h in
    let b = abs-times (pos 5 *ℤ g) n (5 * most_part m) most_heading a k in
    trunc-small (pos 5 *ℤ g *ℤ n) (2 ^ 21) (90 * m * 2 ^ 40) (omega (arith, b))

-- a component of the pull of second moments is within its bound, from r2 = 2^16 on
pub bend-small : (r2 m : ℕ) (g n t : ℤ) → 2 ^ 16 ≤ r2 → nat_abs g ≤ most_part m → nat_abs n ≤ most_heading → nat_abs t ≤ most_turned m → nat_abs (bent_along r2 g n t) ≤ most_quad m
unfolding bent_along
bend-small r2 m g n t h i j k =
    let a = five-small g n m i j in
    let b = abs-minus (trunc (pos 5 *ℤ g *ℤ n) (2 ^ 21)) t (90 * m * 2 ^ 40) (most_turned m) a k in
    let c : most_quad m * 2 ^ 16 ≤ most_quad m * r2 = mul-le (most_quad m) (2 ^ 16) (most_quad m) r2 (omega arith) h in
    trunc-small (trunc (pos 5 *ℤ g *ℤ n) (2 ^ 21) -ℤ t) r2 (most_quad m) (omega (arith, b, c))

-- the same for all three components
pub bent-small : (r2 m : ℕ) (n t : Vector) → 2 ^ 16 ≤ r2 → IsSmall (most_turned m) t → IsSmall most_heading n → IsSmall (most_quad m) (bent r2 n t)
unfolding bent
bent-small r2 m n t h i j =
    let g = part-small t n m i j in
    record {
      x = bend-small r2 m (part_along t n) n.x t.x h g j.x i.x;
      y = bend-small r2 m (part_along t n) n.y t.y h g j.y i.y;
      z = bend-small r2 m (part_along t n) n.z t.z h g j.z i.z;
    }

-- the squared extent of a cell is below a squared distance beyond its side, and that is past 2^16
pub far-off : (c d2 r2 : ℕ) → IsCell c → square (side c) < d2 → d2 ≤ r2 → (extent c * extent c ≤ r2) × (2 ^ 16 ≤ r2)
far-off c d2 r2 i h k =
    let a : 2 ^ 8 ≤ 2 ^ (29 - level c) = let two : 0 < 2 = omega arith in let more : 8 ≤ 29 - level c = omega (arith, level-le c i) in pow-le-pow_right two more in
    let b : 2 ^ 8 * 2 ^ 8 ≤ side c * side c = mul-le (2 ^ 8) (2 ^ 8) (side c) (side c) a a in
    let e : extent c * extent c ≤ side c * side c = mul-le (extent c) (extent c) (side c) (side c) (omega arith) (omega arith) in
    (omega (arith, e, h, k), omega (arith, b, h, k))

-- a side of a distance, by the scaled root
pub near-x : (p c : Point) (r2 : ℕ) → distance2 p c ≤ r2 → 1024 * apart p.x c.x ≤ root (r2 * 2 ^ 20)
near-x p c r2 h = root-above r2 (apart p.x c.x) (omega (arith, h, distance2-is p c))

-- the same along y
pub near-y : (p c : Point) (r2 : ℕ) → distance2 p c ≤ r2 → 1024 * apart p.y c.y ≤ root (r2 * 2 ^ 20)
near-y p c r2 h = root-above r2 (apart p.y c.y) (omega (arith, h, distance2-is p c))

-- the same along z
pub near-z : (p c : Point) (r2 : ℕ) → distance2 p c ≤ r2 → 1024 * apart p.z c.z ≤ root (r2 * 2 ^ 20)
near-z p c r2 h = root-above r2 (apart p.z c.z) (omega (arith, h, distance2-is p c))

-- the direction by the scaled root of at least the squared distance is within its bound
pub direction-small : (p c : Point) (r2 : ℕ) → distance2 p c ≤ r2 → IsSmall most_heading (heading (root (r2 * 2 ^ 20)) p c)
unfolding heading
direction-small p c r2 h = record {
  x = heading-small p.x c.x (root (r2 * 2 ^ 20)) (near-x p c r2 h);
  y = heading-small p.y c.y (root (r2 * 2 ^ 20)) (near-y p c r2 h);
  z = heading-small p.z c.z (root (r2 * 2 ^ 20)) (near-z p c r2 h);
}

-- the squared distance is at most the softened one
pub soft-above : (eps : ℕ) (p c : Point) → distance2 p c ≤ soft2 eps p c
soft-above eps p c = rw soft2-is (omega arith)

-- the numbers of a cell's quadrupole, and of the vector that it turns the direction to
pub tensor-small : (c : CellValue) → IsCellRecord c → 0 < c.mass → AreSmall (4 * (c.mass * (extent c.key * extent c.key))) (traceless (spread c))
tensor-small c f h = traceless-small (spread c) (c.mass * (extent c.key * extent c.key)) (record-spread c f h)

-- the quadrupole of a record with mass is within its bound, from r2 = the squared extent on
pub quadrupole-small : (c : CellValue) (r2 : ℕ) → IsCellRecord c → 0 < c.mass → extent c.key * extent c.key ≤ r2 → AreSmall (most_scaled c.mass) (quadrupole r2 c)
quadrupole-small c r2 f h k = scaled-small c.mass (extent c.key) r2 (traceless (spread c)) k (tensor-small c f h)

-- the pull of the second moments where it is not zero
pub over-small : (r2 : ℕ) (n : Vector) (c : CellValue) → IsCellRecord c → 0 < c.mass → extent c.key * extent c.key ≤ r2 → 2 ^ 16 ≤ r2 → IsSmall most_heading n → IsSmall (most_quad c.mass) (quad_over r2 n c)
over-small r2 n c f h k l i =
    bent-small r2 c.mass n (times (quadrupole r2 c) n) l (times-small (quadrupole r2 c) n c.mass (quadrupole-small c r2 f h k) i) i

-- the pull of a mass beyond 2^8
near-pull : (m d r2 s : ℕ) → 2 ^ 16 ≤ r2 → 1024 * d ≤ s → m * d * 2 ^ 50 / (r2 * s) ≤ m * 2 ^ 24
near-pull m d r2 s h k =
    let a : m * (1024 * d) ≤ m * s = mul-le m (1024 * d) m s (omega arith) k in
    let b : 2 ^ 16 * (m * s) ≤ r2 * (m * s) = mul-le (2 ^ 16) (m * s) r2 (m * s) h (omega arith) in
    div-le_of_le-mul (r2 * s) (omega (arith, a, b))

far-along : (a b m r2 : ℕ) → 2 ^ 16 ≤ r2 → apart a b * apart a b ≤ r2 → nat_abs (pull_along a b m (r2 * root (r2 * 2 ^ 20))) ≤ m * 2 ^ 24
unfolding pull_along
far-along a b m r2 h k =
    rw nat_abs-toward (near-pull m (apart a b) r2 (root (r2 * 2 ^ 20)) h (root-above r2 (apart a b) k))

-- from a softened squared distance of 2^16 on a pull by m is at most m * 2^24 in size
pub far-pull-small : (eps : ℕ) (p c : Point) (m : ℕ) → 2 ^ 16 ≤ soft2 eps p c → IsSmall (m * 2 ^ 24) (pull eps p c m)
unfolding pull
far-pull-small eps p c m h = record {
  x = rw divisor-is (far-along p.x c.x m (soft2 eps p c) h (soft2-x eps p c));
  y = rw divisor-is (far-along p.y c.y m (soft2 eps p c) h (soft2-y eps p c));
  z = rw divisor-is (far-along p.z c.z m (soft2 eps p c) h (soft2-z eps p c));
}

both-small : (a b : ℤ) (m : ℕ) → nat_abs a ≤ m * 2 ^ 24 → nat_abs b ≤ most_quad m → nat_abs (a +ℤ b) ≤ m * 2 ^ 40
both-small a b m h k = let s = nat_abs-plus-le a b (m * 2 ^ 24) (most_quad m) h k in omega (arith, s)

alone-small : (a : ℤ) (m : ℕ) → nat_abs a ≤ m * 2 ^ 40 → nat_abs (a +ℤ pos 0) ≤ m * 2 ^ 40
alone-small a m h = omega (arith, ints, h)

-- the pull of a cell with its second moments is as small as that of its mass
pub pair-small : (eps : ℕ) (p : Point) (c : CellValue) → 1 ≤ eps → IsCellRecord c → 0 < c.mass → IsSmall (c.mass * 2 ^ 40) (plus (pull eps p (centre c) c.mass) (quad eps p c))
unfolding quad
pair-small eps p c e f h =
    elim (cases_lt (square (side c.key)) (distance2 p (centre c))) [
      | inl far ↦
          let o = far-off c.key (distance2 p (centre c)) (soft2 eps p (centre c)) f.cell far (soft-above eps p (centre c)) in
          let a = far-pull-small eps p (centre c) c.mass o.1 in
          let b = over-small (soft2 eps p (centre c)) (toward_centre eps p c) c f h o.0 o.1 (direction-small p (centre c) (soft2 eps p (centre c)) (soft-above eps p (centre c))) in
          let t : ltb (square (side c.key)) (distance2 p (centre c)) ≡ true = lt-ltb _ _ far in
          rw t (record {
            x = both-small (pull eps p (centre c) c.mass).x (quad_over (soft2 eps p (centre c)) (toward_centre eps p c) c).x c.mass a.x b.x;
            y = both-small (pull eps p (centre c) c.mass).y (quad_over (soft2 eps p (centre c)) (toward_centre eps p c) c).y c.mass a.y b.y;
            z = both-small (pull eps p (centre c) c.mass).z (quad_over (soft2 eps p (centre c)) (toward_centre eps p c) c).z c.mass a.z b.z;
          })
      | inr near ↦
          let t : ltb (square (side c.key)) (distance2 p (centre c)) ≡ false = le-ltb _ _ near in
          rw t (record {
            x = alone-small (pull eps p (centre c) c.mass).x c.mass (pull-small-x eps p (centre c) c.mass e);
            y = alone-small (pull eps p (centre c) c.mass).y c.mass (pull-small-y eps p (centre c) c.mass e);
            z = alone-small (pull eps p (centre c) c.mass).z c.mass (pull-small-z eps p (centre c) c.mass e);
          })
    ]

-- a bound from a smaller one
pub are-small : (a b : ℕ) (p : Products) → a ≤ b → AreSmall a p → AreSmall b p
are-small a b p h k = record {
  xx = omega (arith, h, k.xx);
  yy = omega (arith, h, k.yy);
  zz = omega (arith, h, k.zz);
  xy = omega (arith, h, k.xy);
  xz = omega (arith, h, k.xz);
  yz = omega (arith, h, k.yz);
}

-- the same for a vector
pub is-small : (a b : ℕ) (v : Vector) → a ≤ b → IsSmall a v → IsSmall b v
is-small a b v h k = record { x = omega (arith, h, k.x); y = omega (arith, h, k.y); z = omega (arith, h, k.z) }

-- numbers for each two axes that agree in each are one
pub same_products : (p q : Products) → p.xx ≡ q.xx → p.yy ≡ q.yy → p.zz ≡ q.zz → p.xy ≡ q.xy → p.xz ≡ q.xz → p.yz ≡ q.yz → p ≡ q
same_products p q a b c d e f = same_six p.xx q.xx p.yy q.yy p.zz q.zz p.xy q.xy p.xz q.xz p.yz q.yz a b c d e f
  where
    same_six : (a a' b b' c c' d d' e e' f f' : ℤ) → a ≡ a' → b ≡ b' → c ≡ c' → d ≡ d' → e ≡ e' → f ≡ f' → ◌≡◌ {A = Products} (record { xx = a; yy = b; zz = c; xy = d; xz = e; yz = f }) (record { xx = a'; yy = b'; zz = c'; xy = d'; xz = e'; yz = f' })
    same_six a a' b b' c c' d d' e e' f f' g h i j k l = rw (g, h, i, j, k, l) refl

-- absolute bounds of the steps, for numbers of 128 bits
some-mass : (c : CellValue) → IsCellRecord c → 0 < c.count → 0 < c.mass
some-mass c f h = omega (arith, h, f.counted)

squared-small : (m c : ℕ) → m ≤ 2 ^ 40 → m * (extent c * extent c) ≤ 2 ^ 98
squared-small m c h =
    let two : 0 < 2 = omega arith in
    let less : 29 - level c ≤ 29 = omega arith in
    let a : 2 ^ (29 - level c) ≤ 2 ^ 29 = pow-le-pow_right two less in
    let b : extent c * extent c ≤ 2 ^ 29 * 2 ^ 29 = mul-le (extent c) (extent c) (2 ^ 29) (2 ^ 29) (omega arith) (omega arith) in
    let d : m * (extent c * extent c) ≤ 2 ^ 40 * (2 ^ 29 * 2 ^ 29) = mul-le m (extent c * extent c) (2 ^ 40) (2 ^ 29 * 2 ^ 29) h b in
    omega (arith, d)

-- the sums about the centre of a record with bodies are at most 2^98 in size
pub spread-fits : (c : CellValue) → IsCellRecord c → 0 < c.count → AreSmall (2 ^ 98) (spread c)
spread-fits c f h = are-small (most_spread c.mass (extent c.key)) (2 ^ 98) (spread c) (squared-small c.mass c.key f.light) (record-spread c f (some-mass c f h))

-- their traceless form is at most 2^100 in size
pub tensor-fits : (c : CellValue) → IsCellRecord c → 0 < c.count → AreSmall (2 ^ 100) (traceless (spread c))
tensor-fits c f h =
    let a = squared-small c.mass c.key f.light in
    are-small (most_traceless c.mass (extent c.key)) (2 ^ 100) (traceless (spread c)) (omega (arith, a)) (tensor-small c f (some-mass c f h))

-- the quadrupole is at most 2^84 in size, from r2 = the squared extent on
pub quadrupole-fits : (c : CellValue) (r2 : ℕ) → IsCellRecord c → 0 < c.count → extent c.key * extent c.key ≤ r2 → AreSmall (2 ^ 84) (quadrupole r2 c)
quadrupole-fits c r2 f h k = are-small (most_scaled c.mass) (2 ^ 84) (quadrupole r2 c) (omega (arith, f.light)) (quadrupole-small c r2 f (some-mass c f h) k)

-- the vector that it turns a direction within its bound to is at most 2^84 too
pub turned-fits : (c : CellValue) (r2 : ℕ) (n : Vector) → IsCellRecord c → 0 < c.count → extent c.key * extent c.key ≤ r2 → IsSmall most_heading n → IsSmall (2 ^ 84) (times (quadrupole r2 c) n)
turned-fits c r2 n f h k i =
    is-small (most_turned c.mass) (2 ^ 84) (times (quadrupole r2 c) n) (omega (arith, f.light))
    (times-small (quadrupole r2 c) n c.mass (quadrupole-small c r2 f (some-mass c f h) k) i)

-- the pull of the second moments near and far
pub quad-near : (eps : ℕ) (p : Point) (c : CellValue) → distance2 p (centre c) ≤ square (side c.key) → quad eps p c ≡ origin
unfolding quad
quad-near eps p c h = let t : ltb (square (side c.key)) (distance2 p (centre c)) ≡ false = le-ltb _ _ h in rw t refl

-- beyond the cell's side it is that by the softened distance and the direction to the centre
pub quad-far : (eps : ℕ) (p : Point) (c : CellValue) → square (side c.key) < distance2 p (centre c) → quad eps p c ≡ quad_over (soft2 eps p (centre c)) (toward_centre eps p c) c
unfolding quad
quad-far eps p c h = let t : ltb (square (side c.key)) (distance2 p (centre c)) ≡ true = lt-ltb _ _ h in rw t refl

-- the pull of the second moments of a record with bodies is within its bound
pub quad-small : (eps : ℕ) (p : Point) (c : CellValue) → IsCellRecord c → 0 < c.count → IsSmall (most_quad c.mass) (quad eps p c)
quad-small eps p c f h =
    elim (cases_lt (square (side c.key)) (distance2 p (centre c))) [
      | inl far ↦
          let o = far-off c.key (distance2 p (centre c)) (soft2 eps p (centre c)) f.cell far (soft-above eps p (centre c)) in
          rw (quad-far eps p c far) (over-small (soft2 eps p (centre c)) (toward_centre eps p c) c f (some-mass c f h) o.0 o.1 (direction-small p (centre c) (soft2 eps p (centre c)) (soft-above eps p (centre c))))
      | inr near ↦ rw (quad-near eps p c near) (record { x = omega arith; y = omega arith; z = omega arith })
    ]

-- of a record with bodies both pulls together are at most m * 2^40, for a softening from 1 on
pub pair-fits : (eps : ℕ) (p : Point) (c : CellValue) → 1 ≤ eps → IsCellRecord c → 0 < c.count → IsSmall (c.mass * 2 ^ 40) (plus (pull eps p (centre c) c.mass) (quad eps p c))
pair-fits eps p c e f h = pair-small eps p c e f (some-mass c f h)
