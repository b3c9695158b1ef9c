-- Second moments: the pull of a cell's quadrupole about its centre.
use Rattle.std.specs.Prelude.{ℕ, ◌+◌, ◌*◌, ◌/◌, ◌^◌, ◌≤◌, ltb, ℤ, pos, ◌+ℤ◌, ◌-ℤ◌, ◌*ℤ◌, int_div, nat_abs, if◌then◌else◌}
use Rattle.hot_units.specs.Values.{CellValue, Products, Point, Vector}
use Rattle.hot_units.specs.Keys.{side}
use Rattle.hot_model.specs.Kernel.{centre, root, apart, square, distance2, soft2, toward, origin}

-- the quotient without its fraction
abbrev pub trunc : ℤ → ℕ → ℤ
trunc a n = int_div a (pos n)

-- the sum of mass times two offsets from the centre c, d: q - c * t - d * s + m * c * d
unfoldable pub spread_along : ℕ → ℕ → ℕ → ℕ → ℕ → ℕ → ℤ
spread_along m c d s t q = pos (q + m * (c * d)) -ℤ pos (c * t + d * s)

-- these sums for each two axes
unfoldable pub spread : CellValue → Products
spread c = record {
  xx = spread_along c.mass (centre c).x (centre c).x c.sx c.sx c.sxx;
  yy = spread_along c.mass (centre c).y (centre c).y c.sy c.sy c.syy;
  zz = spread_along c.mass (centre c).z (centre c).z c.sz c.sz c.szz;
  xy = spread_along c.mass (centre c).x (centre c).y c.sx c.sy c.sxy;
  xz = spread_along c.mass (centre c).x (centre c).z c.sx c.sz c.sxz;
  yz = spread_along c.mass (centre c).y (centre c).z c.sy c.sz c.syz;
}

-- the sum of the diagonal
abbrev pub trace : Products → ℤ
trace p = p.xx +ℤ p.yy +ℤ p.zz

-- three times a number of the diagonal, less the trace
unfoldable pub diagonal : Products → ℤ → ℤ
diagonal p a = pos 3 *ℤ a -ℤ trace p

-- three times each number, less the trace on the diagonal
unfoldable pub traceless : Products → Products
traceless p = record {
  xx = diagonal p p.xx;
  yy = diagonal p p.yy;
  zz = diagonal p p.zz;
  xy = pos 3 *ℤ p.xy;
  xz = pos 3 *ℤ p.xz;
  yz = pos 3 *ℤ p.yz;
}

-- a number times 2^20 by the softened squared distance
unfoldable pub scaled_along : ℕ → ℤ → ℤ
scaled_along r2 t = trunc (t *ℤ pos (2 ^ 20)) r2

-- each of the numbers
unfoldable pub scaled : ℕ → Products → Products
scaled r2 t = record {
  xx = scaled_along r2 t.xx;
  yy = scaled_along r2 t.yy;
  zz = scaled_along r2 t.zz;
  xy = scaled_along r2 t.xy;
  xz = scaled_along r2 t.xz;
  yz = scaled_along r2 t.yz;
}

-- one component of the direction, in units of 2^-20: floor(|c - p| * 2^30 / s) with the sign of c - p
unfoldable pub heading_along : ℕ → ℕ → ℕ → ℤ
heading_along p c s = toward p c (apart p c * 2 ^ 30 / s)

-- the direction from the place p to the place c
unfoldable pub heading : ℕ → Point → Point → Vector
heading s p c = record { x = heading_along p.x c.x s; y = heading_along p.y c.y s; z = heading_along p.z c.z s }

-- the sum of the products of three numbers with three
unfoldable pub dot3 : ℤ → ℤ → ℤ → Vector → ℤ
dot3 a b c n = a *ℤ n.x +ℤ b *ℤ n.y +ℤ c *ℤ n.z

-- symmetric numbers times a direction
unfoldable pub times : Products → Vector → Vector
times q n = record { x = dot3 q.xx q.xy q.xz n; y = dot3 q.xy q.yy q.yz n; z = dot3 q.xz q.yz q.zz n }

-- one component: five times the part along the direction, less the turned one, by the softened squared distance
unfoldable pub bent_along : ℕ → ℤ → ℤ → ℤ → ℤ
bent_along r2 g n t = trunc (trunc (pos 5 *ℤ g *ℤ n) (2 ^ 21) -ℤ t) r2

-- the part of the turned vector t along the direction n
unfoldable pub part_along : Vector → Vector → ℤ
part_along t n = trunc (dot3 t.x t.y t.z n) (2 ^ 20)

-- the three components
unfoldable pub bent : ℕ → Vector → Vector → Vector
bent r2 n t = record {
  x = bent_along r2 (part_along t n) n.x t.x;
  y = bent_along r2 (part_along t n) n.y t.y;
  z = bent_along r2 (part_along t n) n.z t.z;
}

-- the numbers of a cell's quadrupole, by the softened squared distance
abbrev pub quadrupole : ℕ → CellValue → Products
quadrupole r2 c = scaled r2 (traceless (spread c))

-- the pull of the second moments by the softened squared distance and the direction
abbrev pub quad_over : ℕ → Vector → CellValue → Vector
quad_over r2 n c = bent r2 n (times (quadrupole r2 c) n)

-- the direction from a place to the centre of a cell
abbrev pub toward_centre : ℕ → Point → CellValue → Vector
toward_centre eps p c = heading (root (soft2 eps p (centre c) * 2 ^ 20)) p (centre c)

-- the pull of a cell's second moments on the place p: none unless the centre is farther off than the side
unfoldable pub quad : ℕ → Point → CellValue → Vector
quad eps p c =
    if ltb (square (side c.key)) (distance2 p (centre c))
    then quad_over (soft2 eps p (centre c)) (toward_centre eps p c) c
    else origin

-- how large the numbers are at most, each bound by its name: for a cell of mass m and extent w beyond its side the spread,
-- its traceless form, the quadrupole over the distance, the direction, the turned vector, its product with the direction,
-- the part along it, and each component
abbrev pub most_spread : ℕ → ℕ → ℕ
most_spread m w = m * (w * w)

-- the bound of the traceless form
abbrev pub most_traceless : ℕ → ℕ → ℕ
most_traceless m w = 4 * (m * (w * w))

-- the bound of the quadrupole by the softened squared distance
abbrev pub most_scaled : ℕ → ℕ
most_scaled m = 4 * m * 2 ^ 20

-- the bound of the direction
abbrev pub most_heading : ℕ
most_heading = 2 ^ 20

-- the bound of the turned vector
abbrev pub most_turned : ℕ → ℕ
most_turned m = 12 * m * 2 ^ 40

-- the bound of its product with the direction
abbrev pub most_dot : ℕ → ℕ
most_dot m = 36 * m * 2 ^ 60

-- the bound of its part along the direction
abbrev pub most_part : ℕ → ℕ
most_part m = 36 * m * 2 ^ 40

-- the bound of each component of the pull
abbrev pub most_quad : ℕ → ℕ
most_quad m = 102 * m * 2 ^ 24

-- each number is at most b in size
pub record AreSmall (b : ℕ) (p : Products) : Type 0 where
  pub xx : nat_abs p.xx ≤ b
  pub yy : nat_abs p.yy ≤ b
  pub zz : nat_abs p.zz ≤ b
  pub xy : nat_abs p.xy ≤ b
  pub xz : nat_abs p.xz ≤ b
  pub yz : nat_abs p.yz ≤ b

-- each component is at most b in size
pub record IsSmall (b : ℕ) (v : Vector) : Type 0 where
  pub x : nat_abs v.x ≤ b
  pub y : nat_abs v.y ≤ b
  pub z : nat_abs v.z ≤ b
