-- The fixed-point kernel: centre, root, pull and the opening test.
use Rattle.std.specs.Prelude.{ℕ, zero, suc, ◌+◌, ◌-◌, ◌*◌, ◌/◌, ◌^◌, ◌<◌, ◌≤◌, Bool, cond, leb, ltb, not, ◌&&◌, ℤ, pos, neg_ℤ, ◌+ℤ◌, List, slice_index, slice_index_or, nat_abs}
use Rattle.hot_units.specs.Limits.{fine_bits}
use Rattle.hot_units.specs.Values.{CellValue, Point, Vector, BodyValue, place}
use Rattle.hot_units.specs.Keys.{contains, side}

-- the centre of mass, rounded down
abbrev pub centre : CellValue → Point
centre c = record { x = c.sx / c.mass; y = c.sy / c.mass; z = c.sz / c.mass }

-- g is the square root of n, rounded down
abbrev pub IsRoot : ℕ → ℕ → Type 0
IsRoot n g = (g * g ≤ n) × (n < (g + 1) * (g + 1))

-- the square root of n, rounded down: the root of n - 1, or one more
unfoldable pub root : ℕ → ℕ
root zero = 0
root (suc n) = cond (leb ((root n + 1) * (root n + 1)) (suc n)) (root n + 1) (root n)

-- how far two numbers are apart
abbrev pub apart : ℕ → ℕ → ℕ
apart a b = (a - b) + (b - a)

-- a number times itself
abbrev pub square : ℕ → ℕ
square n = n * n

-- the squared distance of two places
unfoldable pub distance2 : Point → Point → ℕ
distance2 p c = square (apart p.x c.x) + square (apart p.y c.y) + square (apart p.z c.z)

-- the softened squared distance
unfoldable pub soft2 : ℕ → Point → Point → ℕ
soft2 eps p c = distance2 p c + square eps

-- the divisor of the pull
unfoldable pub divisor : ℕ → Point → Point → ℕ
divisor eps p c = soft2 eps p c * root (soft2 eps p c * 2 ^ 20)

-- n with the sign of c - p
abbrev pub toward : ℕ → ℕ → ℕ → ℤ
toward p c n = cond (leb p c) (pos n) (neg_ℤ (pos n))

-- one component of the pull, of the size floor(m * |c - p| * 2^50 / (r2 * s))
unfoldable pub pull_along : ℕ → ℕ → ℕ → ℕ → ℤ
pull_along p c m by = toward p c (m * apart p c * 2 ^ 50 / by)

-- the pull by its divisor
abbrev pub pull_over : ℕ → Point → Point → ℕ → Vector
pull_over by p c m = record { x = pull_along p.x c.x m by; y = pull_along p.y c.y m by; z = pull_along p.z c.z m by }

-- the pull of the mass m at the place c on the place p
unfoldable pub pull : ℕ → Point → Point → ℕ → Vector
pull eps p c m = record {
  x = pull_along p.x c.x m (divisor eps p c);
  y = pull_along p.y c.y m (divisor eps p c);
  z = pull_along p.z c.z m (divisor eps p c);
}

-- the opening test: the cell is taken whole
unfoldable pub accepts : ℕ → ℕ → BodyValue → CellValue → Bool
accepts num den b c =
    not (contains c.key b) && ltb (square (side c.key) * square den) (square num * distance2 (place b) (centre c))

-- the vector of zeros
abbrev pub origin : Vector
origin = record { x = pos 0; y = pos 0; z = pos 0 }

-- the sum of two vectors
abbrev pub plus : Vector → Vector → Vector
plus a b = record { x = a.x +ℤ b.x; y = a.y +ℤ b.y; z = a.z +ℤ b.z }

-- a place in the cube
abbrev pub InCube : List ℕ → Type 0
InCube p = (slice_index p 0 < 2 ^ fine_bits) × (slice_index p 1 < 2 ^ fine_bits) × (slice_index p 2 < 2 ^ fine_bits)

-- each component of a pull by the mass m is at most m * 2^40 in size
abbrev pub IsPullBy : ℕ → List ℤ → Type 0
IsPullBy m p =
    (nat_abs (slice_index_or p 0 (pos 0)) ≤ m * 2 ^ 40)
    × (nat_abs (slice_index_or p 1 (pos 0)) ≤ m * 2 ^ 40)
    × (nat_abs (slice_index_or p 2 (pos 0)) ≤ m * 2 ^ 40)
