-- What contracts see of bodies, cells and accumulators: plain records of numbers.
use Rattle.std.specs.Prelude.{ℕ, ℤ, List, slice_index, pos, [], ◌∷◌, slice_index_or}

-- a body: its place in fine units, its mass, and its row in the file
pub record BodyValue : Type 0 where
  pub x : ℕ
  pub y : ℕ
  pub z : ℕ
  pub mass : ℕ
  pub row : ℕ

-- a cell: its key, how many bodies it has, their mass, the sums of mass times coordinate, and those of mass times two
-- coordinates
pub record CellValue : Type 0 where
  pub key : ℕ
  pub count : ℕ
  pub mass : ℕ
  pub sx : ℕ
  pub sy : ℕ
  pub sz : ℕ
  pub sxx : ℕ
  pub syy : ℕ
  pub szz : ℕ
  pub sxy : ℕ
  pub sxz : ℕ
  pub syz : ℕ

-- a place in fine units
pub record Point : Type 0 where
  pub x : ℕ
  pub y : ℕ
  pub z : ℕ

-- the cube of a body file: its edge is 2^bits, from the corner on
pub record CubeValue : Type 0 where
  pub bits : ℕ
  pub x0 : ℤ
  pub y0 : ℤ
  pub z0 : ℤ

-- a signed vector
pub record Vector : Type 0 where
  pub x : ℤ
  pub y : ℤ
  pub z : ℤ

-- an accumulator: the mass seen, and the force so far
pub record Acc3Value : Type 0 where
  pub seen : ℕ
  pub ax : ℤ
  pub ay : ℤ
  pub az : ℤ

-- numbers for each two axes, in whatever order
pub record Products : Type 0 where
  pub xx : ℤ
  pub yy : ℤ
  pub zz : ℤ
  pub xy : ℤ
  pub xz : ℤ
  pub yz : ℤ

-- where a body is
abbrev pub place : BodyValue → Point
place b = record { x = b.x; y = b.y; z = b.z }

-- a cell by its numbers: key, count and mass, then the three sums and the six
abbrev pub cell_of : ℕ → ℕ → ℕ → ℕ → ℕ → ℕ → ℕ → ℕ → ℕ → ℕ → ℕ → ℕ → CellValue
cell_of key count mass sx sy sz sxx syy szz sxy sxz syz =
    record { key = key; count = count; mass = mass; sx = sx; sy = sy; sz = sz; sxx = sxx; syy = syy; szz = szz; sxy = sxy; sxz = sxz; syz = syz }

-- the same with the sums as lists: x, y, z, and xx, yy, zz, xy, xz, yz
abbrev pub cell_by : ℕ → ℕ → ℕ → List ℕ → List ℕ → CellValue
cell_by key count mass s q =
    cell_of key count mass (slice_index s 0) (slice_index s 1) (slice_index s 2)
    (slice_index q 0) (slice_index q 1) (slice_index q 2) (slice_index q 3) (slice_index q 4) (slice_index q 5)

-- the three components of a vector
abbrev pub components : Vector → List ℤ
components v = v.x ∷ v.y ∷ v.z ∷ []

-- the three coordinates of a place
abbrev pub coordinates : Point → List ℕ
coordinates p = p.x ∷ p.y ∷ p.z ∷ []

-- an array of three as a place
abbrev pub point_at : List ℕ → Point
point_at p = record { x = slice_index p 0; y = slice_index p 1; z = slice_index p 2 }

-- an array of three as a vector
abbrev pub vector_at : List ℤ → Vector
vector_at v = record { x = slice_index_or v 0 (pos 0); y = slice_index_or v 1 (pos 0); z = slice_index_or v 2 (pos 0) }
