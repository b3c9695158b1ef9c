-- Keys: 1 followed by octal digits; parents, children and fronts.
use Rattle.std.specs.Prelude.{ℕ, zero, suc, ◌+◌, ◌-◌, ◌*◌, ◌/◌, ◌%◌, ◌^◌, ◌<◌, ◌≤◌, Bool, cond, eqb, leb, ◌&&◌, List, [], ◌∷◌}
use Rattle.hot_units.specs.Limits.{fine_bits, max_level}
use Rattle.hot_units.specs.Values.{BodyValue, Point}

-- bit k of n
abbrev pub bit : ℕ → ℕ → ℕ
bit n k = n / 2 ^ k % 2

-- the digit at level l of the place x, y, z
abbrev pub digit : ℕ → ℕ → ℕ → ℕ → ℕ
digit x y z l = 4 * bit x (fine_bits - l) + 2 * bit y (fine_bits - l) + bit z (fine_bits - l)

-- 1 followed by the digits of the levels 1 to l
unfoldable pub key_to : ℕ → ℕ → ℕ → ℕ → ℕ
key_to zero x y z = 1
key_to (suc l) x y z = 8 * key_to l x y z + digit x y z (suc l)

-- the key of a place: 1 followed by 21 digits
abbrev pub place_key : ℕ → ℕ → ℕ → ℕ
place_key x y z = key_to max_level x y z

-- the key of a body
abbrev pub key_of_body : BodyValue → ℕ
key_of_body b = place_key b.x b.y b.z

-- 1 followed by l octal digits
abbrev pub HasLevel : ℕ → ℕ → Type 0
HasLevel k l = (8 ^ l ≤ k) × (k < 2 * 8 ^ l)

-- 1 followed by 0 to 21 octal digits
abbrev pub IsCell : ℕ → Type 0
IsCell k = (l : ℕ) × (l ≤ max_level) × HasLevel k l

-- how many of the levels 1 to n the number k reaches
unfoldable pub levels_to : ℕ → ℕ → ℕ
levels_to zero k = 0
levels_to (suc n) k = levels_to n k + cond (leb (8 ^ suc n) k) 1 0

-- the number of digits behind the leading 1
abbrev pub level : ℕ → ℕ
level k = levels_to max_level k

-- the key begins with the digits of the cell
abbrev pub covers : ℕ → ℕ → Bool
covers c k = leb (level c) (level k) && eqb (k / 8 ^ (level k - level c)) c

-- the body's key begins with the digits of the cell
abbrev pub contains : ℕ → BodyValue → Bool
contains c b = covers c (key_of_body b)

-- the side of a cell in fine units
abbrev pub side : ℕ → ℕ
side c = 2 ^ (fine_bits - level c)

-- the number of levels below a cell
abbrev pub height : ℕ → ℕ
height c = max_level - level c

-- one bit of each of the last l digits of a key: bit 2 is that of x, bit 1 that of y, bit 0 that of z
unfoldable pub bits_along : ℕ → ℕ → ℕ → ℕ
bits_along zero k axis = 0
bits_along (suc l) k axis = 2 * bits_along l (k / 8) axis + bit k axis

-- the least coordinate in a cell along an axis
abbrev pub corner_along : ℕ → ℕ → ℕ
corner_along c axis = side c * bits_along (level c) c axis

-- the least fine coordinates in a cell
abbrev pub corner : ℕ → Point
corner c = record { x = corner_along c 2; y = corner_along c 1; z = corner_along c 0 }

-- how far a place in a cell is from the corner at most, on each axis
abbrev pub extent : ℕ → ℕ
extent c = side c - 1

-- a place in the box of a cell: on each axis from the corner on, and below the corner plus the side
pub record IsInBox (c : ℕ) (p : Point) : Type 0 where
  pub x_from : (corner c).x ≤ p.x
  pub y_from : (corner c).y ≤ p.y
  pub z_from : (corner c).z ≤ p.z
  pub x_to : p.x < (corner c).x + side c
  pub y_to : p.y < (corner c).y + side c
  pub z_to : p.z < (corner c).z + side c

-- the eight digits
abbrev pub digits : List ℕ
digits = 0 ∷ 1 ∷ 2 ∷ 3 ∷ 4 ∷ 5 ∷ 6 ∷ 7 ∷ []

-- the child of a cell by its digit
abbrev pub child : ℕ → ℕ → ℕ
child c d = 8 * c + d

-- the cell one level above
abbrev pub parent : ℕ → ℕ
parent c = c / 8

-- the first l digits of a body's key: the cell of level l that has the body
abbrev pub front : ℕ → ℕ → ℕ
front l k = k / 8 ^ (max_level - l)
