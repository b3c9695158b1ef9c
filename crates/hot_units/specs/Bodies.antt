-- Bodies within their limits, and lists of them: their mass and their rows.
use Rattle.std.specs.Prelude.{ℕ, ◌<◌, ◌≤◌, ◌^◌, List, length, sum_by, ◌≡◌, get_or}
use Rattle.hot_units.specs.Limits.{fine_bits, max_body_mass}
use Rattle.hot_units.specs.Values.{BodyValue}

-- a body in the cube with a mass
pub record IsBody (b : BodyValue) : Type 0 where
  pub x_in : b.x < 2 ^ fine_bits
  pub y_in : b.y < 2 ^ fine_bits
  pub z_in : b.z < 2 ^ fine_bits
  pub weighs : 1 ≤ b.mass
  pub light : b.mass ≤ max_body_mass

-- the mass of one body
abbrev pub mass_of_body : BodyValue → ℕ
mass_of_body b = b.mass

-- the mass of a list of bodies
abbrev pub mass_of : List BodyValue → ℕ
mass_of xs = sum_by mass_of_body xs

-- no two bodies have the same row
abbrev pub RowsDiffer : List BodyValue → Type 0
RowsDiffer bodies = (i j : ℕ) (d : BodyValue) → i < length bodies → j < length bodies → (get_or bodies i d).row ≡ (get_or bodies j d).row → i ≡ j

-- each body has its place in the list as its row
abbrev pub RowsCount : List BodyValue → Type 0
RowsCount bodies = (i : ℕ) (d : BodyValue) → i < length bodies → (get_or bodies i d).row ≡ i
