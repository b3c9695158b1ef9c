-- The body keys of a cell: from its first to its last.
use Rattle.std.specs.Prelude.{ℕ, zero, suc, ◌≡◌, ◌+◌, ◌*◌, ◌^◌, ◌<◌, ◌≤◌, true, ltb, List, count_by}
use Rattle.hot_units.specs.Limits.{fine_bits, max_level}
use Rattle.hot_units.specs.Values.{BodyValue, Point}
use Rattle.hot_units.specs.Keys.{HasLevel, covers, height, place_key, key_of_body}

-- the key of a body: 1, and then 21 digits
abbrev pub IsBodyKey : ℕ → Type 0
IsBodyKey k = HasLevel k max_level

-- the place is in the cube and has this key
pub record IsPlaceOf (k : ℕ) (p : Point) : Type 0 where
  pub x_in : p.x < 2 ^ fine_bits
  pub y_in : p.y < 2 ^ fine_bits
  pub z_in : p.z < 2 ^ fine_bits
  pub key : place_key p.x p.y p.z ≡ k

-- the number c with n more digits behind it, each of them d
unfoldable pub followed_by : ℕ → ℕ → ℕ → ℕ
followed_by c zero d = c
followed_by c (suc n) d = 8 * followed_by c n d + d

-- the digits of the cell, with zeros behind them
abbrev pub first_key : ℕ → ℕ
first_key c = followed_by c (height c) 0

-- the digits of the cell, with sevens behind them
abbrev pub last_key : ℕ → ℕ
last_key c = followed_by c (height c) 7

-- a body key in the cell, and none there is smaller
pub record IsLeastIn (c k : ℕ) : Type 0 where
  pub body : IsBodyKey k
  pub within : covers c k ≡ true
  pub least : (j : ℕ) → IsBodyKey j → covers c j ≡ true → k ≤ j

-- a body key in the cell, and none there is greater
pub record IsGreatestIn (c k : ℕ) : Type 0 where
  pub body : IsBodyKey k
  pub within : covers c k ≡ true
  pub greatest : (j : ℕ) → IsBodyKey j → covers c j ≡ true → j ≤ k

-- how many bodies have a key below k
abbrev pub count_below : ℕ → List BodyValue → ℕ
count_below k bodies = count_by (λ b. ltb (key_of_body b) k) bodies
