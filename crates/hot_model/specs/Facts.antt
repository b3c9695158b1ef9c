-- What every cell record keeps.
use Rattle.std.specs.Prelude.{ℕ, ◌+◌, ◌*◌, ◌≤◌}
use Rattle.hot_units.specs.Limits.{max_all_mass}
use Rattle.hot_units.specs.Values.{CellValue}
use Rattle.hot_units.specs.Keys.{IsCell, corner, extent}

-- a sum of mass times a coordinate from k to k + w
pub record IsFirstSum (mass k w s : ℕ) : Type 0 where
  pub low : mass * k ≤ s
  pub high : s ≤ mass * (k + w)

-- a sum q of mass times two coordinates, from k and from l on, whose own sums are s and t: the sum of mass times both
-- offsets, q - k * t - l * s + mass * k * l, is 0 to mass * w^2
pub record IsSecondSum (mass k l w s t q : ℕ) : Type 0 where
  pub low : k * t + l * s ≤ q + mass * (k * l)
  pub high : q + mass * (k * l) ≤ k * t + l * s + mass * (w * w)

-- the facts of a cell record: a record of bodies in the cell has them, and its centre lies in the cell
pub record IsCellRecord (c : CellValue) : Type 0 where
  pub cell : IsCell c.key
  pub counted : c.count ≤ c.mass
  pub light : c.mass ≤ max_all_mass
  pub weighs : 1 ≤ c.mass → 1 ≤ c.count
  pub x_in : IsFirstSum c.mass (corner c.key).x (extent c.key) c.sx
  pub y_in : IsFirstSum c.mass (corner c.key).y (extent c.key) c.sy
  pub z_in : IsFirstSum c.mass (corner c.key).z (extent c.key) c.sz
  pub xx_in : IsSecondSum c.mass (corner c.key).x (corner c.key).x (extent c.key) c.sx c.sx c.sxx
  pub yy_in : IsSecondSum c.mass (corner c.key).y (corner c.key).y (extent c.key) c.sy c.sy c.syy
  pub zz_in : IsSecondSum c.mass (corner c.key).z (corner c.key).z (extent c.key) c.sz c.sz c.szz
  pub xy_in : IsSecondSum c.mass (corner c.key).x (corner c.key).y (extent c.key) c.sx c.sy c.sxy
  pub xz_in : IsSecondSum c.mass (corner c.key).x (corner c.key).z (extent c.key) c.sx c.sz c.sxz
  pub yz_in : IsSecondSum c.mass (corner c.key).y (corner c.key).z (extent c.key) c.sy c.sz c.syz
