-- What a header says of the rows behind it.
use Rattle.std.specs.Prelude.{ℕ, ◌≤◌, Option}
use Rattle.hot_units.specs.Limits.{max_row_bytes}
use Rattle.hot_units.specs.Values.{CubeValue}
use Rattle.sdf_header.specs.declared.layout.Order.{Order}
use Rattle.sdf_header.specs.declared.layout.Col.{Col}
use Rattle.sdf_header.specs.Types.{Fits, FitsIfThere}

-- the header's bytes, a row's bytes, the stated rows, the order of bytes, the cube, the mass of a body
-- where no column gives it, and the columns that are used
pub record LayoutValue : Type 0 where
  pub header_len : ℕ
  pub width : ℕ
  pub count : Option ℕ
  pub order : Order
  pub cube : CubeValue
  pub mass_default : ℕ
  pub x : Col
  pub y : Col
  pub z : Col
  pub mass : Option Col
  pub ident : Option Col
  pub work : Option Col
  pub vx : Option Col
  pub vy : Option Col
  pub vz : Option Col

-- a row has 1 to 1,024 bytes, and each column lies in it
pub record IsLayout (l : LayoutValue) : Type 0 where
  pub some_bytes : 1 ≤ l.width
  pub narrow : l.width ≤ max_row_bytes
  pub x_fits : Fits l.width l.x
  pub y_fits : Fits l.width l.y
  pub z_fits : Fits l.width l.z
  pub mass_fits : FitsIfThere l.width l.mass
  pub ident_fits : FitsIfThere l.width l.ident
  pub work_fits : FitsIfThere l.width l.work
  pub vx_fits : FitsIfThere l.width l.vx
  pub vy_fits : FitsIfThere l.width l.vy
  pub vz_fits : FitsIfThere l.width l.vz
