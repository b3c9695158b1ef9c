-- What a row gives, and what may be wrong with it.
use Rattle.std.specs.Prelude.{ℕ, ◌+◌, ◌*◌, ◌-◌, ◌^◌, ℤ, pos, ◌+ℤ◌, ◌-ℤ◌, nat_abs, int_lt, int_le, Bool, ◌&&◌, if◌then◌else◌, nat_lt, nat_le, List, [], ◌∷◌, ◌++◌, length, Option, Some, None, slice_get}
use Rattle.hot_units.specs.Limits.{fine_bits, max_bodies, max_body_mass, max_all_mass, max_work}
use Rattle.hot_units.specs.Values.{BodyValue, CubeValue, Vector}
use Rattle.hot_units.specs.Bodies.{mass_of}
use Rattle.hot_units.specs.declared.cube.Axis.TheVariants.{X, Y, Z}
use Rattle.hot_units.specs.declared.raw_row.RawRow.{RawRow}
use Rattle.body_set.specs.declared.fault.PushError.{PushError}
use Rattle.body_set.specs.declared.fault.PushError.TheVariants.{TooMany, Outside, MassRange, WorkRange, MassSum}

-- the number is one of those from the first to the last
abbrev pub is_between : ℤ → ℤ → ℤ → Bool
is_between first last n = int_le first n && int_le n last

-- the coordinate is in the cube: at most 2^bits - 1 above the corner
abbrev pub is_inside : ℕ → ℤ → ℤ → Bool
is_inside bits corner n = int_le corner n && int_lt n (corner +ℤ pos (2 ^ bits))

-- a coordinate of the file in fine units
abbrev pub fine : ℕ → ℤ → ℤ → ℕ
fine bits corner n = nat_abs (n -ℤ corner) * 2 ^ (fine_bits - bits)

-- the body that row k gives
abbrev pub body_of_row : CubeValue → ℕ → RawRow → BodyValue
body_of_row cube k raw = record {
  x = fine cube.bits cube.x0 raw.x;
  y = fine cube.bits cube.y0 raw.y;
  z = fine cube.bits cube.z0 raw.z;
  mass = nat_abs raw.mass;
  row = k;
}

-- the work weight that a row gives
abbrev pub weight_of_row : RawRow → ℕ
weight_of_row raw = nat_abs raw.work

-- the number of a column, or 0 where there is none
abbrev pub or_zero : Option ℤ → ℤ
or_zero None = pos 0
or_zero (Some z) = z

-- the velocity that a row gives: 0 on each axis for which its file has no column
abbrev pub velocity_of_row : RawRow → Vector
velocity_of_row raw = record { x = or_zero raw.vx; y = or_zero raw.vy; z = or_zero raw.vz }

-- the fault, where the test fails
abbrev pub unless : Bool → PushError → List PushError
unless good fault = if good then [] else fault ∷ []

-- all that is wrong with row k, where the rows before have this mass, by rank: too many rows, the place on x, y and z, the
-- mass, the work, the mass with that of the rows before
abbrev pub faults_after : CubeValue → ℕ → ℕ → RawRow → List PushError
faults_after cube k mass raw =
    unless (nat_lt k max_bodies) TooMany
    ++ unless (is_inside cube.bits cube.x0 raw.x) (Outside k X)
    ++ unless (is_inside cube.bits cube.y0 raw.y) (Outside k Y)
    ++ unless (is_inside cube.bits cube.z0 raw.z) (Outside k Z)
    ++ unless (is_between (pos 1) (pos max_body_mass) raw.mass) (MassRange k)
    ++ unless (is_between (pos 0) (pos max_work) raw.work) (WorkRange k)
    ++ unless (nat_le (mass + nat_abs raw.mass) max_all_mass) (MassSum k)

-- all that is wrong with a row behind these bodies: its number is how many there are
abbrev pub faults : CubeValue → List BodyValue → RawRow → List PushError
faults cube before raw = faults_after cube (length before) (mass_of before) raw

-- what row k is refused for, where the rows before have this mass: the first that is wrong with it
abbrev pub first_after : CubeValue → ℕ → ℕ → RawRow → Option PushError
first_after cube k mass raw = slice_get (faults_after cube k mass raw) 0

-- what a row behind these bodies is refused for: the first that is wrong with it
abbrev pub first_fault : CubeValue → List BodyValue → RawRow → Option PushError
first_fault cube before raw = slice_get (faults cube before raw) 0
