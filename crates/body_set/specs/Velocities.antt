-- Velocities of rows, of which the last ones may be left out where they are 0.
use Rattle.std.specs.Prelude.{ℕ, ◌-◌, pos, List, ◌++◌, length, replicate}
use Rattle.hot_units.specs.Values.{Vector}

-- the velocity that is 0 on each axis
abbrev pub no_velocity : Vector
no_velocity = record { x = pos 0; y = pos 0; z = pos 0 }

-- the velocities of so many rows: those that are listed, and 0 for the others
abbrev pub padded : ℕ → List Vector → List Vector
padded count listed = listed ++ replicate (count - length listed) no_velocity
