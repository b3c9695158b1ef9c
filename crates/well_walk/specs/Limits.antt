-- The limits of what is summed over all bodies, each by its name. Proofs cite the name and not the number.
use Rattle.std.specs.Prelude.{ℕ, ◌*◌, ◌^◌}
use Rattle.hot_units.specs.Limits.{max_all_mass}

-- the deepest that a body of all mass may lie
abbrev pub max_well : ℕ
max_well = max_all_mass * 2 ^ 40

-- the largest size of a component of a velocity
abbrev pub max_velocity : ℕ
max_velocity = 2 ^ 42

-- the largest square of a speed
abbrev pub max_speed2 : ℕ
max_speed2 = 3 * 2 ^ 84
