-- Pulls and directions at a softened squared distance.
use Rattle.std.specs.Prelude.{ℕ, ◌*◌, ◌^◌, ℤ, List}
use Rattle.hot_units.specs.Values.{Point, components}
use Rattle.hot_model.specs.Kernel.{root, pull_over}
use Rattle.hot_model.specs.Second.{heading}

-- the root of a softened squared distance, in units of 2^-10
abbrev pub scaled_root : ℕ → ℕ
scaled_root soft = root (soft * 2 ^ 20)

-- the divisor of a pull
abbrev pub divisor_of : ℕ → ℕ
divisor_of soft = soft * scaled_root soft

-- the components of the pull of a mass
abbrev pub softened_pull : ℕ → Point → Point → ℕ → List ℤ
softened_pull soft p c mass = components (pull_over (divisor_of soft) p c mass)

-- the components of the direction from a place to another
abbrev pub softened_heading : ℕ → Point → Point → List ℤ
softened_heading soft p c = components (heading (scaled_root soft) p c)

-- a place by its coordinates
abbrev pub point : ℕ → ℕ → ℕ → Point
point x y z = record { x = x; y = y; z = z }
