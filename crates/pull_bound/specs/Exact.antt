-- The exact pull. Its size along an axis, in printed units, is the number E >= 0 with E^2 * r2^3 = (m * d)^2 * 2^80, for the
-- mass m, the distance d along the axis and the softened squared distance r2 (Newton, softened after Plummer).
use Rattle.std.specs.Prelude.{ℕ, ◌*◌, ◌+◌, ◌^◌, ◌<◌, ◌≤◌, ◌≡◌, ◌↔◌, ℤ, pos, ◌≤ℤ◌}
use Rattle.hot_units.specs.Values.{Point, Vector}
use Rattle.hot_units.specs.declared.cube.Axis.{Axis}
use Rattle.hot_units.specs.declared.cube.Axis.TheVariants as axes
use Rattle.hot_model.specs.Kernel.{square, apart, soft2}
use Rattle.fixed_kernel.specs.Softened.{scaled_root}

-- a coordinate of a place
abbrev pub along : Axis → Point → ℕ
along axes.X p = p.x
along axes.Y p = p.y
along axes.Z p = p.z

-- a component of a vector
abbrev pub component : Axis → Vector → ℤ
component axes.X v = v.x
component axes.Y v = v.y
component axes.Z v = v.z

-- a mass as it is felt along an axis: how far off it is along the axis, and the softened squared distance
pub record Source : Type 0 where
  pub mass : ℕ
  pub gap : ℕ
  pub soft : ℕ

-- what the mass m at the place c is for the place p
abbrev pub source : ℕ → Axis → Point → Point → ℕ → Source
source eps a p c m = record { mass = m; gap = apart (along a p) (along a c); soft = soft2 eps p c }

-- n^2 * r2^3, which is compared with that of the exact size
abbrev pub measured : Source → ℕ → ℕ
measured s n = square n * (s.soft * s.soft * s.soft)

-- E^2 * r2^3 of the exact size E
abbrev pub exact : Source → ℕ
exact s = square (s.mass * s.gap) * 2 ^ 80

-- n is at most the exact size, both in units of 1/q of a printed unit
abbrev pub IsAtMost : ℕ → Source → ℕ → Type 0
IsAtMost q s n = measured s n ≤ square q * exact s

-- n is at least the exact size
abbrev pub IsAtLeast : ℕ → Source → ℕ → Type 0
IsAtLeast q s n = square q * exact s ≤ measured s n

-- how near a printed size is to the exact one
pub record IsNear (s : Source) (size : ℕ) : Type 0 where
  -- less than one unit is missing
  pub lacks : exact s < measured s (size + 1)
  -- one part in so many as the scaled root says is too much, at most
  pub exceeds : measured s (size * scaled_root s.soft) ≤ exact s * square (scaled_root s.soft + 1)
  -- it is 0 exactly where the quotient is below 1
  pub none : (size ≡ 0) ↔ (s.mass * s.gap * 2 ^ 50 < s.soft * scaled_root s.soft)

-- it points from the coordinate p to the coordinate c
pub record Points (p c : ℕ) (n : ℤ) : Type 0 where
  pub up : p ≤ c → pos 0 ≤ℤ n
  pub down : c ≤ p → n ≤ℤ pos 0
