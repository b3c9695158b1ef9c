-- The sums over all bodies: of mass times depth, and of mass times the square of the speed.
use Rattle.std.specs.Prelude.{ℕ, ◌+◌, ◌*◌, nat_abs, List, map, sum_by}
use Rattle.hot_units.specs.Values.{BodyValue, Vector}
use Rattle.hot_model.specs.Kernel.{square}
use Rattle.hot_model.specs.Trees.{Settings}
use Rattle.well_walk.specs.Wells.{potential}

-- what counts of a body: its mass, how deep it lies, and its velocity
pub record Share : Type 0 where
  pub mass : ℕ
  pub well : ℕ
  pub velocity : Vector

-- a share by its numbers
abbrev pub share_of : ℕ → ℕ → Vector → Share
share_of mass well velocity = record { mass = mass; well = well; velocity = velocity }

-- the square of the speed
abbrev pub speed2 : Vector → ℕ
speed2 v = square (nat_abs v.x) + square (nat_abs v.y) + square (nat_abs v.z)

-- three sums over a list of bodies
pub record SumsValue : Type 0 where
  pub mass : ℕ
  pub well : ℕ
  pub speed : ℕ

-- the sum of the masses
abbrev pub mass_sum : List Share → ℕ
mass_sum shares = sum_by (λ s. s.mass) shares

-- the sum of mass times depth
abbrev pub well_sum : List Share → ℕ
well_sum shares = sum_by (λ s. s.mass * s.well) shares

-- the sum of mass times the square of the speed
abbrev pub speed_sum : List Share → ℕ
speed_sum shares = sum_by (λ s. s.mass * speed2 s.velocity) shares

-- the three sums of a list
abbrev pub sums_of : List Share → SumsValue
sums_of shares = record { mass = mass_sum shares; well = well_sum shares; speed = speed_sum shares }

-- three sums with one more body
abbrev pub sums_with : SumsValue → Share → SumsValue
sums_with t s = record { mass = t.mass + s.mass; well = t.well + s.mass * s.well; speed = t.speed + s.mass * speed2 s.velocity }

-- a body on its way
pub record Mover : Type 0 where
  pub body : BodyValue
  pub velocity : Vector

-- the bodies alone
abbrev pub bodies_of : List Mover → List BodyValue
bodies_of movers = map (λ m. m.body) movers

-- what counts of each body among all
abbrev pub shares_of : Settings → List Mover → List Share
shares_of s movers = map (λ m. share_of m.body.mass (potential s (bodies_of movers) m.body) m.velocity) movers

-- the potential sum: of mass times potential, over all bodies
abbrev pub total_well : Settings → List BodyValue → ℕ
total_well s bodies = sum_by (λ b. b.mass * potential s bodies b) bodies

-- the kinetic sum: of mass times the square of the speed, over all bodies
abbrev pub total_speed : List Mover → ℕ
total_speed movers = sum_by (λ m. m.body.mass * speed2 m.velocity) movers
