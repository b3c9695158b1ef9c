-- The limits of a visit, each by its name. Proofs cite the name and not the number.
use Rattle.std.specs.Prelude.{ℕ, ◌^◌}

-- the largest radius, in fine units: it reaches from every place of the cube to every other
abbrev pub max_radius : ℕ
max_radius = 2 ^ 30
