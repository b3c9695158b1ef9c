-- The opening ratio as contracts see it.
use Rattle.std.specs.Prelude.{ℕ, ◌*◌, ◌/◌, ◌^◌, cond, eqb}

-- the two numbers of a ratio, as they were given
pub record RatioValue : Type 0 where
  pub num : ℕ
  pub den : ℕ

-- the squared distance that a cell of the side 2^29 is accepted beyond; it is past every distance at the ratio 0
unfoldable pub reach_of : ℕ → ℕ → ℕ
reach_of num den = cond (eqb num 0) (2 ^ 104) (den * den * 2 ^ 58 / (num * num))
