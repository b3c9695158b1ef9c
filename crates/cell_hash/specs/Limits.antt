-- The limits of a table, each by its name. Proofs cite the name and not the number.
use Rattle.std.specs.Prelude.{ℕ}

-- at least so many low bits of a key choose its bucket
abbrev pub min_bits : ℕ
min_bits = 4

-- at most so many low bits of a key choose its bucket
abbrev pub max_bits : ℕ
max_bits = 24
