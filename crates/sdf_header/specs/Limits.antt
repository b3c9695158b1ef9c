-- The limit of arrays in a header. All other limits stand in hot_units and sdf_tokens.
use Rattle.std.specs.Prelude.{ℕ}

-- the longest array column
abbrev pub max_array_length : ℕ
max_array_length = 1024
