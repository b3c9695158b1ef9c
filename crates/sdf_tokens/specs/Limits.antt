-- The limit of texts in a header. All other limits stand in hot_units and sdf_header.
use Rattle.std.specs.Prelude.{ℕ}

-- the longest text between quotes, in bytes
abbrev pub max_text_bytes : ℕ
max_text_bytes = 4096
