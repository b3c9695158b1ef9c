-- What a sink in memory holds.
use Rattle.std.specs.Prelude.{ℕ, List}

-- a sink in memory, as its callers see it
pub record MemPage : Type 0 where
  pub bytes : List ℕ  -- the bytes written
  pub chunk : ℕ  -- the most bytes that a write takes
  pub room : ℕ  -- the most bytes that it takes in all
  pub faults : ℕ
