-- Bounds that a pull lies between.
use Rattle.std.specs.Prelude.{ℕ, ◌*◌, ◌^◌, ◌≤◌, ◌<◌}

-- the pull over a distance of 1, times a power of two, is between two numbers
abbrev pub IsBetween : ℕ → ℕ → ℕ → ℕ → ℕ → Type 0
IsBetween low high shift mass by =
    (low * by ≤ mass * 2 ^ 50 * 2 ^ shift)
    × (mass * 2 ^ 50 * 2 ^ shift ≤ high * by)
    × (low < 2 ^ 34)
    × (high < 2 ^ 35)
    × (0 < shift)
    × (shift < 64)
