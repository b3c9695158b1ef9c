-- The generator of draws.
use Rattle.std.specs.Prelude.{ℕ, ◌+◌, ◌*◌, ◌/◌, ◌%◌, ◌^◌}

-- the state after one draw
abbrev pub next_state : ℕ → ℕ
next_state s = (s * 6364136223846793005 + 1442695040888963407) % 2 ^ 64

-- the number that a draw gives: the top 21 bits of the state after it
abbrev pub drawn : ℕ → ℕ
drawn s = next_state s / 2 ^ 43
