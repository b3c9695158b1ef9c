-- Bits set apart, as a coordinate has them in a key: two bits of the other axes stand between them.
use Rattle.std.specs.Prelude.{ℕ, zero, suc, ◌+◌, ◌*◌, ◌^◌}
use Rattle.hot_units.specs.Keys.{bit}

-- the lowest k bits of n set apart: bit j of n is bit 3 * j, and all other bits are 0
unfoldable pub spread : ℕ → ℕ → ℕ
spread zero n = 0
spread (suc k) n = spread k n + bit n k * 2 ^ (3 * k)
