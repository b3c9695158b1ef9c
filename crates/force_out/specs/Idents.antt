-- The numbers by which a file names its bodies.
use Rattle.std.specs.Prelude.{◌-◌, ◌^◌, ℤ, pos, negsuc, ◌≤ℤ◌}

-- an ident is at least -2^63 and below 2^64
abbrev pub IsIdent : ℤ → Type 0
IsIdent n = (negsuc (2 ^ 63 - 1) ≤ℤ n) × (n ≤ℤ pos (2 ^ 64 - 1))
