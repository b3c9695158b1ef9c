use Rattle.std.proofs.Common.{◌≡◌, ◌<◌, ◌-◌, ◌^◌, ◌⊎◌}
use Rattle.cell_hash.specs.Limits.{min_bits}
use Rattle.defer_walk.proofs.asks.bits_for.Given as goal

abbrev pub invariant-loop-bits : goal.invariant-loop-bits
invariant-loop-bits l = (l.bits ≡ min_bits) ⊎ (2 ^ (l.bits - 1) < l.bodies)
