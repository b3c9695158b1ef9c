use Rattle.std.proofs.Common.{◌≡◌, ◌/◌, ◌-◌, ◌^◌}
use Rattle.hot_units.specs.Keys.{bits_along}
use Rattle.morton_key.proofs.boxes.bits_along.Given as goal

-- the bits so far are those of the digits that are done, from the first on
abbrev pub invariant-loop-done : goal.invariant-loop-done
invariant-loop-done l = l.bits ≡ bits_along l.done (l.key / 8 ^ (l.digits - l.done)) l.axis
