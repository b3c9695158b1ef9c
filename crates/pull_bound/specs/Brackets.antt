-- Brackets that are one apart.
use Rattle.std.specs.Prelude.{ℕ, ◌*◌, ◌+◌, ◌/◌, ◌≤◌, List}
use Rattle.hot_units.specs.Values.{BodyValue}
use Rattle.hot_units.specs.declared.cube.Axis.{Axis}
use Rattle.hot_model.specs.Kernel.{square, root}
use Rattle.pull_bound.specs.Exact.{Source, exact}
use Rattle.pull_bound.specs.Sums.{felt, Brackets}

-- the exact size in units of 1/q, rounded down
abbrev pub rounded : ℕ → Source → ℕ
rounded q s = root (square q * exact s / (s.soft * s.soft * s.soft))

-- each exact pull is from its whole number of units of 1/q to the next one
abbrev pub BracketsAreNarrow : Type 0
BracketsAreNarrow =
    (q eps : ℕ) (a : Axis) (b : BodyValue) (bodies : List BodyValue)
    → 1 ≤ eps
    → Brackets q eps a b (λ o. rounded q (felt eps a b o)) (λ o. rounded q (felt eps a b o) + 1) bodies
