-- The visit of depths as contracts see it.
use Rattle.std.specs.Prelude.{ℕ}
use Rattle.fixed_kernel.specs.Ratio.{RatioValue}

-- the opening ratio and the softening of a visit
pub record VisitValue : Type 0 where
  pub ratio : RatioValue
  pub eps : ℕ

-- a visit by its settings
abbrev pub visit_of : RatioValue → ℕ → VisitValue
visit_of ratio eps = record { ratio = ratio; eps = eps }
