-- The visit of gravity as contracts see it.
use Rattle.std.specs.Prelude.{ℕ, Bool}
use Rattle.hot_units.specs.Values.{BodyValue, Acc3Value}
use Rattle.hot_model.specs.Trees.{Term}
use Rattle.hot_model.specs.Forces.{gravity_adds}
use Rattle.fixed_kernel.specs.Ratio.{RatioValue}

-- the opening ratio and the softening of a visit, and whether cells act with their second moments
pub record VisitValue : Type 0 where
  pub ratio : RatioValue
  pub eps : ℕ
  pub second : Bool

-- a visit by its settings
abbrev pub visit_of : RatioValue → ℕ → Bool → VisitValue
visit_of ratio eps second = record { ratio = ratio; eps = eps; second = second }

-- an accumulator after a term by a visit
abbrev pub after_term : VisitValue → BodyValue → Acc3Value → Term → Acc3Value
after_term v b a t = gravity_adds v.second v.eps b a t
