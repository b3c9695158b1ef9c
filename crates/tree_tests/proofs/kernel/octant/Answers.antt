use Rattle.std.proofs.Common.{ℕ, sym, subst}
use Rattle.hot_units.specs.Keys.{IsCell}
use Rattle.hot_units.proofs.Digits.{key_is_cell}
use Rattle.tree_tests.proofs.kernel.octant.Goals as goal

pub covers-requires-clause-key : goal.covers-requires-clause-key
covers-requires-clause-key c =
    subst (λ (k : ℕ). IsCell k) (sym c.at.invariant.5) (key_is_cell c.at.inside.x c.at.inside.y c.at.inside.z)
