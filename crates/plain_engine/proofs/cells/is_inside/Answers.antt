use Rattle.std.proofs.Common.{ℕ, sym, subst}
use Rattle.hot_units.specs.Keys.{IsCell}
use Rattle.hot_units.proofs.Digits.{key_is_cell}
use Rattle.plain_engine.proofs.cells.is_inside.Goals as goal

-- the key of a body is a cell key
pub covers-requires-clause-key : goal.covers-requires-clause-key
covers-requires-clause-key c =
    subst (λ (k : ℕ). IsCell k) (sym c.b.invariant.5) (key_is_cell c.b.inside.x c.b.inside.y c.b.inside.z)
