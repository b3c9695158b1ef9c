-- What contracts see of a split.
use Rattle.std.specs.Prelude.{ℕ, List}

-- where the pieces start, with the end of the last behind them, and their weights
pub record PiecesValue : Type 0 where
  pub starts : List ℕ
  pub weights : List ℕ
