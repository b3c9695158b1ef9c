use Rattle.std.proofs.Common.{ℕ, ◌≡◌, ◌<◌, length, get_or}
use Rattle.branch_merge.specs.declared.top_cell.TopCell.{TopCell}
use Rattle.branch_merge.specs.Tops.{IsTopCell}
use Rattle.branch_merge.proofs.top_cell.top_cells.Given as goal

abbrev pub invariant-loop-key : goal.invariant-loop-key
invariant-loop-key l = record {
  size : length l.cells.items ≡ l.key-index;
  each : (i : ℕ) (d : TopCell) → i < l.key-index → IsTopCell l.listed (get_or l.key-items i 0) (get_or l.cells.items i d);
}
