use Rattle.std.proofs.Common.{◌≡◌, ◌++◌, take}
use Rattle.run_report.proofs.CellsInPlay.{branch_keys}
use Rattle.run_report.proofs.cells.cells_in_play.Given as goal

-- the keys are those of the opened cells, and behind them those of the branches so far
abbrev pub invariant-loop-branch : goal.invariant-loop-branch
invariant-loop-branch l = l.keys.items ≡ l.opened ++ branch_keys (take l.branch-index l.branches)
