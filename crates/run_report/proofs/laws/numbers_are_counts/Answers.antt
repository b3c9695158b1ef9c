use Rattle.std.proofs.Common.{inl, inr}
use Rattle.hot_units.proofs.Sorts.{ascends_strict}
use Rattle.rank_model.specs.Needs.{needed}
use Rattle.rank_model.proofs.Counts.{needed-are, needed_ascend}
use Rattle.split_table.proofs.AllBranches.{branch_in_cells, cell_is_branch}
use Rattle.run_report.proofs.CellsInPlay.{met_are, met_ascend}
use Rattle.run_report.proofs.Openings.{opens_once}
use Rattle.run_report.proofs.laws.numbers_are_counts.Goals as goal

-- in a good world each number of a report counts what it is called
pub returns : goal.returns
returns c = record {
  law = λ opens w g. record {
    opened_once = λ b k. opens_once (opens b) w k;
    asks_once = λ q. ascends_strict (needed opens w q) (needed_ascend opens w q g);
    asks = needed-are opens w;
    cells_once = met_ascend opens w g;
    cells = λ k. (
      (λ m. elim ((met_are opens w k).0 m) [ inl o ↦ inl o | inr b ↦ inr (cell_is_branch w k b) ]),
      (λ h. (met_are opens w k).1 (elim h [ inl o ↦ inl o | inr b ↦ inr (branch_in_cells w b.0 k g b.1) ])),
    );
  };
}
