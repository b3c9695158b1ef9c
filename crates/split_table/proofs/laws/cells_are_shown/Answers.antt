use Rattle.hot_units.proofs.Sorts.{ascends_filter, ascends_strict}
use Rattle.hot_model.specs.Cells.{cells}
use Rattle.hot_model.proofs.Cells.{cells_ascend}
use Rattle.rank_model.specs.World.{bodies_in}
use Rattle.rank_model.specs.Branches.{tops}
use Rattle.rank_model.specs.Needs.{is_listed}
use Rattle.rank_model.proofs.Owners.{first_of_own}
use Rattle.rank_model.proofs.Counts.{tops-are, tops_ascend}
use Rattle.split_table.specs.Table.{branch_cells}
use Rattle.split_table.proofs.AllBranches.{branch_in_cells, cell_is_branch}
use Rattle.split_table.proofs.laws.cells_are_shown.Goals as goal

-- listed branches and top cells ascend strictly, and are exactly those of a good world
pub returns : goal.returns
returns c = record {
  law = λ w g. record {
    branches_ascend = ascends_strict (branch_cells w) (ascends_filter (is_listed w w.ranks) (cells w.bodies) (cells_ascend w.bodies g.in_order));
    branches = λ k. (λ m. cell_is_branch w k m, λ b. branch_in_cells w b.0 k g b.1);
    ranks = λ q k b. first_of_own w q (bodies_in w k) b.some b.own;
    tops_ascend = ascends_strict (tops w) (tops_ascend w g);
    tops = tops-are w;
  };
}
