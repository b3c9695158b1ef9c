use Rattle.hot_units.proofs.Sorts.{ascends_strict}
use Rattle.hot_model.specs.Cells.{cells}
use Rattle.hot_model.proofs.Cells.{cells-are, cells_ascend, cells_short}
use Rattle.local_tree.proofs.laws.cells_are_listed.Goals as goal

pub returns : goal.returns
returns c = record { law = λ bodies g. record { ascend = ascends_strict (cells bodies) (cells_ascend bodies g); few = cells_short bodies; all = cells-are bodies } }
