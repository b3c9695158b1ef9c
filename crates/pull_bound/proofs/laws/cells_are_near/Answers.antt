use Rattle.pull_bound.proofs.Cells.{centre-near}
use Rattle.pull_bound.proofs.laws.cells_are_near.Goals as goal

pub returns : goal.returns
returns c = record { law = centre-near }
