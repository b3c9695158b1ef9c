use Rattle.local_tree.proofs.Betweens.{between-is-own}
use Rattle.local_tree.proofs.laws.own_cells_are_between.Goals as goal

pub returns : goal.returns
returns c = record { law = between-is-own }
