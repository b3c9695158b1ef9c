use Rattle.well_walk.proofs.Bounds.{potential-small}
use Rattle.well_walk.proofs.laws.potential_is_bounded.Goals as goal

pub returns : goal.returns
returns c = record { law = potential-small }
