use Rattle.well_walk.proofs.Growth.{sums-grow}
use Rattle.well_walk.proofs.laws.sums_grow.Goals as goal

pub returns : goal.returns
returns c = record { law = sums-grow }
