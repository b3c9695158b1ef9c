use Rattle.well_walk.proofs.Growth.{sums-totals}
use Rattle.well_walk.proofs.laws.sums_are_totals.Goals as goal

pub returns : goal.returns
returns c = record { law = sums-totals }
