use Rattle.hot.proofs.Nearness.{forces_near}
use Rattle.hot.proofs.laws.forces_are_near.Goals as goal

pub returns : goal.returns
returns c = record { law = forces_near }
