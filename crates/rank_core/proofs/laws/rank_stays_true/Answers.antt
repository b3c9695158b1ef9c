use Rattle.rank_core.proofs.Calls.{stays_true}
use Rattle.rank_core.proofs.laws.rank_stays_true.Goals as goal

pub returns : goal.returns
returns g c = record { law = λ w es s t h true lead. stays_true g.V.Visit g.V.Acc.Seen w es s t h true lead }
