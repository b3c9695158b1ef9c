use Rattle.rank_core.proofs.Agreeing.{seats_tell}
use Rattle.rank_core.proofs.laws.seat_tells_finished.Goals as goal

pub returns : goal.returns
returns g c = record { law = seats_tell g.V.Visit g.V.Acc.Seen }
