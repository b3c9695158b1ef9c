use Rattle.rank_core.proofs.Agreeing.{rests_on_letters}
use Rattle.rank_core.proofs.laws.results_rest_on_letters.Goals as goal

pub returns : goal.returns
returns g c = record { law = rests_on_letters g.V.Visit g.V.Acc.Seen }
