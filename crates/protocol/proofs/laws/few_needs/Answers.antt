use Rattle.protocol.proofs.laws.few_needs.Goals as goal
use Rattle.protocol.proofs.Keeping as keeping

-- in a good world all ranks together need at most the met cells times all ranks but one
pub returns : goal.returns
returns c = record { law = keeping.few_needs }
