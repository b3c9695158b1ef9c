use Rattle.protocol.proofs.laws.own_fresh.Goals as goal
use Rattle.protocol.proofs.Keeping as keeping

-- a rank asks for no cell of its own, or of no rank
pub returns : goal.returns
returns c = record { law = keeping.own_fresh }
