use Rattle.protocol.proofs.laws.asks_first.Goals as goal
use Rattle.protocol.proofs.Keeping as keeping

-- in a front of a legal log an ask for a cell that was answered to a rank was taken
pub returns : goal.returns
returns c = record { law = keeping.asks_first }
