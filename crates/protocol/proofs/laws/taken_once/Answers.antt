use Rattle.protocol.proofs.laws.taken_once.Goals as goal
use Rattle.protocol.proofs.Keeping as keeping

-- in each front of a legal log a note was taken at most as often as it was posted
pub returns : goal.returns
returns c = record { law = keeping.taken_once }
