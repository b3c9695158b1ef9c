use Rattle.protocol.proofs.laws.same_notes.Goals as goal
use Rattle.protocol.proofs.Keeping as keeping

-- two notes are the same where their test is true
pub returns : goal.returns
returns c = record { law = keeping.same_notes }
