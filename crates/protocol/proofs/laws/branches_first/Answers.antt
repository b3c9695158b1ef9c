use Rattle.protocol.proofs.laws.branches_first.Goals as goal
use Rattle.protocol.proofs.Keeping as keeping

-- in a front of a legal log a rank that asked for a cell has taken all others' branches
pub returns : goal.returns
returns c = record { law = keeping.branches_first }
