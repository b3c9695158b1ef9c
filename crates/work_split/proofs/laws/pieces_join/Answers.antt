use Rattle.work_split.proofs.Cuts as cuts
use Rattle.work_split.proofs.laws.pieces_join.Goals as goal

-- the pieces of every set join to the whole list
pub returns : goal.returns
returns c = record { law = cuts.pieces_join }
