use Rattle.work_split.proofs.Cuts as cuts
use Rattle.work_split.proofs.laws.pieces_make_a_world.Goals as goal

-- every set in order that is split is a good world
pub returns : goal.returns
returns c = record { law = cuts.pieces_make_a_world }
