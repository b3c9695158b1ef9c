-- A rank that stands for a world is finished where its seat is.
use Rattle.hot_model.specs.declared.visit.Visit as visits
use Rattle.hot_model.specs.declared.visit.Seen as seens
use Rattle.rank_model.specs.World.{World}
use Rattle.rank_core.specs.Seat.{Finished}
use Rattle.rank_core.specs.Seats.{seat_of, IsFinished}
use Rattle.rank_core.specs.Standing.{RankState, StandsIn, meant_by}
use Rattle.rank_core.proofs.Finishing.{finished_of}

-- a rank that stands for a world is finished where its seat is
pub finished_at : {V A : Type 0} (v : visits.Ghosts V A) (a : seens.Ghosts A) (w : World) (s : RankState V A) → StandsIn v a w s → Finished (seat_of s) → IsFinished s
unfolding StandsIn
finished_at v a w s h f = finished_of (meant_by v a s.walk.visit) w s h f
