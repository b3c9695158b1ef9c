-- What holds of the ranks of a walk, and what they find, by the members of a visit's traits.
use Rattle.std.specs.Prelude.{suc, List}
use Rattle.hot_model.specs.declared.visit.Visit as visits
use Rattle.hot_model.specs.declared.visit.Seen as seens
use Rattle.rank_model.specs.World.{World}
use Rattle.rank_core.specs.Standing.{RankState, StandsIn, InEachWorld, meant_by}
use Rattle.rank_core.specs.Seats.{seat_of, visit_of}
use Rattle.protocol.specs.Ranks.{Together}
use Rattle.rank_set.specs.declared.found.Found.{Found}
use Rattle.rank_set.specs.Efforts.{AreFindsTo, AreFindsIn}

-- all ranks have this visit and stand for the world
abbrev pub StandTogether : {V A : Type 0} → visits.Ghosts V A → seens.Ghosts A → V → World → List (RankState V A) → Type 0
StandTogether v a visit w ranks = Together (StandsIn v a) visit w ranks

-- there is a visit and a world for which they do
abbrev pub FitAWorld : {V A : Type 0} → visits.Ghosts V A → seens.Ghosts A → List (RankState V A) → Type 0
FitAWorld {V} v a ranks = (visit : V) × (w : World) × StandTogether v a visit w ranks

-- this is what all ranks find by this visit
abbrev pub AreFoundBy : {V A : Type 0} → visits.Ghosts V A → seens.Ghosts A → V → World → Found A → Type 0
AreFoundBy v a visit w f = AreFindsIn (meant_by v a visit) w f.accs.items f.efforts.items f.opened.items

-- in each world for which the ranks stand together, this is what they find
abbrev pub AreFoundTogether : {V A : Type 0} → visits.Ghosts V A → seens.Ghosts A → List (RankState V A) → Found A → Type 0
AreFoundTogether {V} v a ranks f = (visit : V) (w : World) → StandTogether v a visit w ranks → AreFoundBy v a visit w f

-- where the old is what the ranks below this one find, the new is what these and this one find
abbrev pub AddsRank : {V A : Type 0} → visits.Ghosts V A → seens.Ghosts A → RankState V A → (old new : Found A) → Type 0
AddsRank v a rank old new = InEachWorld v a rank (λ w.
    AreFindsTo (meant_by v a (visit_of rank)) w (seat_of rank).me old.accs.items old.efforts.items old.opened.items
    → AreFindsTo (meant_by v a (visit_of rank)) w (suc (seat_of rank).me) new.accs.items new.efforts.items new.opened.items)
