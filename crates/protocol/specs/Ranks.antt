-- Ranks in a list, each at its place.
use Rattle.std.specs.Prelude.{ℕ, ◌≡◌, List, map, length, Some, slice_get}
use Rattle.rank_model.specs.World.{World, IsGood}
use Rattle.rank_core.specs.Seat.{Seat}
use Rattle.rank_core.specs.Standing.{RankState}
use Rattle.rank_core.specs.Seats.{seat_of, visit_of}

-- the ranks, as the others see them
abbrev pub seats : {V A : Type 0} → List (RankState V A) → List Seat
seats rs = map seat_of rs

-- rank q is at place q
abbrev pub ArePlaced : {V A : Type 0} → List (RankState V A) → Type 0
ArePlaced {V} {A} rs = (q : ℕ) (r : RankState V A) → slice_get rs q ≡ Some r → (seat_of r).me ≡ q

module _ {V A : Type 0} (Stands : World → RankState V A → Type 0) where
  -- all ranks have this visit and stand for the world
  pub record Together (v : V) (w : World) (rs : List (RankState V A)) : Type 0 where
    pub good : IsGood w
    pub ranks : length rs ≡ w.ranks
    pub stand : (q : ℕ) (r : RankState V A) → slice_get rs q ≡ Some r → Stands w r
    pub visit : (q : ℕ) (r : RankState V A) → slice_get rs q ≡ Some r → visit_of r ≡ v
