-- A rank that was made for a world.
use Rattle.std.specs.Prelude.{ℕ, ◌≡◌}
use Rattle.rank_model.specs.World.{World}
use Rattle.rank_core.specs.Seat.{IsNew}
use Rattle.rank_core.specs.Standing.{RankState}
use Rattle.rank_core.specs.Seats.{seat_of, visit_of}

module _ {V A : Type 0} (Stands : World → RankState V A → Type 0) where
  -- it is rank q of the world, has done nothing yet, and has this visit
  pub record IsRankOf (v : V) (w : World) (q : ℕ) (r : RankState V A) : Type 0 where
    pub new : IsNew q w.ranks (seat_of r)
    pub visit : visit_of r ≡ v
    pub stands : Stands w r
