-- Seats of ranks in a list.
use Rattle.std.proofs.Common.{ℕ, zero, suc, ◌≡◌, List, [], ◌∷◌, length, Some, None, slice_get, slice_set, refl, ap}
use Rattle.rank_core.specs.Seat.{Seat}
use Rattle.rank_core.specs.Standing.{RankState}
use Rattle.rank_core.specs.Seats.{seat_of}
use Rattle.protocol.specs.Ranks.{seats}

-- seats of ranks
pub seat_at : {V A : Type 0} (rs : List (RankState V A)) (q : ℕ) (r : RankState V A) → slice_get rs q ≡ Some r → slice_get (seats rs) q ≡ Some (seat_of r)
seat_at [] q r e = let k : None ≡ Some r = e in cc
seat_at (x ∷ rs) zero r e = let k : x ≡ r = cc in ap (λ y. Some (seat_of y)) k
seat_at (x ∷ rs) (suc q) r e = seat_at rs q r e

-- a seat at a place is that of the rank at the place
pub rank_at : {V A : Type 0} (rs : List (RankState V A)) (q : ℕ) (s : Seat) → slice_get (seats rs) q ≡ Some s → (r : RankState V A) × (slice_get rs q ≡ Some r) × ((seat_of r) ≡ s)
rank_at [] q s e = absurd (let k : None ≡ Some s = e in cc)
rank_at (x ∷ rs) zero s e = (x, refl, (let k : Some (seat_of x) ≡ Some s = e in cc))
rank_at (x ∷ rs) (suc q) s e = rank_at rs q s e

-- after a change of one rank the seats are as before, but for the seat of that rank
pub seats_set : {V A : Type 0} (rs : List (RankState V A)) (q : ℕ) (r : RankState V A) → seats (slice_set rs q r) ≡ slice_set (seats rs) q (seat_of r)
seats_set [] q r = refl
seats_set (x ∷ rs) zero r = refl
seats_set (x ∷ rs) (suc q) r = ap (λ ss. (seat_of x) ∷ ss) (seats_set rs q r)

-- there are as many seats as ranks
pub seats_len : {V A : Type 0} (rs : List (RankState V A)) → length (seats rs) ≡ length rs
seats_len [] = refl
seats_len (x ∷ rs) = ap suc (seats_len rs)
