-- Two ranks that have done nothing yet.
use Rattle.std.proofs.Common.{ℕ, zero, suc, ◌≡◌, List, [], ◌∷◌, subst, sym, Some, None}
use Rattle.std.specs.Prelude.{slice_get}
use Rattle.rank_model.specs.World.{World, IsGood}
use Rattle.rank_core.specs.Seat.{IsNew}
use Rattle.rank_core.specs.Seats.{seat_of, visit_of}
use Rattle.rank_core.specs.Standing.{RankState}
use Rattle.protocol.specs.Joint.{AllNew}
use Rattle.protocol.specs.Ranks.{seats, Together}

each_of_two : {X : Type 0} (P : X → Type 0) (a b : X) → P a → P b → (q : ℕ) (x : X) → slice_get (a ∷ b ∷ []) q ≡ Some x → P x
each_of_two P a b pa pb zero x e = let f : Some a ≡ Some x = e in let g : a ≡ x = cc in subst P g pa
each_of_two P a b pa pb (suc zero) x e = let f : Some b ≡ Some x = e in let g : b ≡ x = cc in subst P g pb
each_of_two P a b pa pb (suc (suc q)) x e = let f : None ≡ Some x = e in absurd cc

-- two ranks, each new at its place, are all new
pub both_new : {V A : Type 0} (a b : RankState V A) (rs : List (RankState V A)) → rs ≡ a ∷ b ∷ [] → IsNew 0 2 (seat_of a) → IsNew 1 2 (seat_of b) → AllNew (seats rs)
both_new {V} {A} a b rs e m n = subst (λ (xs : List (RankState V A)). AllNew (seats xs)) (sym e) by_place
  where
    by_place : AllNew (seats (a ∷ b ∷ []))
    by_place zero s f = let g : Some (seat_of a) ≡ Some s = f in let h : seat_of a ≡ s = cc in subst (IsNew 0 2) h m
    by_place (suc zero) s f = let g : Some (seat_of b) ≡ Some s = f in let h : seat_of b ≡ s = cc in subst (IsNew 1 2) h n
    by_place (suc (suc q)) s f = let g : None ≡ Some s = f in absurd cc

-- two ranks of one visit that stand for a good world of two ranks are together
pub both_together : {V A : Type 0} (Stands : World → RankState V A → Type 0) (v : V) (w : World) (a b : RankState V A) (rs : List (RankState V A)) → rs ≡ a ∷ b ∷ [] → IsGood w → w.ranks ≡ 2 → Stands w a → Stands w b → visit_of a ≡ v → visit_of b ≡ v → Together Stands v w rs
both_together {V} {A} Stands v w a b rs e g r sa sb va vb =
    subst (λ (xs : List (RankState V A)). Together Stands v w xs) (sym e)
    (record { good = g; ranks = sym r; stand = each_of_two (Stands w) a b sa sb; visit = each_of_two (λ x. visit_of x ≡ v) a b va vb })

-- the same of three ranks
each_of_three : {X : Type 0} (P : X → Type 0) (a b c : X) → P a → P b → P c → (q : ℕ) (x : X) → slice_get (a ∷ b ∷ c ∷ []) q ≡ Some x → P x
each_of_three P a b c pa pb pc zero x e = let f : Some a ≡ Some x = e in let g : a ≡ x = cc in subst P g pa
each_of_three P a b c pa pb pc (suc q) x e = each_of_two P b c pb pc q x e

-- three ranks, each new at its place, are all new
pub three_new : {V A : Type 0} (a b c : RankState V A) (rs : List (RankState V A)) → rs ≡ a ∷ b ∷ c ∷ [] → IsNew 0 3 (seat_of a) → IsNew 1 3 (seat_of b) → IsNew 2 3 (seat_of c) → AllNew (seats rs)
three_new {V} {A} a b c rs e m n o = subst (λ (xs : List (RankState V A)). AllNew (seats xs)) (sym e) by_place
  where
    by_place : AllNew (seats (a ∷ b ∷ c ∷ []))
    by_place zero s f = let g : Some (seat_of a) ≡ Some s = f in let h : seat_of a ≡ s = cc in subst (IsNew 0 3) h m
    by_place (suc zero) s f = let g : Some (seat_of b) ≡ Some s = f in let h : seat_of b ≡ s = cc in subst (IsNew 1 3) h n
    by_place (suc (suc zero)) s f = let g : Some (seat_of c) ≡ Some s = f in let h : seat_of c ≡ s = cc in subst (IsNew 2 3) h o
    by_place (suc (suc (suc q))) s f = let g : None ≡ Some s = f in absurd cc

-- three ranks of one visit that stand for a good world of three ranks are together
pub three_together : {V A : Type 0} (Stands : World → RankState V A → Type 0) (v : V) (w : World) (a b c : RankState V A) (rs : List (RankState V A)) → rs ≡ a ∷ b ∷ c ∷ [] → IsGood w → w.ranks ≡ 3 → Stands w a → Stands w b → Stands w c → visit_of a ≡ v → visit_of b ≡ v → visit_of c ≡ v → Together Stands v w rs
three_together {V} {A} Stands v w a b c rs e g r sa sb sc va vb vc =
    subst (λ (xs : List (RankState V A)). Together Stands v w xs) (sym e)
    (record { good = g; ranks = sym r; stand = each_of_three (Stands w) a b c sa sb sc; visit = each_of_three (λ x. visit_of x ≡ v) a b c va vb vc })
