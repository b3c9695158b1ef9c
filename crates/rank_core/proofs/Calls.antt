-- Lists of calls of a rank.
use Rattle.std.proofs.Common.{ℕ, ◌≡◌, List, [], ◌∷◌, refl, sym, ap, ◌∙◌, subst, inl, inr, Some, None}
use Rattle.hot_model.specs.declared.visit.Visit as visits
use Rattle.hot_model.specs.declared.visit.Seen as seens
use Rattle.rank_model.specs.World.{World}
use Rattle.cell_mail.specs.Letters.{LetterValue}
use Rattle.rank_core.specs.Seat.{Seat}
use Rattle.rank_core.specs.Seats.{seat_of, visit_of}
use Rattle.rank_core.specs.Standing.{RankState, StandsIn}
use Rattle.rank_core.specs.Truth.{AllTrue, TrueOutbox}
use Rattle.rank_core.specs.Laws.{Event, taken_in, given_in, Lead, Follows}
use Rattle.rank_core.specs.Laws.Event.{Step, Take, Give}

module _ {V A : Type 0} (v : visits.Ghosts V A) (a : seens.Ghosts A) (w : World) where
  -- a call before a list of calls
  more : (s m t : RankState V A) (es : List Event) → (seat_of m).me ≡ (seat_of s).me → (seat_of m).ranks ≡ (seat_of s).ranks → visit_of m ≡ visit_of s → Follows v a w m es t → Follows v a w s es t
  more s m t es me ranks visit f = record {
    stands = f.stands;
    given = subst (λ (q : ℕ). TrueOutbox w q (given_in es)) me f.given;
    me = f.me ∙ me;
    ranks = f.ranks ∙ ranks;
    visit = f.visit ∙ visit;
  }

  more_given : (s m t : RankState V A) (es : List Event) (l : LetterValue) → Follows v a w s es t → TrueOutbox w (seat_of s).me (l ∷ given_in es) → Follows v a w s (Give (Some l) ∷ es) t
  more_given s m t es l f g = record { stands = f.stands; given = g; me = f.me; ranks = f.ranks; visit = f.visit }

  pub stays_true : (es : List Event) (s t : RankState V A) → StandsIn v a w s → AllTrue w (taken_in es) → Lead v a es s t → Follows v a w s es t
  stays_true [] s t h told e = record {
    stands = subst (StandsIn v a w) (sym e) h;
    given = tt;
    me = ap (λ (x : RankState V A). (seat_of x).me) e;
    ranks = ap (λ (x : RankState V A). (seat_of x).ranks) e;
    visit = ap (λ (x : RankState V A). visit_of x) e;
  }
  stays_true (Step ∷ es) s t h told x =
      let f = more s x.0 t es x.1.me x.1.ranks x.1.visit (stays_true es x.0 t (x.1.kept w h) told x.2) in
      record { stands = f.stands; given = f.given; me = f.me; ranks = f.ranks; visit = f.visit }
  stays_true (Take l ∷ es) s t h told x =
      let me : (seat_of x.0).me ≡ (seat_of s).me = elim x.1.seat [ inl e ↦ ap (λ (q : Seat). q.me) e | inr e ↦ ap (λ (q : Seat). q.me) e ] in
      let ranks : (seat_of x.0).ranks ≡ (seat_of s).ranks = elim x.1.seat [ inl e ↦ ap (λ (q : Seat). q.ranks) e | inr e ↦ ap (λ (q : Seat). q.ranks) e ] in
      let f = more s x.0 t es me ranks x.1.visit (stays_true es x.0 t (x.1.kept w h told.0) told.1 x.2) in
      record { stands = f.stands; given = f.given; me = f.me; ranks = f.ranks; visit = f.visit }
  stays_true (Give None ∷ es) s t h told x =
      let e = x.1.popped.out.1 in
      let f = more s x.0 t es (ap (λ (q : Seat). q.me) e) (ap (λ (q : Seat). q.ranks) e) x.1.popped.visit (stays_true es x.0 t (x.1.popped.kept w h) told x.2) in
      record { stands = f.stands; given = f.given; me = f.me; ranks = f.ranks; visit = f.visit }
  stays_true (Give (Some l) ∷ es) s t h told x =
      let e = x.1.popped.out.1 in
      let ours = x.1.truth l refl w h in
      let f = more s x.0 t es (ap (λ (q : Seat). q.me) e) (ap (λ (q : Seat). q.ranks) e) x.1.popped.visit (stays_true es x.0 t (x.1.popped.kept w h) told x.2) in
      record { stands = f.stands; given = (ours.0, ours.1, f.given); me = f.me; ranks = f.ranks; visit = f.visit }
