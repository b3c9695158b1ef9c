-- What any list of calls leaves of a rank.
use Rattle.std.specs.Prelude.{ℕ, ◌≡◌, ◌↔◌, length, map, sum_by, Contains, List, [], ◌∷◌, Option, Some, None, ◌⊎◌}
use Rattle.hot_units.specs.Values.{BodyValue}
use Rattle.hot_model.specs.declared.visit.Visit as visits
use Rattle.hot_model.specs.declared.visit.Seen as seens
use Rattle.rank_model.specs.World.{World, piece}
use Rattle.rank_model.specs.Needs.{needed}
use Rattle.cell_mail.specs.Letters.{LetterValue}
use Rattle.defer_walk.specs.Standing.{VisitOf, fold_in, opened_by}
use Rattle.rank_core.specs.Seat.{IsFresh, Finished, with_letter, refused}
use Rattle.rank_core.specs.Seats.{seat_of, visit_of, IsFinished, IsItsLetter, Popped, Stepped, StandsByLetter}
use Rattle.rank_core.specs.Standing.{RankState, StandsIn, meant_by}
use Rattle.rank_core.specs.Truth.{AllTrue, TrueOutbox}

-- a call that changes a rank: a step, the taking of a letter, or the outbox with what it gave
pub data Event : Type 0 where
  Step : Event
  Take : LetterValue → Event
  Give : Option LetterValue → Event

-- the letters that were taken
abbrev pub taken_in : List Event → List LetterValue
taken_in [] = []
taken_in (Step ∷ es) = taken_in es
taken_in (Take l ∷ es) = l ∷ taken_in es
taken_in (Give o ∷ es) = taken_in es

-- those that came out
abbrev pub given_in : List Event → List LetterValue
given_in [] = []
given_in (Step ∷ es) = given_in es
given_in (Take l ∷ es) = given_in es
given_in (Give None ∷ es) = given_in es
given_in (Give (Some l) ∷ es) = l ∷ given_in es

module _ {V A : Type 0} (v : visits.Ghosts V A) (a : seens.Ghosts A) where
  -- t is what `take` may leave of s, whether or not memory was refused
  pub record Took (s : RankState V A) (l : LetterValue) (t : RankState V A) : Type 0 where
    pub mine : l.to ≡ (seat_of s).me
    pub fresh : IsFresh (seat_of s) l
    pub kept : StandsByLetter v a s l t
    pub seat : (seat_of t ≡ with_letter (seat_of s) l) ⊎ (seat_of t ≡ refused (seat_of s))
    pub visit : visit_of t ≡ visit_of s

  -- t is what `outbox` may leave of s
  pub record Gave (s : RankState V A) (o : Option LetterValue) (t : RankState V A) : Type 0 where
    pub popped : Popped (StandsIn v a) s o t
    pub truth : (l : LetterValue) → o ≡ Some l → IsItsLetter v a s l

  -- t is what a call may leave of s, by its contract
  abbrev pub Leaves : Event → RankState V A → RankState V A → Type 0
  Leaves Step s t = Stepped v.opens_by (StandsIn v a) s t
  Leaves (Take l) s t = Took s l t
  Leaves (Give o) s t = Gave s o t

  -- t is what a list of calls may leave of s
  abbrev pub Lead : List Event → RankState V A → RankState V A → Type 0
  Lead [] s t = t ≡ s
  Lead (e ∷ es) s t = (m : RankState V A) × Leaves e s m × Lead es m t

-- t stands for the world, each letter that came out is a true one of the rank, and the rank stays who it is
pub record Follows {V A : Type 0} (v : visits.Ghosts V A) (a : seens.Ghosts A) (w : World) (s : RankState V A) (es : List Event) (t : RankState V A) : Type 0 where
  pub stands : StandsIn v a w t
  pub given : TrueOutbox w (seat_of s).me (given_in es)
  pub me : (seat_of t).me ≡ (seat_of s).me
  pub ranks : (seat_of t).ranks ≡ (seat_of s).ranks
  pub visit : visit_of t ≡ visit_of s

-- after any list of calls a rank stands for each world for which it stood and of which the letters that it took are true
abbrev pub StaysTrue : {V A : Type 0} → visits.Ghosts V A → seens.Ghosts A → Type 0
StaysTrue {V} {A} v a = (w : World) (es : List Event) (s t : RankState V A) → StandsIn v a w s → AllTrue w (taken_in es)
    → Lead v a es s t → Follows v a w s es t

-- in both worlds the bodies of rank q have the same folds, open as many cells and the same ones, and need the same
-- cells of other ranks
pub record SameResults {A : Type 0} (v : VisitOf A) (q : ℕ) (w u : World) : Type 0 where
  pub folds : map (fold_in v w) (piece w q) ≡ map (fold_in v u) (piece u q)
  pub opened : sum_by (λ b. length (opened_by v w b)) (piece w q) ≡ sum_by (λ b. length (opened_by v u b)) (piece u q)
  pub asks : needed v.opens w q ≡ needed v.opens u q
  pub cells : (k : ℕ) → ((b : BodyValue) × Contains (piece w q) b × Contains (opened_by v w b) k)
      ↔ ((b : BodyValue) × Contains (piece u q) b × Contains (opened_by v u b) k)

-- what a rank that is finished gives is the same in all worlds for which it stood and of which the letters that it took
-- are true: it rests on its piece and its letters alone
abbrev pub RestsOnLetters : {V A : Type 0} → visits.Ghosts V A → seens.Ghosts A → Type 0
RestsOnLetters {V} {A} v a = (w u : World) (es : List Event) (s t : RankState V A) → StandsIn v a w s → StandsIn v a u s
    → AllTrue w (taken_in es) → AllTrue u (taken_in es) → Lead v a es s t → IsFinished t
    → SameResults (meant_by v a (visit_of s)) (seat_of s).me w u

-- a rank that stands for a world is finished exactly where its seat is
abbrev pub SeatsTell : {V A : Type 0} → visits.Ghosts V A → seens.Ghosts A → Type 0
SeatsTell {V} {A} v a = (w : World) (s : RankState V A) → StandsIn v a w s → IsFinished s ↔ Finished (seat_of s)
