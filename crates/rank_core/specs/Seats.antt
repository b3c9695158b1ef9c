-- A rank as the other ranks see it.
use Rattle.std.specs.Prelude.{ℕ, ◌≡◌, ◌↔◌, length, map, sum_by, Contains, Bool, true, false, not, ◌&&◌, List, [], ◌∷◌, All, Option, Some, None}
use Rattle.hot_units.specs.Values.{BodyValue, CellValue}
use Rattle.hot_model.specs.declared.visit.Visit as visits
use Rattle.hot_model.specs.declared.visit.Seen as seens
use Rattle.rank_model.specs.World.{World, piece}
use Rattle.rank_model.specs.Needs.{needed}
use Rattle.cell_mail.specs.Letters.{LetterValue}
use Rattle.defer_walk.specs.declared.listed.Listed.{Listed}
use Rattle.defer_walk.specs.Standing.{WalkState, given_of, fold_in, opened_by}
use Rattle.rank_core.specs.declared.state.State.{State}
use Rattle.rank_core.specs.Known.{others_heard, answered_keys}
use Rattle.rank_core.specs.Seat.{Seat, HeardAll, IsNew, Moves, with_outbox}
use Rattle.rank_core.specs.Truth.{TrueLetter, IsOurLetter}
use Rattle.rank_core.specs.Sending.{is_built}
use Rattle.rank_core.specs.Standing.{RankState, HasWalked, InEachWorld, StandsIn, meant_by}

-- whether no pair is left
abbrev pub none_left : List Listed → Bool
none_left [] = true
none_left (p ∷ ps) = false

-- what a rank holds, as the others see it
abbrev pub seat_at : {V A : Type 0} → State → WalkState V A → Seat
seat_at state walk = record {
  me = state.place.me;
  ranks = state.place.ranks;
  begun = is_built state.tree;
  heard = others_heard state;
  asked = given_of walk;
  answered = answered_keys walk.slots;
  inbox = state.inbox.items;
  outbox = state.outbox.items;
  done = walk.started && (not walk.starved && none_left walk.pairs);
  starved = state.starved;
}

-- the rank, as the others see it
unfoldable pub seat_of : {V A : Type 0} → RankState V A → Seat
seat_of s = seat_at s.state s.walk

-- all lists were heard, the walk is done, and the boxes are empty
pub record IsFinished {V A : Type 0} (s : RankState V A) : Type 0 where
  pub heard : All (λ h. h ≡ true) s.state.heard.heard.items
  pub started : s.walk.started ≡ true
  pub awake : s.walk.starved ≡ false
  pub none : s.walk.pairs ≡ []
  pub inbox : s.state.inbox.items ≡ []
  pub outbox : s.state.outbox.items ≡ []

-- t is s, but starved: all else stays, and so do the letters of its inbox, whose room is not told
pub record OnlyStarves {V A : Type 0} (s t : RankState V A) : Type 0 where
  pub rest : t ≡ record s { state = record s.state { inbox = t.state.inbox; starved = true } }
  pub inbox : t.state.inbox.items ≡ s.state.inbox.items

-- its visit
unfoldable pub visit_of : {V A : Type 0} → RankState V A → V
visit_of s = s.walk.visit

module _ {V A : Type 0} (opens_by : V → BodyValue → CellValue → Bool) (Stands : World → RankState V A → Type 0) where
  -- t is one that a step may leave of s
  pub record Stepped (s t : RankState V A) : Type 0 where
    pub kept : (w : World) → Stands w s → Stands w t
    pub moves : (w : World) → Stands w s → (seat_of t).starved ≡ false → Moves (opens_by (visit_of s)) w (seat_of s) (seat_of t)
    pub visit : visit_of t ≡ visit_of s
    pub me : (seat_of t).me ≡ (seat_of s).me
    pub ranks : (seat_of t).ranks ≡ (seat_of s).ranks

-- the oldest letter of the outbox is out
abbrev pub PopsOut : Seat → Option LetterValue → Seat → Type 0
PopsOut s None t = (s.outbox ≡ []) × (t ≡ s)
PopsOut s (Some l) t = (s.outbox ≡ l ∷ t.outbox) × (t ≡ with_outbox s t.outbox)

module _ {V A : Type 0} (Stands : World → RankState V A → Type 0) where
  pub record Popped (s : RankState V A) (r : Option LetterValue) (t : RankState V A) : Type 0 where
    pub kept : (w : World) → Stands w s → Stands w t
    pub visit : visit_of t ≡ visit_of s
    pub out : PopsOut (seat_of s) r (seat_of t)

-- rank q of so many, with this leaf limit and visit, which has done nothing yet
pub record IsMade {V A : Type 0} (q ranks leaf : ℕ) (visit : V) (s : RankState V A) : Type 0 where
  pub new : IsNew q ranks (seat_of s)
  pub leaf_is : s.state.place.leaf ≡ leaf
  pub visit_is : visit_of s ≡ visit

-- once all branches were heard, all that is left waits
abbrev pub GoesOn : {V A : Type 0} → visits.Ghosts V A → seens.Ghosts A → (old new : RankState V A) → Type 0
GoesOn v a old new = InEachWorld v a old (λ w. HeardAll (seat_of new) → HasWalked (meant_by v a new.walk.visit) w new.walk)

-- there is a world for which the rank stands, and of which the letter is true
abbrev pub FitsALetter : {V A : Type 0} → visits.Ghosts V A → seens.Ghosts A → RankState V A → LetterValue → Type 0
FitsALetter v a s l = (w : World) × StandsIn v a w s × TrueLetter w l

-- the rank still stands for each of which the letter is true
abbrev pub StandsByLetter : {V A : Type 0} → visits.Ghosts V A → seens.Ghosts A → RankState V A → LetterValue → RankState V A → Type 0
StandsByLetter v a s l t = InEachWorld v a s (λ w. TrueLetter w l → StandsIn v a w t)

-- the letter is one of the rank, and true
abbrev pub IsItsLetter : {V A : Type 0} → visits.Ghosts V A → seens.Ghosts A → RankState V A → LetterValue → Type 0
IsItsLetter v a s l = InEachWorld v a s (IsOurLetter (seat_of s).me l)

-- the accumulators are the folds of the rank's bodies
abbrev pub AreFolds : {V A : Type 0} → visits.Ghosts V A → seens.Ghosts A → RankState V A → List A → Type 0
AreFolds v a s accs = InEachWorld v a s (λ w. accs ≡ map (fold_in (meant_by v a (visit_of s)) w) (piece w (seat_of s).me))

-- so many cells were opened by them
abbrev pub AreOpened : {V A : Type 0} → visits.Ghosts V A → seens.Ghosts A → RankState V A → ℕ → Type 0
AreOpened v a s count = InEachWorld v a s (λ w. count ≡ sum_by (λ b. length (opened_by (meant_by v a (visit_of s)) w b)) (piece w (seat_of s).me))

-- so many cells of other ranks are needed
abbrev pub AreNeeded : {V A : Type 0} → visits.Ghosts V A → seens.Ghosts A → RankState V A → ℕ → Type 0
AreNeeded v a s count = InEachWorld v a s (λ w. count ≡ length (needed (v.opens_by (visit_of s)) w (seat_of s).me))

-- the keys are those of the cells that some of them opens
abbrev pub AreOpenedCells : {V A : Type 0} → visits.Ghosts V A → seens.Ghosts A → RankState V A → List ℕ → Type 0
AreOpenedCells v a s keys = InEachWorld v a s (λ w. (k : ℕ) → Contains keys k ↔ ((b : BodyValue) × Contains (piece w (seat_of s).me) b × Contains (opened_by (meant_by v a (visit_of s)) w b) k))
