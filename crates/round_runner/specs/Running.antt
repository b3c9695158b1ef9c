-- Ranks that run together over a wire.
use Rattle.std.specs.Prelude.{ℕ, zero, suc, ◌+◌, ◌-◌, ◌*◌, ◌<◌, ◌≡◌, ◌≢◌, ◌≤◌, ◌⊎◌, Bool, true, false, All, List, [], ◌∷◌, ◌++◌, map, length, Option, Some, Result, Ok, Err, OnOk, slice_get, slice_set, slice_index_or}
use Rattle.std.specs.declared.alloc.AllocError.{AllocError}
use Rattle.hot_units.specs.Limits.{max_ranks, max_level, max_bodies}
use Rattle.hot_units.specs.Values.{BodyValue, CellValue}
use Rattle.hot_model.specs.declared.visit.Visit as visits
use Rattle.hot_model.specs.declared.visit.Seen as seens
use Rattle.rank_model.specs.World.{World, IsGood}
use Rattle.rank_model.specs.Needs.{round_bound}
use Rattle.cell_mail.specs.Letters.{LetterValue}
use Rattle.wire.specs.declared.entry.Entry.{Entry}
use Rattle.wire.specs.declared.wire.Turn.TheVariants as turns
use Rattle.wire.specs.Desk.{Desk, rounds_in}
use Rattle.rank_core.specs.Truth.{TrueLetter}
use Rattle.rank_core.specs.Seat.{Seat, IsFresh, with_inbox}
use Rattle.protocol.specs.Logs.{Legal, Complete, IsPrompt, prompt_rounds}
use Rattle.protocol.specs.Joint.{Joint, AllFinished}
use Rattle.protocol.specs.Ranks.{seats, ArePlaced, Together}
use Rattle.protocol.specs.Depth.{Deep}
use Rattle.rank_core.specs.Standing.{RankState, StandsIn}
use Rattle.rank_core.specs.Seats.{seat_of, visit_of, Stepped, Popped}

-- no run has more rounds: there are at most so many ranks and cells
abbrev pub most_rounds : ℕ
most_rounds = (max_ranks - 1) * (max_ranks + 2 * ((max_level + 1) * max_bodies)) + 1

-- the numbers of the ranks, in their order
abbrev pub numbers : {V A : Type 0} → List (RankState V A) → List ℕ
numbers {V} {A} rs = map (λ (r : RankState V A). (seat_of r).me) rs

-- none was refused memory, and some was
abbrev pub AllFed : {V A : Type 0} → List (RankState V A) → Type 0
AllFed {V} {A} rs = (q : ℕ) (r : RankState V A) → slice_get rs q ≡ Some r → (seat_of r).starved ≡ false

-- some rank was refused memory
abbrev pub SomeStarved : {V A : Type 0} → List (RankState V A) → Type 0
SomeStarved {V} {A} rs = (q : ℕ) × (r : RankState V A) × (slice_get rs q ≡ Some r) × ((seat_of r).starved ≡ true)

-- the letter is to the rank at its place, which may take it
abbrev pub IsItsFresh : {V A : Type 0} → List (RankState V A) → LetterValue → Type 0
IsItsFresh {V} {A} rs l = (r : RankState V A) → slice_get rs l.to ≡ Some r → (l.to ≡ (seat_of r).me) × IsFresh (seat_of r) l

-- all ranks but q are as they were
abbrev pub SameBut : {V A : Type 0} → ℕ → (rs us : List (RankState V A)) → Type 0
SameBut q rs us = (p : ℕ) → p ≢ q → slice_get us p ≡ slice_get rs p

-- one round more has ended
abbrev pub HasOneMore : (old new : List Entry) → Type 0
HasOneMore old new = rounds_in new ≡ 1 + rounds_in old

-- where each round took all letters that were posted before it ended, there are few rounds
abbrev pub IsFewIfPrompt : List Entry → Type 0
IsFewIfPrompt log = IsPrompt log → rounds_in log ≤ prompt_rounds

-- another letter may always be taken in a round
abbrev pub IsEager : Desk → Type 0
IsEager d = d.eager d.mail ≡ true

-- no letter may be taken any more in this round
abbrev pub IsOverIn : Desk → Type 0
IsOverIn d = (d.pending ≡ []) ⊎ (d.turn ≡ turns.Shut)

-- the mail, and under which mails the wire is eager, stay
pub record SameMail (d e : Desk) : Type 0 where
  pub mail : e.mail ≡ d.mail
  pub eager : e.eager ≡ d.eager

-- what the events within a round leave alone
pub record Frame {X : Type 0} (rs : List X) (d : Desk) (ts : List X) (e : Desk) : Type 0 where
  pub len : length ts ≡ length rs
  pub mail : e.mail ≡ d.mail
  pub eager : e.eager ≡ d.eager
  pub rounds : rounds_in e.log ≡ rounds_in d.log

-- no letter stands in the outbox of rank q
abbrev pub QuietAt : List Seat → ℕ → Type 0
QuietAt ss q = (s : Seat) → slice_get ss q ≡ Some s → s.outbox ≡ []

-- how many letters stand in the outbox of rank q
abbrev pub outbox_len : List Seat → ℕ → ℕ
outbox_len [] q = 0
outbox_len (s ∷ ss) zero = length s.outbox
outbox_len (s ∷ ss) (suc q) = outbox_len ss q

module _ {V A : Type 0} (Stands : World → RankState V A → Type 0) where
  -- the oldest letter of the outbox of rank q is out
  abbrev pub PopsAt : List (RankState V A) → ℕ → Option LetterValue → List (RankState V A) → Type 0
  PopsAt rs q o ts = (s : RankState V A) × (t : RankState V A) × (slice_get rs q ≡ Some s) × (ts ≡ slice_set rs q t) × Popped Stands s o t

  -- the letter went into the inbox of its receiver, or that rank is starved
  pub record Took (s : RankState V A) (l : LetterValue) (t : RankState V A) (o : Result (Unit {0}) AllocError) : Type 0 where
    pub kept : (w : World) → Stands w s → TrueLetter w l → Stands w t
    pub visit : visit_of t ≡ visit_of s
    pub me : (seat_of t).me ≡ (seat_of s).me
    pub ok : OnOk o ((seat_of t) ≡ with_inbox (seat_of s) ((seat_of s).inbox ++ l ∷ []))

  -- the letter was handed to its receiver, and the other ranks are as they were
  abbrev pub HandsAt : List (RankState V A) → LetterValue → List (RankState V A) → Result (Unit {0}) AllocError → Type 0
  HandsAt rs l ts o = (s : RankState V A) × (t : RankState V A) × (slice_get rs l.to ≡ Some s) × (ts ≡ slice_set rs l.to t) × Took s l t o

module _ {V A : Type 0} (opens_by : V → BodyValue → CellValue → Bool) (Stands : World → RankState V A → Type 0) where
  -- all that holds of the ranks and the wire between two events; `stage` is 1 from the step of a round to its end
  pub record Running (v : V) (w : World) (rs : List (RankState V A)) (d : Desk) (stage : ℕ) : Type 0 where
    pub together : Together Stands v w rs
    pub joint : Joint (opens_by v) w (seats rs) d
    pub deep : IsPrompt d.log → Deep (seats rs) d (rounds_in d.log + stage)
    pub prompt : IsEager d → IsPrompt d.log

  -- what the last round leaves
  pub record Over (v : V) (w : World) (rs : List (RankState V A)) (d : Desk) : Type 0 where
    pub together : Together Stands v w rs
    pub placed : ArePlaced rs
    pub finished : AllFinished (seats rs)
    pub legal : Legal (opens_by v) w d.log
    pub complete : Complete (opens_by v) w d.log
    pub quiet : d.pending ≡ []
    pub prompt : IsEager d → IsPrompt d.log
    pub few : IsFewIfPrompt d.log

  -- what a round leaves: it was the last one, or another follows, or memory was refused
  abbrev pub RoundEnds : V → World → List (RankState V A) → Desk → Result Bool AllocError → Type 0
  RoundEnds v w rs d (Ok true) = Over v w rs d
  RoundEnds v w rs d (Ok false) = Running v w rs d 0
  RoundEnds v w rs d (Err e) = Legal (opens_by v) w d.log

-- The same by the members of the visit's traits, as clauses cite it.
module _ {V A : Type 0} (t : visits.Ghosts V A) (a : seens.Ghosts A) where
  -- there is a world for which all ranks stand
  abbrev pub FitAWorld : List (RankState V A) → Type 0
  FitAWorld rs = (w : World) × All (StandsIn t a w) rs

  -- the rank is one that a step may leave; and so is each rank, at its place
  abbrev pub StepsTo : (old new : RankState V A) → Type 0
  StepsTo old new = Stepped t.opens_by (StandsIn t a) old new

  -- each rank is one that a step may leave of the rank at its place
  abbrev pub AllStep : (rs us : List (RankState V A)) → Type 0
  AllStep rs us = (k : ℕ) (d : RankState V A) → k < length rs → StepsTo (slice_index_or rs k d) (slice_index_or us k d)

  -- the letter is true of a world for which its receiver stands
  abbrev pub FitsItsRank : List (RankState V A) → LetterValue → Type 0
  FitsItsRank rs l = (r : RankState V A) → slice_get rs l.to ≡ Some r → (w : World) × StandsIn t a w r × TrueLetter w l

  -- there are a visit and a good world of these ranks; and in each such world this is so
  abbrev pub AreTogether : List (RankState V A) → Type 0
  AreTogether rs = (v : V) × (w : World) × Together (StandsIn t a) v w rs

  -- this is so for each visit and good world for which the ranks are together
  abbrev pub WhereTogether : List (RankState V A) → (V → World → Type 0) → Type 0
  WhereTogether rs P = (v : V) (w : World) → Together (StandsIn t a) v w rs → P v w

  -- they still stand for each; the log is legal in each; it is complete; there are few rounds in it
  abbrev pub StayTogether : (rs us : List (RankState V A)) → Result ℕ AllocError → Type 0
  StayTogether rs us r = WhereTogether rs (λ v w. OnOk r (Together (StandsIn t a) v w us))

  -- in each such world the log is legal
  abbrev pub IsLegalFor : List (RankState V A) → List Entry → Type 0
  IsLegalFor rs log = WhereTogether rs (λ v w. Legal (t.opens_by v) w log)

  -- in each such world the log is complete at Ok
  abbrev pub IsComplete : List (RankState V A) → List Entry → Result ℕ AllocError → Type 0
  IsComplete rs log r = WhereTogether rs (λ v w. OnOk r (Complete (t.opens_by v) w log))

  -- in each such world the rounds are within the bound at Ok
  abbrev pub IsInBound : List (RankState V A) → List Entry → Result ℕ AllocError → Type 0
  IsInBound rs log r = WhereTogether rs (λ v w. OnOk r (rounds_in log ≤ round_bound (t.opens_by v) w))

  -- there is a world in which they run; and in each such world this is so
  abbrev pub RunSomewhere : List (RankState V A) → Desk → ℕ → Type 0
  RunSomewhere rs d stage = (v : V) × (w : World) × Running t.opens_by (StandsIn t a) v w rs d stage

  -- this is so for each visit and world in which the ranks run
  abbrev pub WhereRun : List (RankState V A) → Desk → ℕ → (V → World → Type 0) → Type 0
  WhereRun rs d stage P = (v : V) (w : World) → Running t.opens_by (StandsIn t a) v w rs d stage → P v w

  -- within a round: they run on, unless memory was refused; the log is legal
  abbrev pub RunOn : {W X : Type 0} (desk : W → Desk) → List (RankState V A) → W → List (RankState V A) → W → Result X AllocError → Type 0
  RunOn desk rs old us new r = WhereRun rs (desk old) 1 (λ v w. OnOk r (Running t.opens_by (StandsIn t a) v w us (desk new) 1))

  -- in each world in which they ran the log is legal
  abbrev pub StaysLegal : List (RankState V A) → Desk → ℕ → Desk → Type 0
  StaysLegal rs d stage e = WhereRun rs d stage (λ v w. Legal (t.opens_by v) w e.log)

  -- from the start of a round to its end
  abbrev pub Ends : {W : Type 0} (desk : W → Desk) → List (RankState V A) → W → List (RankState V A) → W → Result Bool AllocError → Type 0
  Ends desk rs old us new r = WhereRun rs (desk old) 0 (λ v w. RoundEnds t.opens_by (StandsIn t a) v w us (desk new) r)
