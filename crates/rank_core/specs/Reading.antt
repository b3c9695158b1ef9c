-- What reading does to a rank.
use Rattle.std.specs.Prelude.{ℕ, ◌≡◌, ◌+◌, ◌≤◌, eqb, if◌then◌else◌, List, [], map, All, Contains}
use Rattle.hot_model.specs.declared.answer.Answered.{Answered}
use Rattle.hot_model.specs.declared.visit.Visit as visits
use Rattle.hot_model.specs.declared.visit.Seen as seens
use Rattle.rank_model.specs.World.{World}
use Rattle.rank_model.specs.Answers.{true_answer}
use Rattle.cell_mail.specs.Letters.{LetterValue}
use Rattle.defer_walk.specs.Asked.{asked_keys}
use Rattle.defer_walk.specs.Standing.{VisitOf, WalkState, IsSameWalk, given_of}
use Rattle.rank_core.specs.declared.state.State.{State}
use Rattle.rank_core.specs.declared.request.Request.{Request}
use Rattle.rank_core.specs.Times.{times}
use Rattle.rank_core.specs.Truth.{TrueLetter}
use Rattle.rank_core.specs.Known.{others_heard, answered_keys}
use Rattle.rank_core.specs.Seat.{all_answered, all_told, asked_by, answered_in, asked_in, told_in}
use Rattle.rank_core.specs.Mail.{keys_for}
use Rattle.rank_core.specs.Part.{IsRequest}
use Rattle.rank_core.specs.Standing.{Holds, IsOpen, meant_by}

-- the keys of items of an answers letter
abbrev pub item_keys : List Answered → List ℕ
item_keys xs = map (λ a. a.key) xs

-- each item has the answer of its cell's owner
abbrev pub AreAnswers : World → List Answered → Type 0
AreAnswers w xs = All (λ a. a.answer ≡ true_answer w a.key) xs

-- a walk that got answers
pub record Supplies {V A : Type 0} (old new : WalkState V A) : Type 0 where
  pub same : IsSameWalk old new
  pub given : given_of new ≡ given_of old
  pub asked : asked_keys new.slots ≡ asked_keys old.slots
  pub pairs : new.pairs ≡ old.pairs
  pub started : new.started ≡ old.started
  pub starved : new.starved ≡ old.starved

-- a rank that read letters
pub record Reads {V A : Type 0} (s : State) (old : WalkState V A) (t : State) (new : WalkState V A) : Type 0 where
  pub walk : Supplies old new
  pub place : t.place ≡ s.place
  pub tree : t.tree ≡ s.tree
  pub top : t.top ≡ s.top
  pub outbox : t.outbox.items ≡ s.outbox.items
  pub starved : t.starved ≡ s.starved

-- requests that were read, with letters that are still to be read
pub record AreTaken (w : World) (me : ℕ) (rs : List Request) (ls : List LetterValue) : Type 0 where
  pub each : All (λ r. IsRequest w me me r) rs
  pub once : (q k : ℕ) → times k (keys_for q rs) + times k (asked_by q ls) ≤ 1

-- a letter out of the inbox that is read next, behind these requests
pub record CanRead {V A : Type 0} (v : VisitOf A) (w : World) (s : State) (walk : WalkState V A) (rs : List Request) (l : LetterValue) : Type 0 where
  pub holds : Holds v w s walk
  pub truth : TrueLetter w l
  pub mine : l.to ≡ s.place.me
  pub lacks : (k : ℕ) → Contains (answered_in l.content) k → IsOpen walk k
  pub answers : (k : ℕ) → times k (all_answered s.inbox.items) + times k (answered_in l.content) ≤ 1
  pub told : (p : ℕ) → times p (others_heard s) + (times p (all_told s.inbox.items) + times p (told_in l.from l.content)) ≤ 1
  pub each : All (λ r. IsRequest w s.place.me s.place.me r) rs
  pub once : (q k : ℕ) → times k (keys_for q rs) + (times k (asked_by q s.inbox.items) + times k (if eqb q l.from then asked_in l.content else [])) ≤ 1

-- the ranks that were heard, with these more
abbrev pub Hears : State → State → List ℕ → Type 0
Hears s t ps = (p : ℕ) → times p (others_heard t) ≡ times p (others_heard s) + times p ps

-- the cells that were answered, with these more
abbrev pub Stores : {V A : Type 0} → WalkState V A → WalkState V A → List ℕ → Type 0
Stores old new ks = (k : ℕ) → times k (answered_keys new.slots) ≡ times k (answered_keys old.slots) + times k ks

-- the requests of a letter were noted
abbrev pub Notes : List Request → List Request → LetterValue → Type 0
Notes old new l = (q k : ℕ) → times k (keys_for q new) ≡ times k (keys_for q old) + times k (if eqb q l.from then asked_in l.content else [])

-- the same, by the members of the visit's traits
abbrev pub CanReadIn : {V A : Type 0} → visits.Ghosts V A → seens.Ghosts A → World → State → WalkState V A → List Request → LetterValue → Type 0
CanReadIn v a w s walk rs l = CanRead (meant_by v a walk.visit) w s walk rs l

-- in each world in which the letter can be read this is so
abbrev pub WhereRead : {V A : Type 0} → visits.Ghosts V A → seens.Ghosts A → State → WalkState V A → List Request → LetterValue → (World → Type 0) → Type 0
WhereRead v a s walk rs l P = (w : World) → CanReadIn v a w s walk rs l → P w
