-- All ranks together with the wire.
use Rattle.std.specs.Prelude.{ℕ, ◌+◌, ◌≡◌, ◌≢◌, ◌<◌, ◌≤◌, Bool, true, false, List, [], ◌∷◌, length, Contains, ◌⊎◌, Some, slice_get}
use Rattle.hot_units.specs.Values.{BodyValue, CellValue}
use Rattle.hot_units.specs.Keys.{parent}
use Rattle.rank_model.specs.World.{World, IsGood}
use Rattle.rank_model.specs.Branches.{IsBranch}
use Rattle.rank_model.specs.Needs.{Needs}
use Rattle.cell_mail.specs.declared.content.Kind.{Kind}
use Rattle.cell_mail.specs.declared.content.Kind.TheVariants as kinds
use Rattle.cell_mail.specs.declared.note.Note.{Note}
use Rattle.wire.specs.declared.entry.Entry.{Entry}
use Rattle.wire.specs.declared.entry.Entry.TheVariants.{Posted, Taken, Round}
use Rattle.wire.specs.declared.wire.Turn.TheVariants.{Free}
use Rattle.wire.specs.Desk.{Desk, rounds_in}
use Rattle.rank_core.specs.Times.{flag, times}
use Rattle.protocol.specs.Counts.{in_letters, in_posted, in_taken, in_stretch, one_between, asks_by, answers_to, any_letter}
use Rattle.rank_core.specs.Truth.{owner_of, AllTrue, TrueInbox, TrueOutbox}
use Rattle.rank_core.specs.Seat.{Seat, IsNew, Finished, HeardAll, Reaches, Waits}
use Rattle.protocol.specs.Logs.{Legal, taken_since, is_over}

-- what holds of a rank by itself, in a world
pub record Sits (opens : BodyValue → CellValue → Bool) (w : World) (s : Seat) : Type 0 where
  pub ranks : s.ranks ≡ w.ranks
  pub me : s.me < w.ranks
  pub inbox : TrueInbox w s.me s.inbox
  pub outbox : TrueOutbox w s.me s.outbox
  pub once : (c : ℕ) → times c s.asked ≤ 1
  pub needed : (c : ℕ) → Contains s.asked c → Needs opens w s.me c
  pub ready : (c : ℕ) → Contains s.asked c → HeardAll s
  pub grounds : (c : ℕ) → Contains s.asked c → ((p : ℕ) × IsBranch w p c) ⊎ Contains s.answered (parent c)
  pub known : (c : ℕ) → Contains s.answered c → Contains s.asked c
  pub reaches : HeardAll s → Reaches opens w s

-- where the branches of p for q are: in the outbox of p, in the wire, in the inbox of q, or read
pub record Told (log : List Entry) (p q : ℕ) (sp sq : Seat) : Type 0 where
  pub sent : in_posted (one_between kinds.Branches p q) log + in_letters (one_between kinds.Branches p q) sp.outbox ≡ flag sp.begun
  pub came : in_taken (one_between kinds.Branches p q) log ≡ in_letters (one_between kinds.Branches p q) sq.inbox + times p sq.heard

-- where the ask of q for the cell c, and then the answer, is. It was asked for as often as it is in the outbox of q or
-- was posted; what was taken is in the inbox of the owner, or its answer is in the outbox of the owner or was posted;
-- and of these what was taken is in the inbox of q or read
pub record Trail (log : List Entry) (q c : ℕ) (sq owner : Seat) : Type 0 where
  pub asked : in_posted (asks_by q c) log + in_letters (asks_by q c) sq.outbox ≡ times c sq.asked
  pub came : in_taken (asks_by q c) log ≡ in_letters (asks_by q c) owner.inbox + (in_letters (answers_to q c) owner.outbox + in_posted (answers_to q c) log)
  pub answered : in_taken (answers_to q c) log ≡ in_letters (answers_to q c) sq.inbox + times c sq.answered

-- all that holds of ranks, pending letters and log together, between any two events
pub record Joint (opens : BodyValue → CellValue → Bool) (w : World) (seats : List Seat) (d : Desk) : Type 0 where
  pub good : IsGood w
  pub ranks : length seats ≡ w.ranks
  pub each : (q : ℕ) (s : Seat) → slice_get seats q ≡ Some s → Sits opens w s
  pub place : (q : ℕ) (s : Seat) → slice_get seats q ≡ Some s → s.me ≡ q
  pub told : (p q : ℕ) (sp sq : Seat) → slice_get seats p ≡ Some sp → slice_get seats q ≡ Some sq → p ≢ q → Told d.log p q sp sq
  pub trails : (q p c : ℕ) (sq sp : Seat) → slice_get seats q ≡ Some sq → slice_get seats p ≡ Some sp → p ≢ q → owner_of w c ≡ p → Trail d.log q c sq sp
  pub alone : (k : Kind) (p q : ℕ) (s : Seat) → slice_get seats p ≡ Some s → in_stretch (one_between k p q) d.log + in_letters (one_between k p q) s.outbox ≤ 1
  pub pending : AllTrue w d.pending
  pub mailbox : (f : Note → ℕ) → in_posted f d.log ≡ in_taken f d.log + in_letters f d.pending
  pub legal : Legal opens w d.log
  pub paced : rounds_in d.log + flag (taken_since d.log) ≤ in_taken any_letter d.log
  pub wet : is_over d.log ≡ false

-- as a step leaves a rank
pub record Worked (s : Seat) : Type 0 where
  pub begun : s.begun ≡ true
  pub inbox : s.inbox ≡ []
  pub waits : HeardAll s → s.done ≡ false → (a : ℕ) × Waits s a

-- each rank is as a step leaves it
abbrev pub AllWorked : List Seat → Type 0
AllWorked ss = (q : ℕ) (s : Seat) → slice_get ss q ≡ Some s → Worked s

-- all outboxes are empty
abbrev pub AllQuiet : List Seat → Type 0
AllQuiet ss = (q : ℕ) (s : Seat) → slice_get ss q ≡ Some s → s.outbox ≡ []

-- nothing happened since the last round ended
abbrev pub IsStart : List Entry → Type 0
IsStart [] = Unit {0}
IsStart (Posted l ∷ past) = ⊥
IsStart (Taken n ∷ past) = ⊥
IsStart (Round ∷ past) = Unit {0}

-- each rank is finished
abbrev pub AllFinished : List Seat → Type 0
AllFinished ss = (q : ℕ) (s : Seat) → slice_get ss q ≡ Some s → Finished s

-- each rank is new, at the place of its number, one of as many as there are
abbrev pub AllNew : List Seat → Type 0
AllNew ss = (q : ℕ) (s : Seat) → slice_get ss q ≡ Some s → IsNew q (length ss) s

-- a wire that was begun, and on which nothing happened
pub record IsBegun (d : Desk) : Type 0 where
  pub pending : d.pending ≡ []
  pub log : d.log ≡ []
  pub turn : d.turn ≡ Free

-- how often the ask of rank q for the cell c is on its way: in the outbox of q, in the wire, or in the inbox of the owner
abbrev pub asks_on_way : (q c : ℕ) → Seat → Seat → Desk → ℕ
asks_on_way q c sq owner d = in_letters (asks_by q c) sq.outbox + (in_letters (asks_by q c) d.pending + in_letters (asks_by q c) owner.inbox)

-- how often the answer is: in the outbox of the owner, in the wire, or in the inbox of q
abbrev pub answers_on_way : (q c : ℕ) → Seat → Seat → Desk → ℕ
answers_on_way q c sq owner d = in_letters (answers_to q c) owner.outbox + (in_letters (answers_to q c) d.pending + in_letters (answers_to q c) sq.inbox)
