-- What each event keeps.
use Rattle.std.specs.Prelude.{ℕ, ◌+◌, ◌-◌, ◌*◌, ◌<◌, ◌≤◌, ◌≡◌, ◌≢◌, ◌++◌, ◌↔◌, Bool, true, IsTrue, List, [], ◌∷◌, Some, length, count_by, slice_get, slice_set}
use Rattle.hot_units.specs.Values.{BodyValue, CellValue}
use Rattle.rank_model.specs.World.{World, IsGood}
use Rattle.rank_model.specs.Needs.{Needs, IsForeign, met_cells, round_bound}
use Rattle.cell_mail.specs.declared.content.Kind.TheVariants as kinds
use Rattle.cell_mail.specs.Letters.{LetterValue}
use Rattle.wire.specs.declared.wire.Turn.{Turn}
use Rattle.wire.specs.Desk.{Desk, letters_in, rounds_in, Takes, posted, turned, rounded}
use Rattle.wire.specs.declared.entry.Entry.{Entry}
use Rattle.cell_mail.specs.declared.note.Note.{Note}
use Rattle.rank_core.specs.Times.{times}
use Rattle.protocol.specs.Counts.{in_posted, in_taken, one_between, asks_by, answers_to, same_note, posted_notes, taken_notes}
use Rattle.rank_core.specs.Truth.{TrueLetter, owner_of}
use Rattle.rank_core.specs.Seat.{Seat, Moves, with_outbox, with_inbox, IsFresh}
use Rattle.protocol.specs.Logs.{needs_in_all, IsPrompt, Legal, PostAllowed, Complete, taken_since}
use Rattle.protocol.specs.Depth.{Deep}
use Rattle.protocol.specs.Joint.{Joint, IsStart, AllQuiet, AllWorked, AllFinished, AllNew, IsBegun, asks_on_way, answers_on_way}

-- all holds together for new ranks of a good world and a wire that was begun
abbrev pub StartHolds : Type 0
StartHolds = (opens : BodyValue → CellValue → Bool) (w : World) (ss : List Seat) (d : Desk) → IsGood w → length ss ≡ w.ranks → AllNew ss → IsBegun d → Joint opens w ss d × AllQuiet ss × IsStart d.log × Deep ss d 0

-- each rank steps, where all outboxes are empty and nothing is posted yet in this round
abbrev pub StepKeeps : Type 0
StepKeeps = (opens : BodyValue → CellValue → Bool) (w : World) (ss ts : List Seat) (d : Desk) → Joint opens w ss d → AllQuiet ss → IsStart d.log → length ts ≡ length ss → ((q : ℕ) (s t : Seat) → slice_get ss q ≡ Some s → slice_get ts q ≡ Some t → Moves opens w s t) → Joint opens w ts d × AllWorked ts

-- the oldest letter of an outbox may be posted, and all still holds together
abbrev pub PostKeeps : Type 0
PostKeeps = (opens : BodyValue → CellValue → Bool) (w : World) (ss : List Seat) (d : Desk) (q : ℕ) (s t : Seat) (l : LetterValue) → Joint opens w ss d → slice_get ss q ≡ Some s → s.outbox ≡ l ∷ t.outbox → t ≡ with_outbox s t.outbox → PostAllowed opens w d.log l × Joint opens w (slice_set ss q t) (posted d l)

-- what the wire gives is true, and its receiver may take it; and then all still holds together. The log is legal even
-- where the receiver is refused memory
abbrev pub TakeKeeps : Type 0
TakeKeeps = (opens : BodyValue → CellValue → Bool) (w : World) (ss : List Seat) (d e : Desk) (l : LetterValue) (s : Seat) → Joint opens w ss d → Takes d l e → slice_get ss l.to ≡ Some s → TrueLetter w l × (l.to ≡ s.me) × IsFresh s l × Legal opens w e.log × ((t : Seat) → t ≡ with_inbox s (s.inbox ++ l ∷ []) → Joint opens w (slice_set ss l.to t) e)

-- the turn alone says nothing
abbrev pub TurnKeeps : Type 0
TurnKeeps = (opens : BodyValue → CellValue → Bool) (w : World) (ss : List Seat) (d : Desk) (t : Turn) → Joint opens w ss d → Joint opens w ss (turned d t)

-- a round ends in which a letter was taken, and nothing is posted yet in the next one
abbrev pub RoundKeeps : Type 0
RoundKeeps = (opens : BodyValue → CellValue → Bool) (w : World) (ss : List Seat) (d : Desk) → Joint opens w ss d → taken_since d.log ≡ true → Joint opens w ss (rounded d) × IsStart (rounded d).log

-- between any two events a rank has not asked for a cell of another rank; or it did so once, and that ask is in one place, or
-- the answer is, or the answer was read
abbrev pub OneState : Type 0
OneState = (opens : BodyValue → CellValue → Bool) (w : World) (ss : List Seat) (d : Desk) (q p c : ℕ) (sq sp : Seat) → Joint opens w ss d → slice_get ss q ≡ Some sq → slice_get ss p ≡ Some sp → p ≢ q → owner_of w c ≡ p → (times c sq.asked ≤ 1) × (times c sq.asked ≡ asks_on_way q c sq sp d + (answers_on_way q c sq sp d + times c sq.answered))

-- and for a cell of its own, or of no rank, a rank never asks
abbrev pub OwnFresh : Type 0
OwnFresh = (opens : BodyValue → CellValue → Bool) (w : World) (ss : List Seat) (d : Desk) (q c : ℕ) (sq : Seat) → Joint opens w ss d → slice_get ss q ≡ Some sq → (IsForeign w q c → ⊥) → times c sq.asked ≡ 0

-- a round after whose posting nothing is pending leaves every rank finished, and the log complete
abbrev pub QuietEnds : Type 0
QuietEnds = (opens : BodyValue → CellValue → Bool) (w : World) (ss : List Seat) (d : Desk) → Joint opens w ss d → AllWorked ss → AllQuiet ss → d.pending ≡ [] → AllFinished ss × Legal opens w (rounded d).log × Complete opens w (rounded d).log

-- two notes are the same where their test is true
abbrev pub SameNotes : Type 0
SameNotes = (m n : Note) → IsTrue (same_note m n) ↔ (m ≡ n)

-- in each front of a legal log a note stands among those taken at most as often as among those posted
abbrev pub TakenOnce : Type 0
TakenOnce = (opens : BodyValue → CellValue → Bool) (w : World) (later front : List Entry) (n : Note) → Legal opens w (later ++ front) → count_by (same_note n) (taken_notes front) ≤ count_by (same_note n) (posted_notes front)

-- in each front of a legal log a rank that asked for a cell has taken the branches of all other ranks
abbrev pub BranchesFirst : Type 0
BranchesFirst = (opens : BodyValue → CellValue → Bool) (w : World) (later front : List Entry) (q c p : ℕ) → Legal opens w (later ++ front) → p < w.ranks → p ≢ q → 1 ≤ in_posted (asks_by q c) front → 1 ≤ in_taken (one_between kinds.Branches p q) front

-- and of a cell that was answered to a rank, the ask of that rank was taken
abbrev pub AsksFirst : Type 0
AsksFirst = (opens : BodyValue → CellValue → Bool) (w : World) (later front : List Entry) (q c : ℕ) → Legal opens w (later ++ front) → 1 ≤ in_posted (answers_to q c) front → 1 ≤ in_taken (asks_by q c) front

-- in a legal and complete log the cells that a rank asks for are exactly those that it needs, each once
abbrev pub AsksExactly : Type 0
AsksExactly = (opens : BodyValue → CellValue → Bool) (w : World) (log : List Entry) → Legal opens w log → Complete opens w log → (q c : ℕ) → (Needs opens w q c → in_posted (asks_by q c) log ≡ 1) × ((Needs opens w q c → ⊥) → in_posted (asks_by q c) log ≡ 0)

-- each rank needs at most the cells that are met, and those of all are needed by at most all ranks but one
abbrev pub FewNeeds : Type 0
FewNeeds = (opens : BodyValue → CellValue → Bool) (w : World) → IsGood w → needs_in_all opens w ≤ (w.ranks - 1) * length (met_cells opens w)

-- a legal log has few letters: one for each two ranks, and two for each needed cell
abbrev pub FewLetters : Type 0
FewLetters = (opens : BodyValue → CellValue → Bool) (w : World) (log : List Entry) → Legal opens w log → letters_in log ≤ w.ranks * (w.ranks - 1) + 2 * needs_in_all opens w

-- and few rounds: at most one more than letters
abbrev pub FewRounds : Type 0
FewRounds = (opens : BodyValue → CellValue → Bool) (w : World) (log : List Entry) → IsGood w → Legal opens w log → rounds_in log ≤ round_bound opens w

-- between two rounds the wire has room for the next one, and there is one more to come below the bound
abbrev pub RoundsLeft : Type 0
RoundsLeft = (opens : BodyValue → CellValue → Bool) (w : World) (ss : List Seat) (d : Desk) → Joint opens w ss d → (rounds_in d.log ≤ letters_in d.log) × (rounds_in d.log < round_bound opens w)

-- where each round took all letters that were posted before it ended: a step makes the letters of the next round
abbrev pub StepDeepens : Type 0
StepDeepens = (opens : BodyValue → CellValue → Bool) (w : World) (ss ts : List Seat) (d : Desk) → Joint opens w ss d → AllQuiet ss → IsStart d.log → length ts ≡ length ss → ((q : ℕ) (s t : Seat) → slice_get ss q ≡ Some s → slice_get ts q ≡ Some t → Moves opens w s t) → IsPrompt d.log → (n : ℕ) → Deep ss d n → Deep ts d (n + 1)

-- a letter that is posted or taken, and the turn, leave in the boxes letters of the same round
abbrev pub PostDeep : Type 0
PostDeep = (ss : List Seat) (d : Desk) (n q : ℕ) (s t : Seat) (l : LetterValue) → slice_get ss q ≡ Some s → s.outbox ≡ l ∷ t.outbox → t ≡ with_outbox s t.outbox → Deep ss d n → Deep (slice_set ss q t) (posted d l) n

-- the same of a letter that is taken
abbrev pub TakeDeep : Type 0
TakeDeep = (opens : BodyValue → CellValue → Bool) (w : World) (ss : List Seat) (d e : Desk) (l : LetterValue) (n : ℕ) (s t : Seat) → Joint opens w ss d → Takes d l e → slice_get ss l.to ≡ Some s → t ≡ with_inbox s (s.inbox ++ l ∷ []) → Deep ss d n → Deep (slice_set ss l.to t) e n

-- the same of a change of the turn
abbrev pub TurnDeep : Type 0
TurnDeep = (ss : List Seat) (d : Desk) (n : ℕ) (t : Turn) → Deep ss d n → Deep ss (turned d t) n

-- and after a round that is not the last one there were fewer than there may be in all
abbrev pub RoundDeep : Type 0
RoundDeep = (ss : List Seat) (d : Desk) (n : ℕ) → n ≡ rounds_in d.log + 1 → taken_since d.log ≡ true → Deep ss d n → Deep ss (rounded d) n
