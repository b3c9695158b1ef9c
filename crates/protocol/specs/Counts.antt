-- How much letters and entries of a log weigh, by their notes.
use Rattle.std.specs.Prelude.{ℕ, ◌+◌, Bool, true, false, eqb, ◌&&◌, if◌then◌else◌, List, [], ◌∷◌}
use Rattle.std.specs.Cmp.Lexicographic.{pointwise}
use Rattle.cell_mail.specs.declared.content.Kind.{Kind}
use Rattle.cell_mail.specs.declared.content.Kind.TheVariants.{Branches, Asks, Answers}
use Rattle.cell_mail.specs.Letters.{LetterValue}
use Rattle.cell_mail.specs.declared.note.Note.{Note}
use Rattle.wire.specs.declared.entry.Entry.{Entry}
use Rattle.wire.specs.declared.entry.Entry.TheVariants.{Posted, Taken, Round}
use Rattle.cell_mail.specs.Notes.{note_of}
use Rattle.rank_core.specs.Times.{flag, times}

-- what the letters weigh together
abbrev pub in_letters : (Note → ℕ) → List LetterValue → ℕ
in_letters f [] = 0
in_letters f (l ∷ ls) = f (note_of l) + in_letters f ls

-- what the posted letters of a log weigh
abbrev pub in_posted : (Note → ℕ) → List Entry → ℕ
in_posted f [] = 0
in_posted f (Posted l ∷ log) = f (note_of l) + in_posted f log
in_posted f (Taken n ∷ log) = in_posted f log
in_posted f (Round ∷ log) = in_posted f log

-- what the taken letters of a log weigh
abbrev pub in_taken : (Note → ℕ) → List Entry → ℕ
in_taken f [] = 0
in_taken f (Posted l ∷ log) = in_taken f log
in_taken f (Taken n ∷ log) = f n + in_taken f log
in_taken f (Round ∷ log) = in_taken f log

-- what the letters weigh that were posted since the last round ended
abbrev pub in_stretch : (Note → ℕ) → List Entry → ℕ
in_stretch f [] = 0
in_stretch f (Posted l ∷ log) = f (note_of l) + in_stretch f log
in_stretch f (Taken n ∷ log) = in_stretch f log
in_stretch f (Round ∷ log) = 0

-- whether two kinds are the same
abbrev pub same_kind : Kind → Kind → Bool
same_kind Branches Branches = true
same_kind Branches Asks = false
same_kind Branches Answers = false
same_kind Asks Branches = false
same_kind Asks Asks = true
same_kind Asks Answers = false
same_kind Answers Branches = false
same_kind Answers Asks = false
same_kind Answers Answers = true

-- whether two notes are the same
abbrev pub same_note : Note → Note → Bool
same_note m n = same_kind m.kind n.kind && (eqb m.from n.from && (eqb m.to n.to && pointwise eqb m.keys n.keys))

-- the notes of the letters that were posted, and of those that were taken
abbrev pub posted_notes : List Entry → List Note
posted_notes [] = []
posted_notes (Posted l ∷ log) = note_of l ∷ posted_notes log
posted_notes (Taken n ∷ log) = posted_notes log
posted_notes (Round ∷ log) = posted_notes log

-- the notes of the letters that were taken
abbrev pub taken_notes : List Entry → List Note
taken_notes [] = []
taken_notes (Posted l ∷ log) = taken_notes log
taken_notes (Taken n ∷ log) = n ∷ taken_notes log
taken_notes (Round ∷ log) = taken_notes log

-- whether the note is of a letter of this kind from the one rank to the other
unfoldable pub is_between : Kind → ℕ → ℕ → Note → Bool
is_between k from to n = same_kind k n.kind && (eqb from n.from && eqb to n.to)

-- 1 for such a letter, else 0
unfoldable pub one_between : Kind → ℕ → ℕ → Note → ℕ
one_between k from to n = flag (is_between k from to n)

-- how often the key stands in it, where it is such a letter
unfoldable pub key_between : Kind → ℕ → ℕ → ℕ → Note → ℕ
key_between k from to c n = if is_between k from to n then times c n.keys else 0

-- whether the note is of an asks letter of rank q
unfoldable pub is_ask_of : ℕ → Note → Bool
is_ask_of q n = same_kind Asks n.kind && eqb q n.from

-- whether the note is of an answers letter to rank q
unfoldable pub is_answer_to : ℕ → Note → Bool
is_answer_to q n = same_kind Answers n.kind && eqb q n.to

-- how often rank q asks for the cell in the letter
unfoldable pub asks_by : ℕ → ℕ → Note → ℕ
asks_by q c n = if is_ask_of q n then times c n.keys else 0

-- how often the cell is answered to rank q in the letter
unfoldable pub answers_to : ℕ → ℕ → Note → ℕ
answers_to q c n = if is_answer_to q n then times c n.keys else 0

-- 1 for every letter
abbrev pub any_letter : Note → ℕ
any_letter n = 1
