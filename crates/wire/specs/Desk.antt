-- What a wire holds, and what each of its calls makes of it.
use Rattle.std.specs.Prelude.{◌≡◌, ◌++◌, ◌∷◌, [], ℕ, ◌+◌, List, Bool}
use Rattle.hot_units.specs.declared.mail.Mail.{Mail}
use Rattle.cell_mail.specs.Letters.{LetterValue}
use Rattle.wire.specs.declared.entry.Entry.{Entry}
use Rattle.wire.specs.declared.entry.Entry.TheVariants.{Posted, Taken, Round}
use Rattle.wire.specs.declared.wire.Turn.{Turn}
use Rattle.wire.specs.declared.wire.Turn.TheVariants.{Free, Used}
use Rattle.cell_mail.specs.Notes.{note_of}

-- a wire, as its callers see it
pub record Desk : Type 0 where
  pub pending : List LetterValue  -- the letters that wait, the oldest first
  pub log : List Entry  -- what happened since the last `begin`, the newest first
  pub turn : Turn
  pub mail : Mail  -- that of the last `begin`
  pub eager : Mail → Bool  -- under which mails another letter may always be taken

-- how many letters were posted
abbrev pub letters_in : List Entry → ℕ
letters_in [] = 0
letters_in (Posted letter ∷ log) = 1 + letters_in log
letters_in (Taken note ∷ log) = letters_in log
letters_in (Round ∷ log) = letters_in log

-- how many rounds ended
abbrev pub rounds_in : List Entry → ℕ
rounds_in [] = 0
rounds_in (Posted letter ∷ log) = rounds_in log
rounds_in (Taken note ∷ log) = rounds_in log
rounds_in (Round ∷ log) = 1 + rounds_in log

-- after `begin`: free, with nothing pending and an empty log
abbrev pub begun : Desk → Mail → Desk
begun d mail = record { pending = []; log = []; turn = Free; mail = mail; eager = d.eager }

-- after `post`: the letter is the newest of the pending ones, and of the log
abbrev pub posted : Desk → LetterValue → Desk
posted d letter = record { pending = d.pending ++ letter ∷ []; log = Posted letter ∷ d.log; turn = d.turn; mail = d.mail; eager = d.eager }

-- `take` gave this letter: one of the pending ones, whichever, went out, and the log has its note
abbrev pub Takes : Desk → LetterValue → Desk → Type 0
Takes d letter e =
    (before : List LetterValue) × (after : List LetterValue)
    × (d.pending ≡ before ++ letter ∷ after)
    × (e ≡ record { pending = before ++ after; log = Taken (note_of letter) ∷ d.log; turn = Used; mail = d.mail; eager = d.eager })

-- after `more`: the turn alone is another
abbrev pub turned : Desk → Turn → Desk
turned d turn = record { pending = d.pending; log = d.log; turn = turn; mail = d.mail; eager = d.eager }

-- after `round`: free, and the log has one round more
abbrev pub rounded : Desk → Desk
rounded d = record { pending = d.pending; log = Round ∷ d.log; turn = Free; mail = d.mail; eager = d.eager }

-- a log, as its callers see it
pub record LogView : Type 0 where
  pub newest_first : List Entry
  pub room : ℕ  -- for how many entries more there is room
