-- Wires that a letter is taken out of.
use Rattle.std.proofs.Common.{◌≡◌, ℕ, suc, ◌∷◌, Some, take, drop, remove, slice_get, refl}
use Rattle.cell_mail.specs.Letters.{LetterValue}
use Rattle.wire.specs.declared.entry.Entry.TheVariants.{Taken}
use Rattle.wire.specs.declared.wire.Turn.TheVariants.{Used}
use Rattle.cell_mail.specs.Notes.{note_of}
use Rattle.wire.specs.Desk.{Desk, Takes}
use Rattle.wire.proofs.Lists.{split_at}

-- a wire whose letter at a place is out
abbrev pub without : Desk → ℕ → LetterValue → Desk
without d i l = record { pending = remove d.pending i; log = Taken (note_of l) ∷ d.log; turn = Used; mail = d.mail; eager = d.eager }

-- it is one that may be left where a letter is taken
pub takes_at : (d : Desk) (i : ℕ) (l : LetterValue) → slice_get d.pending i ≡ Some l → Takes d l (without d i l)
takes_at d i l found = (take i d.pending, drop (suc i) d.pending, split_at d.pending i l found, refl)
