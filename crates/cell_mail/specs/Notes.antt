-- What a log keeps of a letter that was taken.
use Rattle.cell_mail.specs.Letters.{LetterValue, kind_of}
use Rattle.cell_mail.specs.Spelling.{keys_of}
use Rattle.cell_mail.specs.declared.note.Note.{Note}

-- the note of a letter: its sender, its receiver, its kind and the keys of its items
abbrev pub note_of : LetterValue → Note
note_of l = record { from = l.from; to = l.to; kind = kind_of l.content; keys = keys_of l.content }
