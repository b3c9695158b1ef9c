use Rattle.std.proofs.Common.{◌≡◌, take}
use Rattle.cell_mail.specs.Spelling.{keys_of}
use Rattle.cell_mail.proofs.note.Note.of.Given as goal

-- the keys noted are the first ones of the letter
abbrev pub invariant-loop-i : goal.invariant-loop-i
invariant-loop-i l = l.keys ≡ take l.i (keys_of l.fn.letter.content)
