use Rattle.std.proofs.Common.{refl, sym, ap, ◌∙◌, ◌≡◌, ◌∷◌, map, remove}
use Rattle.cell_mail.specs.Letters.{LetterValue}
use Rattle.wire.specs.declared.mem_wire.Waiting.{Waiting}
use Rattle.wire.specs.declared.entry.Entry.TheVariants.{Taken}
use Rattle.cell_mail.specs.Notes.{note_of}
use Rattle.wire.proofs.Lists.{map_remove}
use Rattle.wire.proofs.mem_wire.MemWire.take_at.Goals as goal

-- the letter at the place is pending no more, and the log has its note
pub returns-clause-left : goal.returns-clause-left
returns-clause-left c =
    let f : Waiting → LetterValue = λ h. h.letter in
    let xs = c.self.inside.waiting.items in
    let h = c.in-Some.field-0 in
    let log = c.self.inside.log.newest_first in
    let left : map f c.remove.new.self.items ≡ remove (map f xs) c.args.place = ap (map f) c.in-Some.ensures.items ∙ map_remove f xs c.args.place in
    let noted : c.add.new.self.newest_first ≡ Taken (note_of h.letter) ∷ log = c.add.ensures.entry ∙ ap (λ n. Taken n ∷ log) h.of_it in
    rw (sym c.self.view_is) (rw left (rw noted refl))
