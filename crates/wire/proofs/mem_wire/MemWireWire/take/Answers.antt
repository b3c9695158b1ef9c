use Rattle.std.proofs.Common.{ap, ◌∙◌}
use Rattle.wire.specs.Policies.{desk_of}
use Rattle.wire.proofs.Desks.{takes_at}
use Rattle.wire.proofs.mem_wire.MemWireWire.take.Goals as goal

-- the letter was a pending one, which goes out, and the log has its note
pub returns-clause-taken_or_none : goal.returns-clause-taken_or_none
returns-clause-taken_or_none c =
    let h = takes_at (desk_of c.args.self.now) c.place_and_draw-place.result.0 c.take_at-letter.result c.take_at-letter.ensures.letter in
    (h.0, h.1, h.2, ap desk_of (c.self-2.view_is ∙ c.take_at-letter.ensures.left) ∙ h.3)
