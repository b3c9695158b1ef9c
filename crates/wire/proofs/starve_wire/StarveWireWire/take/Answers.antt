use Rattle.std.proofs.Common.{sym, ap, ◌∙◌}
use Rattle.wire.specs.Desk.{Desk}
use Rattle.wire.specs.Policies.{MemState}
use Rattle.wire.specs.Starving.{never_eager}
use Rattle.wire.proofs.Desks.{takes_at}
use Rattle.wire.proofs.starve_wire.StarveWireWire.take.Goals as goal

-- the wire within, as one that is never eager
abbrev lazy : MemState → Desk
lazy w = record { pending = w.pending; log = w.log; turn = w.turn; mail = w.mail; eager = never_eager }

-- the letter was a pending one, which goes out, and the log has its note
pub returns-clause-taken_or_none : goal.returns-clause-taken_or_none
returns-clause-taken_or_none c =
    let h = takes_at (lazy c.self.inside.wire) c.unwrap_or-place.result c.take_at.result c.take_at.ensures.letter in
    rw (sym c.self.view_is) (h.0, h.1, h.2, ap lazy c.take_at.ensures.left ∙ h.3)
