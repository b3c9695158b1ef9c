use Rattle.std.proofs.Common.{◌≡◌, take}
use Rattle.hot_io.specs.Writing.{Passes}
use Rattle.well_out.specs.EnergyText.{body_lines}
use Rattle.well_out.proofs.text.put_bodies.Given as goal

-- the output has not failed, and the lines of the bodies so far are on their way
abbrev pub invariant-loop-i : goal.invariant-loop-i
invariant-loop-i g l = record {
  unfailed : g.O.Sink.faults l.out ≡ g.O.Sink.faults l.initial.out;
  so_far : Passes (g.O.Sink.written l.initial.out) l.initial.block (g.O.Sink.written l.out) l.block (body_lines (take l.i l.idents) (take l.i l.wells));
}
