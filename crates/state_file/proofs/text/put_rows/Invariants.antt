use Rattle.std.proofs.Common.{◌≡◌, take}
use Rattle.hot_io.specs.Writing.{Passes}
use Rattle.state_file.specs.Texts.{rows_text}
use Rattle.state_file.proofs.text.put_rows.Given as goal

abbrev pub invariant-loop-i : goal.invariant-loop-i
invariant-loop-i g l = record {
  unfailed : g.O.Sink.faults l.out ≡ g.O.Sink.faults l.initial.out;
  so_far : Passes (g.O.Sink.written l.initial.out) l.initial.block (g.O.Sink.written l.out) l.block (rows_text (take l.i l.state) (take l.i l.idents));
}
