use Rattle.std.proofs.Common.{◌≡◌, take, flat_map}
use Rattle.hot_io.specs.Writing.{Passes}
use Rattle.split_table.specs.Text.{top_line}
use Rattle.split_table.proofs.text.put_tops.Given as goal

-- the output has not failed, and the lines of the top cells so far are on their way
abbrev pub invariant-loop-rec : goal.invariant-loop-rec
invariant-loop-rec g l = record {
  unfailed : g.O.Sink.faults l.out ≡ g.O.Sink.faults l.initial.out;
  so_far : Passes (g.O.Sink.written l.initial.out) l.initial.block (g.O.Sink.written l.out) l.block (flat_map top_line (take l.rec-index l.tops));
}
