use Rattle.std.proofs.Common.{◌≡◌, take, flat_map}
use Rattle.hot_io.specs.Writing.{Passes}
use Rattle.near_out.specs.NearText.{row_word}
use Rattle.near_out.proofs.text.put_rows.Given as goal

-- the output has not failed, and the rows so far are on their way
abbrev pub invariant-loop-row : goal.invariant-loop-row
invariant-loop-row g l = record {
  unfailed : g.O.Sink.faults l.out ≡ g.O.Sink.faults l.initial.out;
  so_far : Passes (g.O.Sink.written l.initial.out) l.initial.block (g.O.Sink.written l.out) l.block (flat_map row_word (take l.row-index l.rows));
}
