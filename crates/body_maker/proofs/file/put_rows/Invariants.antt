use Rattle.std.proofs.Common.{◌≡◌, flat_map}
use Rattle.hot_io.specs.Writing.{Passes}
use Rattle.body_maker.specs.Generator.{state_at, places}
use Rattle.body_maker.specs.Made.{row_bytes}
use Rattle.body_maker.proofs.file.put_rows.Given as goal

-- the output has not failed and the rows so far are on their way; the state is before the next body
abbrev pub invariant-loop-k : goal.invariant-loop-k
invariant-loop-k g l = record {
  unfailed : g.O.Sink.faults l.out ≡ g.O.Sink.faults l.initial.out;
  state : l.state ≡ state_at l.seed l._k;
  so_far : Passes (g.O.Sink.written l.initial.out) l.initial.block (g.O.Sink.written l.out) l.block (flat_map row_bytes (places l._k l.seed));
}
