use Rattle.std.proofs.Common.{◌≡◌, map, take, []}
use Rattle.hot_io.specs.Writing.{joined, Passes}
use Rattle.hot_io.proofs.writers.write_pieces.Given as goal

abbrev pub invariant-loop-piece : goal.invariant-loop-piece
invariant-loop-piece g l = record {
  unfailed : g.K.Sink.faults l.sink ≡ g.K.Sink.faults l.initial.sink;
  so_far : Passes (g.K.Sink.written l.initial.sink) [] (g.K.Sink.written l.sink) l.block (joined (map (λ p. p.now) (take l.piece-index l.pieces)));
}
