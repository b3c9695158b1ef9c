use Rattle.std.proofs.Common.{◌≡◌, take, flat_map}
use Rattle.hot_io.specs.Writing.{Passes}
use Rattle.split_table.specs.Text.{share_line}
use Rattle.split_table.proofs.text.put_shares.Given as goal

-- the output has not failed, and the lines of the ranks so far are on their way
abbrev pub invariant-loop-share : goal.invariant-loop-share
invariant-loop-share g l = record {
  unfailed : g.O.Sink.faults l.out ≡ g.O.Sink.faults l.initial.out;
  so_far : Passes (g.O.Sink.written l.initial.out) l.initial.block (g.O.Sink.written l.out) l.block (flat_map share_line (take l.share-index l.shares));
}
