use Rattle.std.proofs.Common.{◌≡◌, take, flat_map}
use Rattle.hot_io.specs.Writing.{Passes}
use Rattle.run_report.specs.Text.{rank_line}
use Rattle.run_report.proofs.text.put_efforts.Given as goal

-- the sink has not failed, and the lines of the ranks so far are on their way
abbrev pub invariant-loop-effort : goal.invariant-loop-effort
invariant-loop-effort g l = record {
  unfailed : g.E.Sink.faults l.err ≡ g.E.Sink.faults l.initial.err;
  so_far : Passes (g.E.Sink.written l.initial.err) l.initial.block (g.E.Sink.written l.err) l.block (flat_map rank_line (take l.effort-index l.efforts));
}
