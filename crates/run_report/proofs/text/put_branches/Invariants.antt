use Rattle.std.proofs.Common.{◌≡◌, take, flat_map}
use Rattle.hot_io.specs.Writing.{Passes}
use Rattle.run_report.specs.Text.{branch_line}
use Rattle.run_report.proofs.text.put_branches.Given as goal

-- the sink has not failed, and the lines of the branches so far are on their way
abbrev pub invariant-loop-branch : goal.invariant-loop-branch
invariant-loop-branch g l = record {
  unfailed : g.E.Sink.faults l.err ≡ g.E.Sink.faults l.initial.err;
  so_far : Passes (g.E.Sink.written l.initial.err) l.initial.block (g.E.Sink.written l.err) l.block (flat_map branch_line (take l.branch-index l.branches));
}
