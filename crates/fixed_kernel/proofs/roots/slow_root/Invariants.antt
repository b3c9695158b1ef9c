use Rattle.std.proofs.Common.{◌≡◌, ◌+◌, ◌*◌, ◌/◌, ◌^◌, ◌<◌, ◌≤◌}
use Rattle.fixed_kernel.proofs.roots.slow_root.Given as goal

abbrev pub invariant-loop-other : goal.invariant-loop-other
invariant-loop-other l = record {
  quotient : l.other ≡ l.n / l.guess;
  positive : 0 < l.guess;
  within : l.guess ≤ 2 ^ 64;
  above : l.n < (l.guess + 1) * (l.guess + 1);
}

abbrev pub decreases-loop-other : goal.decreases-loop-other
decreases-loop-other l = l.guess
