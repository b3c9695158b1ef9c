use Rattle.std.proofs.Common.{◌≡◌, ◌≤◌, ◌*◌, length}
use Rattle.hot_units.specs.Limits.{max_body_mass}
use Rattle.hot_units.specs.Bodies.{mass_of}
use Rattle.leap_frog.specs.Leap.{bodies_of}
use Rattle.file_tests.proofs.steps.state_of.Given as goal

abbrev pub invariant-loop-row : goal.invariant-loop-row
invariant-loop-row g l = record {
  many : length l.state ≡ l.row-index;
  light : mass_of (bodies_of l.state) ≤ length l.state * max_body_mass;
}
