use Rattle.std.proofs.Common.{◌≡◌, true}
use Rattle.hot_io.proofs.tests.read_all.Given as goal

abbrev pub invariant-loop : goal.invariant-loop
invariant-loop g l = record {
  unfailed : g.S.Source.faults l.source ≡ 0;
  opened : g.S.Source.is_open l.source ≡ true;
}
