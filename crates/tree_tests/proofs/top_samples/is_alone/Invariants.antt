use Rattle.std.proofs.Common.{ℕ, ◌≡◌, ◌<◌, true, get_or}
use Rattle.hot_units.specs.Keys.{covers}
use Rattle.branch_merge.specs.declared.listed.Listed.{Listed}
use Rattle.tree_tests.proofs.top_samples.is_alone.Given as goal

abbrev pub invariant-loop-j : goal.invariant-loop-j
invariant-loop-j l = (k : ℕ) (d : Listed) → k < l.j → covers l.rec.key (get_or l.listed k d).rec.key ≡ true → l.place ≡ k
