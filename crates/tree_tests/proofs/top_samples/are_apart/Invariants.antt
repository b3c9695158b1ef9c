use Rattle.std.proofs.Common.{ℕ, ◌≡◌, ◌<◌, true, length, get_or}
use Rattle.hot_units.specs.Keys.{covers}
use Rattle.branch_merge.specs.declared.listed.Listed.{Listed}
use Rattle.tree_tests.proofs.top_samples.are_apart.Given as goal

abbrev pub invariant-loop-i : goal.invariant-loop-i
invariant-loop-i l = (k j : ℕ) (d : Listed) → k < l.i → j < length l.listed → covers (get_or l.listed k d).rec.key (get_or l.listed j d).rec.key ≡ true → k ≡ j
