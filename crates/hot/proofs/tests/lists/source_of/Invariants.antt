use Rattle.std.proofs.Common.{◌≡◌, None}
use Rattle.hot.proofs.tests.lists.source_of.Given as goal

-- no file is open, none was opened, and nothing failed
abbrev pub invariant-parts : goal.invariant-parts
invariant-parts g l = (l.source.faults ≡ 0) × (l.source.opens ≡ 0) × (l.source.left ≡ None)
