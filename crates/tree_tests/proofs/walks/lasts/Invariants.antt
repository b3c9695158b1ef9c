use Rattle.tree_tests.specs.UnderWay.{IsUnderWay}
use Rattle.tree_tests.proofs.walks.lasts.Given as goal

-- the walk is under way
abbrev pub invariant-loop-advances : goal.invariant-loop-advances
invariant-loop-advances g l = IsUnderWay g.V.Visit.zero_of g.V.Visit.adds g.V.Visit.opens_by g.V.Acc.Seen.seen_of l.cells l.walk
