use Rattle.tree_tests.specs.UnderWay.{IsUnderWay}
use Rattle.tree_tests.proofs.walks.supply.Given as goal

-- the walk is under way
abbrev pub invariant-loop-at : goal.invariant-loop-at
invariant-loop-at g l = IsUnderWay g.V.Visit.zero_of g.V.Visit.adds g.V.Visit.opens_by g.V.Acc.Seen.seen_of l.cells l.walk
