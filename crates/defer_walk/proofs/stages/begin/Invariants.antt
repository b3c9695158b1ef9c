use Rattle.std.proofs.Common.{ℕ, ◌≡◌, false, Some, length}
use Rattle.rank_model.specs.World.{World, IsGood, record_in, piece}
use Rattle.defer_walk.specs.Asked.{Extends}
use Rattle.defer_walk.specs.Grouping.{group, places_to}
use Rattle.defer_walk.specs.Standing.{meaning, pairs_in, roots}
use Rattle.defer_walk.specs.Turning.{Beginning, Runs}
use Rattle.defer_walk.proofs.stages.begin.Given as goal

abbrev pub invariant-loop-to : goal.invariant-loop-to
invariant-loop-to g l = record {
  runs : (w : World) (me : ℕ) (start : Beginning) → g.C.Cells.stands l.cells w me → IsGood w → l.piece ≡ piece w me → start.advanced ≡ false → record_in w 1 ≡ Some l.root
      → Runs (meaning g.V.Visit.zero_of g.V.Visit.adds g.V.Visit.opens_by g.V.Acc.Seen.seen_of l.visit) w me start l.piece l.fn.accs l.fn.tally l.fn.asks.slots (pairs_in w (roots (length l.piece))) (pairs_in w l.fn.asks.pairs)
      → Runs (meaning g.V.Visit.zero_of g.V.Visit.adds g.V.Visit.opens_by g.V.Acc.Seen.seen_of l.visit) w me start l.piece l.accs l.tally l.asks.slots (group false l.root (places_to l.to)) (pairs_in w l.asks.pairs);
  extends : Extends l.fn.asks.slots l.asks.slots;
}

abbrev pub decreases-loop-to : goal.decreases-loop-to
decreases-loop-to g l = l.to
