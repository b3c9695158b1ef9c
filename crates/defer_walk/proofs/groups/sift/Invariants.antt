use Rattle.std.proofs.Common.{ℕ, ◌≡◌, ◌≤◌, List, drop, ◌++◌, false}
use Rattle.rank_model.specs.World.{World}
use Rattle.rank_model.specs.Pairs.{PairValue}
use Rattle.defer_walk.specs.declared.asks.Slot.{Slot}
use Rattle.defer_walk.specs.Tallies.{TallyValue}
use Rattle.defer_walk.specs.Grouping.{group, AreOpened}
use Rattle.defer_walk.specs.Standing.{meaning}
use Rattle.defer_walk.specs.Turning.{Keeps}
use Rattle.defer_walk.proofs.groups.sift.Given as goal

abbrev pub invariant-loop-i : goal.invariant-loop-i
invariant-loop-i g l = record {
  kept : (kept : List ℕ) × (l.places.items ≡ l.fn.places.items ++ kept) × AreOpened (g.V.Visit.opens_by l.visit) l.piece false l.rec kept
      × ((w : World) (me : ℕ) (tally : TallyValue) (slots : List Slot) (keep : List PairValue) → Keeps (meaning g.V.Visit.zero_of g.V.Visit.adds g.V.Visit.opens_by g.V.Acc.Seen.seen_of l.visit) w me l.piece l.fn.accs tally slots (keep ++ group false l.rec (drop l.from l.fn.places.items))
      → Keeps (meaning g.V.Visit.zero_of g.V.Visit.adds g.V.Visit.opens_by g.V.Acc.Seen.seen_of l.visit) w me l.piece l.accs tally slots (keep ++ group false l.rec (kept ++ drop l.i l.fn.places.items)));
  low : l.from ≤ l.i;
}
