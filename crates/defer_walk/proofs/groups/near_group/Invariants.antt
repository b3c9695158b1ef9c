use Rattle.std.proofs.Common.{ℕ, Bool, List, drop, ◌++◌}
use Rattle.hot_units.specs.Values.{CellValue}
use Rattle.rank_model.specs.World.{World}
use Rattle.rank_model.specs.Pairs.{PairValue}
use Rattle.defer_walk.specs.declared.asks.Slot.{Slot}
use Rattle.defer_walk.specs.Tallies.{TallyValue, noted}
use Rattle.defer_walk.specs.Grouping.{group, opened_keys}
use Rattle.defer_walk.specs.Standing.{meaning}
use Rattle.defer_walk.specs.Turning.{Keeps, IsLeafGroup}
use Rattle.defer_walk.proofs.groups.near_group.Given as goal

abbrev pub invariant-loop-body : goal.invariant-loop-body
invariant-loop-body g l =
    (w : World) (me : ℕ) (tally : TallyValue) (slots : List Slot) (keep : List PairValue) (whole : Bool) (rec : CellValue) → IsLeafGroup (meaning g.V.Visit.zero_of g.V.Visit.adds g.V.Visit.opens_by g.V.Acc.Seen.seen_of l.visit) w me l.piece l.fn.accs tally slots keep whole rec l.bodies l.others
    → Keeps (meaning g.V.Visit.zero_of g.V.Visit.adds g.V.Visit.opens_by g.V.Acc.Seen.seen_of l.visit) w me l.piece l.accs (noted (opened_keys whole rec.key) tally l.body-index) slots (keep ++ group whole rec (drop l.body-index l.bodies))
