use Rattle.std.proofs.Common.{◌≡◌, ◌-◌, vec_len}
use Rattle.rank_model.specs.World.{World}
use Rattle.split_table.specs.Steps.{AreLists}
use Rattle.split_table.proofs.TopRecords.{first_records, most_tops}
use Rattle.split_table.proofs.tops.top_records.Given as goal

-- the records are those of the first top cells, as many as are listed
abbrev pub invariant-loop-cell : goal.invariant-loop-cell
invariant-loop-cell l = (w : World) → AreLists w l.lists → l.records.items ≡ first_records w (vec_len l.records)

-- how many records are left of the most top cells
abbrev pub decreases-loop-cell : goal.decreases-loop-cell
decreases-loop-cell l = most_tops - vec_len l.records
