use Rattle.rank_set.proofs.Settling.{Settling, left_to_place}
use Rattle.rank_set.proofs.place.place_by_row.Given as goal

-- each result stands beside its row, and the rows passed stand at their places
abbrev pub invariant-loop-place : goal.invariant-loop-place
invariant-loop-place g l = Settling l.bodies l.fn.results.items l.rows.items l.placed.items l.place

-- how many places are left to pass, and how many rows are not at theirs
abbrev pub decreases-loop-place : goal.decreases-loop-place
decreases-loop-place g l = left_to_place l.place l.rows.items
