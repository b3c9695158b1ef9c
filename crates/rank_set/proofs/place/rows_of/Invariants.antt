use Rattle.std.proofs.Common.{◌≡◌, map, take}
use Rattle.rank_set.proofs.place.rows_of.Given as goal

-- the rows are those of the bodies so far
abbrev pub invariant-loop-body : goal.invariant-loop-body
invariant-loop-body l = l.rows.items ≡ map (λ b. b.row) (take l.body-index l.bodies)
