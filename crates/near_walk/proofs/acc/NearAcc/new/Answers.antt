use Rattle.std.proofs.Common.{ap, List, ℕ}
use Rattle.near_walk.specs.Ascending.{ascending}
use Rattle.near_walk.specs.Near.{near_value}
use Rattle.near_walk.proofs.acc.NearAcc.new.Goals as goal

pub returns : goal.returns
unfolding ascending
returns c = record { value = ap (λ (rows : List ℕ). near_value 0 (ascending rows)) c.new.ensures.items }
