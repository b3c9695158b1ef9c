use Rattle.std.proofs.Common.{◌≤◌, ◌^◌, arith}
use Rattle.std.proofs.lemmas.Nat.{mul-le}
use Rattle.well_walk.proofs.depths.apart2.Goals as goal

pub returns-clause-within : goal.returns-clause-within
returns-clause-within c =
    let g : c.from-apart.result ≤ 2 ^ 29 = omega arith in mul-le _ _ (2 ^ 29) (2 ^ 29) g g
