use Rattle.std.proofs.Common.{ℕ, ◌/◌, ◌-◌, ap}
use Rattle.hot_units.proofs.Digits.{two_pow_three}
use Rattle.local_tree.proofs.places.front.Goals as goal

pub returns : goal.returns
returns c = record { value = ap (λ (n : ℕ). c.args.key / n) (two_pow_three (21 - c.args.level)) }
