use Rattle.hot_units.specs.Spread.{spread}
use Rattle.hot_units.specs.declared.spread.fn.Spread.of_bytes.TheConstants.{ENTRIES}
use Rattle.hot_units.proofs.Spreads.{spread_at}
use Rattle.hot_units.proofs.spread.Spread+256.of_bytes.Goals as goal

-- each of the 256 entries is held against the definition, by computing
pub invariant_of-result : goal.invariant_of-result
unfolding spread
invariant_of-result c = record { each = λ i inside. spread_at ENTRIES 256 tt i inside }
