use Rattle.morton_key.proofs.KeyLaws.{one_level_each}
use Rattle.morton_key.proofs.laws.one_level_each.Goals as goal

-- a number has one level at most
pub returns : goal.returns
returns c = record { law = one_level_each }
