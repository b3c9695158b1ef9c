use Rattle.std.proofs.Common.{arith}
use Rattle.std.proofs.lemmas.Grind.{common_steps}
use Rattle.sdf_header.specs.Fields.{item_at}
use Rattle.sdf_header.proofs.columns.item_at.Goals as goal

pub returns-then-len-eq-MAX_COLUMNS-clause-exact : goal.returns-then-len-eq-MAX_COLUMNS-clause-exact
unfolding item_at
returns-then-len-eq-MAX_COLUMNS-clause-exact c = grind (arith, common_steps)

pub returns-in-Some-clause-exact : goal.returns-in-Some-clause-exact
unfolding item_at
returns-in-Some-clause-exact c = grind (arith, common_steps)

pub returns-in_err-add_column-clause-exact : goal.returns-in_err-add_column-clause-exact
unfolding item_at
returns-in_err-add_column-clause-exact c = grind (arith, common_steps)

pub returns-clause-exact : goal.returns-clause-exact
unfolding item_at
returns-clause-exact c = grind (arith, common_steps)
