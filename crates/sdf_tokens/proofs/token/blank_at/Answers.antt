use Rattle.std.proofs.Common.{arith}
use Rattle.std.proofs.lemmas.Grind.{common_steps}
use Rattle.sdf_tokens.specs.Tokens.{blank_at}
use Rattle.sdf_tokens.proofs.token.blank_at.Goals as goal

pub returns-then-is_blank-clause-exact : goal.returns-then-is_blank-clause-exact
unfolding blank_at
returns-then-is_blank-clause-exact c = grind (arith, common_steps)

pub returns-then-first-eq35-clause-exact : goal.returns-then-first-eq35-clause-exact
unfolding blank_at
returns-then-first-eq35-clause-exact c = grind (arith, common_steps)

pub returns-then-begins_with-clause-exact : goal.returns-then-begins_with-clause-exact
unfolding blank_at
returns-then-begins_with-clause-exact c = grind (arith, common_steps)
