use Rattle.std.proofs.Common.{arith}
use Rattle.std.proofs.lemmas.Grind.{common_steps}
use Rattle.sdf_tokens.specs.Tokens.{behind_close}
use Rattle.sdf_tokens.proofs.token.behind_close.Goals as goal

pub returns-in-empty-clause-exact : goal.returns-in-empty-clause-exact
unfolding behind_close
returns-in-empty-clause-exact c = grind (arith, common_steps)

pub returns-in-42-clause-exact : goal.returns-in-42-clause-exact
unfolding behind_close
returns-in-42-clause-exact c = grind (arith, common_steps)

pub loop-rest-preserved : goal.loop-rest-preserved
unfolding behind_close
loop-rest-preserved c = grind (arith, common_steps)
