use Rattle.std.proofs.Common.{arith}
use Rattle.std.proofs.lemmas.Grind.{common_steps}
use Rattle.sdf_tokens.specs.Tokens.{token_at}
use Rattle.sdf_tokens.proofs.token.token_at.Goals as goal

pub returns-then-is_sign-clause-exact : goal.returns-then-is_sign-clause-exact
unfolding token_at
returns-then-is_sign-clause-exact c = grind (arith, common_steps)

pub returns-then-byte-eq34-clause-exact : goal.returns-then-byte-eq34-clause-exact
unfolding token_at
returns-then-byte-eq34-clause-exact c = grind (arith, common_steps)
