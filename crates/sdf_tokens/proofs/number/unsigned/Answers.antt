use Rattle.std.proofs.Common.{arith}
use Rattle.std.proofs.lemmas.Grind.{common_steps}
use Rattle.sdf_tokens.proofs.number.unsigned.Goals as goal

pub returns-then-is_hexadecimal-clause-exact : goal.returns-then-is_hexadecimal-clause-exact
returns-then-is_hexadecimal-clause-exact c = grind (arith, common_steps)
