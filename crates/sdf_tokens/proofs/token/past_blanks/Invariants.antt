use Rattle.std.proofs.Common.{length, suc, ◌≤◌}
use Rattle.sdf_tokens.specs.Tokens.{past_blanks}
use Rattle.sdf_tokens.proofs.Blanks.{Goes}
use Rattle.sdf_tokens.proofs.token.past_blanks.Given as goal

abbrev pub invariant-loop-behind : goal.invariant-loop-behind
invariant-loop-behind l = Goes l.rest (past_blanks (suc (length l.bytes)) l.bytes) × (length l.rest ≤ length l.bytes)

abbrev pub decreases-loop-behind : goal.decreases-loop-behind
decreases-loop-behind l = length l.rest
