use Rattle.std.proofs.Common.{length, ◌≡◌, ◌≤◌}
use Rattle.sdf_tokens.specs.Tokens.{behind_close}
use Rattle.sdf_tokens.proofs.token.behind_close.Given as goal

abbrev pub invariant-loop-rest : goal.invariant-loop-rest
invariant-loop-rest l = (behind_close l.rest ≡ behind_close l.bytes) × (length l.rest ≤ length l.bytes)

abbrev pub decreases-loop-rest : goal.decreases-loop-rest
decreases-loop-rest l = length l.rest
