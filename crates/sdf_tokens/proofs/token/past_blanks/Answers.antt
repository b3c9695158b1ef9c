use Rattle.std.proofs.lemmas.Result.{err_from_is_err_and}
use Rattle.sdf_tokens.proofs.Blanks.{done, stopped}
use Rattle.sdf_tokens.proofs.token.past_blanks.Goals as goal

pub returns-in_err-behind-clause-exact : goal.returns-in_err-behind-clause-exact
returns-in_err-behind-clause-exact c =
    let p = err_from_is_err_and c.from_residual.result c.from_residual.ensures.1 in
    rw (p.1, p.2) (stopped _ _ _ c.loop-behind.invariant.0 c.in_err-behind.ensures.exact)

pub returns-clause-exact : goal.returns-clause-exact
returns-clause-exact c =
    let e = rw c.in_default.is at c.in_ok-behind.ensures.exact in
    done _ _ c.loop-behind.invariant.0 e
