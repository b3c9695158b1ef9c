use Rattle.std.proofs.Common.{sym, ◌∙◌, arith}
use Rattle.std.proofs.lemmas.Result.{err_from_is_err_and}
use Rattle.sdf_tokens.specs.Tokens.{lex_of}
use Rattle.sdf_header.proofs.Lines.{more, done, step_ends, next_fails}
use Rattle.sdf_header.proofs.columns.lines_at.Goals as goal

pub returns-in_err-l-clause-exact : goal.returns-in_err-l-clause-exact
returns-in_err-l-clause-exact c =
    let p = err_from_is_err_and c.from_residual.result c.from_residual.ensures.1 in
    rw (p.1, p.2) (next_fails _ _ _ _ c.lines.invariant.0 c.in_err-l.ensures.exact)

pub returns-then-is_the-clause-exact : goal.returns-then-is_the-clause-exact
returns-then-is_the-clause-exact c =
    done _ _ (lex_of c.in_ok-l.l) _ c.lines.invariant.0 c.in_ok-l.ensures.exact (sym c.is_the.ensures ∙ c.if-is_the.true)

pub returns-in_err-rest-clause-exact : goal.returns-in_err-rest-clause-exact
returns-in_err-rest-clause-exact c =
    let p = err_from_is_err_and c.from_residual-in_err-rest.result c.from_residual-in_err-rest.ensures.1 in
    rw (p.1, p.2) (step_ends _ _ _ (lex_of c.in_ok-l.l) _ c.lines.invariant.0 c.in_ok-l.ensures.exact (sym c.is_the.ensures ∙ c.if-is_the.false) c.in_err-rest.ensures.exact)

pub lines-preserved : goal.lines-preserved
lines-preserved c =
    let lt = c.in_ok-rest.ensures.shorter _ c.in_ok-l.ensures.shorter in
    (more _ _ _ _ (lex_of c.in_ok-l.l) _ c.lines.invariant.0 c.in_ok-l.ensures.exact (sym c.is_the.ensures ∙ c.if-is_the.false) c.in_ok-rest.ensures.exact lt, omega (arith, lt))
