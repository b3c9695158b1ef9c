use Rattle.std.proofs.Common.{sym, ◌∙◌, arith}
use Rattle.std.proofs.lemmas.Result.{err_from_is_err_and}
use Rattle.sdf_tokens.specs.Tokens.{lex_of}
use Rattle.sdf_tokens.proofs.Advances.{advances_le}
use Rattle.sdf_header.proofs.Items.{more, done, no_sign, item_ends, next_fails}
use Rattle.sdf_header.proofs.columns.items_at.Goals as goal

pub returns-in_err-after-clause-exact : goal.returns-in_err-after-clause-exact
returns-in_err-after-clause-exact c =
    let p = err_from_is_err_and c.from_residual.result c.from_residual.ensures.1 in
    rw (p.1, p.2) (item_ends _ _ _ _ _ c.items.invariant.0 c.in_err-after.ensures.exact)

pub returns-in_err-l-clause-exact : goal.returns-in_err-l-clause-exact
returns-in_err-l-clause-exact c =
    let p = err_from_is_err_and c.from_residual-in_err-l.result c.from_residual-in_err-l.ensures.1 in
    rw (p.1, p.2) (next_fails _ _ _ _ _ _ _ c.items.invariant.0 c.in_ok-after.ensures.exact c.in_err-l.ensures.exact)

pub returns-then-is_the-clause-exact : goal.returns-then-is_the-clause-exact
returns-then-is_the-clause-exact c =
    done _ _ _ _ _ (lex_of c.in_ok-l.l) _ c.items.invariant.0 c.in_ok-after.ensures.exact c.in_ok-l.ensures.exact (sym c.is_the.ensures ∙ c.if-is_the.true)

pub returns-then-not-is_the-clause-exact : goal.returns-then-not-is_the-clause-exact
returns-then-not-is_the-clause-exact c =
    rw c.syntax_at.ensures (no_sign _ _ _ _ _ (lex_of c.in_ok-l.l) _ c.items.invariant.0 c.in_ok-after.ensures.exact c.in_ok-l.ensures.exact (sym c.is_the.ensures ∙ c.if-is_the.false) (sym c.is_the-in-items.ensures ∙ c.if-not-is_the.true))

pub items-preserved : goal.items-preserved
items-preserved c =
    let le = advances_le _ _ _ c.in_ok-l.ensures.shorter in
    let lt = c.in_ok-after.ensures.shorter in
    (more _ _ _ _ _ (lex_of c.in_ok-l.l) _ c.items.invariant.0 c.in_ok-after.ensures.exact c.in_ok-l.ensures.exact (sym c.is_the.ensures ∙ c.if-is_the.false) (sym c.is_the-in-items.ensures ∙ c.if-not-is_the.false) (omega (arith, le, lt)), omega (arith, le, lt))
