use Rattle.std.proofs.Common.{◌≡◌, None, sym, ◌∙◌}
use Rattle.std.proofs.lemmas.Result.{err_from_is_err_and}
use Rattle.sdf_header.specs.Parts.{given_of}
use Rattle.sdf_tokens.specs.Tokens.{lex_of}
use Rattle.sdf_header.proofs.Statements.{none_given, begin, more, done, step_ends, next_fails}
use Rattle.sdf_header.proofs.statement.header_in.Goals as goal

pub statements-init : goal.statements-init
statements-init c =
    let none : given_of c.new.result ≡ λ name. None = λ i. λ name. none_given c.new.result c.new.ensures.empty name i in
    rw none (begin c.args.text.now)

pub returns-in_err-l : goal.returns-in_err-l
returns-in_err-l c =
    let p = err_from_is_err_and c.from_residual.result c.from_residual.ensures.1 in
    rw (p.1, p.2) (next_fails _ _ _ _ c.statements.invariant c.in_err-l.ensures.exact)

pub returns-then-is_end : goal.returns-then-is_end
returns-then-is_end c =
    done _ _ (lex_of c.in_ok-l.l) _ c.statements.invariant c.in_ok-l.ensures.exact (sym c.is_end.ensures ∙ c.if-is_end.true)

pub returns-in_err-rest : goal.returns-in_err-rest
returns-in_err-rest c =
    let p = err_from_is_err_and c.from_residual-in_err-rest.result c.from_residual-in_err-rest.ensures.1 in
    rw (p.1, p.2) (step_ends _ _ _ (lex_of c.in_ok-l.l) _ c.statements.invariant c.in_ok-l.ensures.exact (sym c.is_end.ensures ∙ c.if-is_end.false) c.in_err-rest.ensures.exact)

pub statements-preserved : goal.statements-preserved
statements-preserved c =
    let lt = c.in_ok-rest.ensures.shorter _ c.in_ok-l.ensures.shorter in
    more _ _ _ _ (lex_of c.in_ok-l.l) _ c.statements.invariant c.in_ok-l.ensures.exact (sym c.is_end.ensures ∙ c.if-is_end.false) c.in_ok-rest.ensures.exact lt
