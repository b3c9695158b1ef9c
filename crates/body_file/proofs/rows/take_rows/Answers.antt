use Rattle.std.proofs.Common.{[], ◌++◌, take, refl, sym, ap, ◌∙◌, append-nil, append_assoc, subst}
use Rattle.std.proofs.lemmas.Result.{err_from_is_err_and}
use Rattle.body_file.specs.Reading.{IsAt, StopsRows}
use Rattle.body_file.proofs.Pieces.{none_left, some_left, rest_shorter, goes_on}
use Rattle.body_file.proofs.rows.take_rows.Goals as goal

-- at first nothing of the piece was taken
pub rows-init : goal.rows-init
rows-init c = ([], refl, λ before layout bytes at. subst (λ b. IsAt before layout c.args.rows.now c.args.set.now b) (sym (append-nil bytes)) at)

-- a rest that is left has a byte, and reader and set stand at the same bytes
pub take_row-requires : goal.take_row-requires
take_row-requires c =
    let inv = c.rows.invariant in
    let fed = c.requires.fed in
    record { some = some_left c.rows.rest.now c.rows-test.ensures; fed = (fed.0, fed.1, fed.2 ++ inv.0, inv.2 fed.0 fed.1 fed.2 fed.3) }

-- where a row stops in the rest, the rows stop at the piece
pub returns-in_err-taken : goal.returns-in_err-taken
returns-in_err-taken c = λ before l bytes at.
    let p = err_from_is_err_and c.from_residual.result c.from_residual.ensures.1 in
    let inv = c.rows.invariant in
    rw (p.1, p.2) (subst (λ b. StopsRows before l b c.in_err-taken.field-0.0) (append_assoc bytes inv.0 c.rows.rest.now ∙ ap (λ p. bytes ++ p) (sym inv.1)) (c.in_err-taken.ensures.step before l (bytes ++ inv.0) (inv.2 before l bytes at)))

-- each step leaves a shorter rest
pub rows-smaller : goal.rows-smaller
rows-smaller c =
    let within = c.in_ok-taken.ensures.within in
    rest_shorter c.in_ok-taken.taken c.rows.rest.now within.0 within.1

-- each step adds the bytes that it took to those taken of the piece
pub rows-preserved : goal.rows-preserved
rows-preserved c =
    let t = c.in_ok-taken.taken in
    let inv = c.rows.invariant in (
      inv.0 ++ take t c.rows.rest.now,
      goes_on c.args.piece.now inv.0 c.rows.rest.now t inv.1,
      λ before layout bytes at. subst (λ b. IsAt before layout c.take_row.new.rows c.take_row.new.set b) (append_assoc bytes inv.0 (take t c.rows.rest.now)) (c.in_ok-taken.ensures.step before layout (bytes ++ inv.0) (inv.2 before layout bytes at)),
    )

-- without a rest the whole piece was taken
pub returns : goal.returns
returns c = λ before l bytes at.
    let inv = c.rows.invariant in
    let none = none_left c.rows.rest.now c.rows-test.ensures in
    subst (λ b. IsAt before l c.rows.rows c.rows.set b) (ap (λ p. bytes ++ p) (sym (append-nil inv.0) ∙ ap (λ p. inv.0 ++ p) (sym none) ∙ sym inv.1)) (inv.2 before l bytes at)
