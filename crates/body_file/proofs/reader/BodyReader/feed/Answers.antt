use Rattle.std.proofs.Common.{subst}
use Rattle.std.proofs.lemmas.Result.{err_from_is_err_and}
use Rattle.body_file.specs.Faults.{set_before}
use Rattle.body_file.specs.Reading.{HasTaken}
use Rattle.body_file.proofs.Takings.{rows_stop, rows_go_on}
use Rattle.body_file.proofs.reader.BodyReader.feed.Goals as goal

-- where the rows stop at the piece, the reader stops at all bytes so far
pub returns-in_err-take_rows-in-Rows : goal.returns-in_err-take_rows-in-Rows
returns-in_err-take_rows-in-Rows c = λ before bytes old t.
    let p = err_from_is_err_and c.from_residual.result c.from_residual.ensures.1 in
    let b = subst (λ r. HasTaken before r bytes) c.in-Rows.is t in
    rw (p.1, p.2) (rows_stop before b.layout b.front b.body c.args.piece.now bytes c.in_err-take_rows-in-Rows.field-0.0 b.header b.same b.all
    (c.in_err-take_rows-in-Rows.ensures (set_before before b.layout.cube) b.layout b.body b.rows))

-- where the rows take the piece, the reader was given all bytes so far
pub returns-in_ok-take_rows-in-Rows : goal.returns-in_ok-take_rows-in-Rows
returns-in_ok-take_rows-in-Rows c = λ before bytes old t.
    let b = subst (λ r. HasTaken before r bytes) c.in-Rows.is t in
    rows_go_on before c.in-Rows.rows c.take_rows.new.rows c.in-Rows.set c.take_rows.new.set bytes c.args.piece.now b (c.in_ok-take_rows-in-Rows.ensures (set_before before b.layout.cube) b.layout b.body b.rows)
