use Rattle.std.proofs.Common.{◌∙◌, subst, ap}
use Rattle.sdf_header.specs.Extent.{extent}
use Rattle.sdf_header.specs.Verdict.{Fails, verdict}
use Rattle.body_file.specs.Reading.{HasTaken}
use Rattle.body_file.proofs.Headers.{open_refused, open_stops}
use Rattle.body_file.proofs.Endings.{file_refused, file_read}
use Rattle.body_file.proofs.reader.BodyReader.finish.Goals as goal

-- a reader that still reads the header has no layout
pub unreachable-requires : goal.unreachable-requires
unreachable-requires c =
    let fed = c.requires.fed in
    let taken = subst (λ r. HasTaken fed.0 r fed.1) c.in-Header.is fed.3 in
    open_refused c.in-Header.header c.in-Ok.field-0 (ap extent taken.0 ∙ taken.2) c.in-Ok.ensures.value

-- bytes that end within the header decide its fault, or memory ran out
pub returns-in-Header : goal.returns-in-Header
returns-in-Header c = record {
  answer = λ before bytes old t.
      let taken = subst (λ r. HasTaken before r bytes) c.in-Header.is t in
      rw c.header_error.ensures (open_stops before bytes c.in-Err.error taken.2 (subst (λ b. Fails c.in-Err.error (verdict b)) taken.0 c.in-Err.ensures.value));
}

-- where the rows end well, the set is that of the files before and of this one
pub returns-in-Ok-finish : goal.returns-in-Ok-finish
returns-in-Ok-finish c = record {
  answer = λ before bytes old t.
      let taken = subst (λ r. HasTaken before r bytes) c.in-Rows.is t in
      file_read before c.in-Rows.rows c.in-Rows.set bytes c.in-Ok-finish.field-0 taken c.in-Ok-finish.ensures.ending;
}

-- where the rows end badly, that is the fault of the file
pub returns : goal.returns
returns c = record {
  answer = λ before bytes old t.
      let taken = subst (λ r. HasTaken before r bytes) c.in-Rows.is t in
      file_refused before c.in-Rows.rows c.in-Rows.set bytes c.in-Err-finish.fault taken c.in-Err-finish.ensures.ending;
}
