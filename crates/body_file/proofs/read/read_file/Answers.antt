use Rattle.std.proofs.Common.{◌++◌, [], take, refl, arith, rules, length-take}
use Rattle.std.proofs.KnownBytes.{Consumes-kept, Consumes-trans}
use Rattle.std.proofs.lemmas.Result.{err_from_is_err_and}
use Rattle.hot_io.specs.Reading.{unopened, unfinished, ended, broken}
use Rattle.body_file.proofs.Takings.{undecided}
use Rattle.body_file.proofs.Readings.{end_taken, prompt_more, prompt_now, prompt_begin, nothing_undecided, stopped_by, ended_with, nearer}
use Rattle.body_file.proofs.read.read_file.Goals as goal

-- where the open fails, the source has failed, and the bytes taken decide no fault
pub returns-then-is_err-clause-answer : goal.returns-then-is_err-clause-answer
returns-then-is_err-clause-answer g c = (unopened, search rules, prompt_begin c.args.before unopened refl, (refl, nothing_undecided c.args.before))

-- where memory lacks for the reader, the source has not failed
pub returns-in_err-reader-clause-answer : goal.returns-in_err-reader-clause-answer
returns-in_err-reader-clause-answer g c =
    let p = err_from_is_err_and c.from_residual.result c.from_residual.ensures.1 in
    (unfinished [], search rules, prompt_begin c.args.before (unfinished []) refl, rw (p.1, p.2) refl)

-- before the first read the source is open and has not failed
pub pieces-init : goal.pieces-init
pieces-init g c = record {
  unfailed = search rules;
  opened = search rules;
  once = search rules;
  files = search rules;
  names = search rules;
  taken = ([], c.in_ok-reader.ensures, search rules);
}

-- where a read fails, the source has failed, and the bytes taken decide no fault
pub returns-in_default-clause-answer : goal.returns-in_default-clause-answer
returns-in_default-clause-answer g c =
    let t = c.pieces.invariant.taken in (
      broken t.0,
      (search rules, search rules, Consumes-kept _ _ _ t.0 t.2 c.in_default.ensures.bytes, search rules),
      prompt_now c.args.before (broken t.0) c.pieces.reader t.0 t.1 refl,
      (refl, undecided c.args.before c.pieces.reader t.0 t.1),
    )

-- where a read gives nothing, the answer is the bodies of the file, or why there are none
pub returns-then-count-eq0-clause-answer : goal.returns-then-count-eq0-clause-answer
returns-then-count-eq0-clause-answer g c =
    let t = c.pieces.invariant.taken in (
      ended t.0,
      (search rules, search rules, end_taken _ _ _ t.0 c.read.new.buf c.in-Ok.count c.if-count-eq0.true (search rules) t.2 c.in-Ok.ensures.bytes.0 c.in-Ok.ensures.bytes.1, search rules),
      prompt_now c.args.before (ended t.0) c.pieces.reader t.0 t.1 refl,
      ended_with c.args.before t.0 c.finish.result (c.finish.ensures.answer c.args.before t.0 c.requires.before t.1),
    )

-- where the reader stops at a piece, the bytes taken decide the fault, or memory ran out
pub returns-in_err-reader-2-clause-answer : goal.returns-in_err-reader-2-clause-answer
returns-in_err-reader-2-clause-answer g c =
    let t = c.pieces.invariant.taken in
    let piece = take c.in-Ok.count c.read.new.buf in
    let p = err_from_is_err_and c.from_residual-in_err-reader-2.result c.from_residual-in_err-reader-2.ensures.1 in (
      unfinished (t.0 ++ piece),
      (search rules, search rules, Consumes-trans _ _ _ t.0 piece t.2 c.in-Ok.ensures.bytes.0, search rules),
      prompt_more c.args.before (unfinished (t.0 ++ piece)) c.pieces.reader t.0 piece t.1 refl (omega (arith, length-take c.in-Ok.count c.read.new.buf, c.in-Ok.ensures.bound)),
      rw (p.1, p.2) (stopped_by c.args.before (unfinished (t.0 ++ piece)) (t.0 ++ piece) _ c.in_err-reader-2.field-0.0 refl refl refl (c.in_err-reader-2.ensures c.args.before t.0 c.requires.before t.1)),
    )

-- each piece that the reader takes brings the limit nearer
pub pieces-smaller : goal.pieces-smaller
pieces-smaller g c =
    let t = c.pieces.invariant.taken in
    let piece = take c.in-Ok.count c.read.new.buf in
    nearer c.args.before c.pieces.reader c.in_ok-reader-2.reader t.0 piece t.1 (c.in_ok-reader-2.ensures c.args.before t.0 c.requires.before t.1)
    (omega (arith, length-take c.in-Ok.count c.read.new.buf, c.in-Ok.ensures.bound, c.if-count-eq0.false))

-- a piece that the reader takes leaves it with all bytes that the source gave
pub pieces-preserved : goal.pieces-preserved
pieces-preserved g c =
    let t = c.pieces.invariant.taken in
    let piece = take c.in-Ok.count c.read.new.buf in
    record {
      unfailed = search rules;
      opened = search rules;
      once = search rules;
      files = search rules;
      names = search rules;
      taken = (t.0 ++ piece, c.in_ok-reader-2.ensures c.args.before t.0 c.requires.before t.1, Consumes-trans _ _ _ t.0 piece t.2 c.in-Ok.ensures.bytes.0);
    }
