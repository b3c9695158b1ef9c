use Rattle.std.proofs.Common.{rules}
use Rattle.std.proofs.lemmas.Result.{err_from_is_err_and}
use Rattle.body_file.proofs.RowSteps.{SaysStep, stepped, step_kept, step_added, some_taken, row_stops, trailing_stops}
use Rattle.body_file.proofs.rows.take_row.Goals as goal

-- a byte too many stops the rows
pub returns-in-Err-clause-step : goal.returns-in-Err-clause-step
returns-in-Err-clause-step c = λ before l bytes at.
    trailing_stops before l c.args.rows.now c.args.set.now bytes c.args.piece.now c.in-Err.fault at c.in-Err.ensures.answer c.requires.some

-- within a row some bytes are taken, and no more than the piece has
pub returns-in_default-clause-within : goal.returns-in_default-clause-within
returns-in_default-clause-within c =
    let says : SaysStep c.args.rows.now c.feed.new.self c.args.piece.now c.in-Ok.step = record { answer = c.in-Ok.ensures.answer; after = c.in-Ok.ensures.after; rows = c.in-Ok.ensures.rows; layout = c.in-Ok.ensures.layout; first = c.in-Ok.ensures.first } in
    let fed = c.requires.fed in
    (some_taken fed.0 fed.1 c.args.rows.now c.feed.new.self c.args.set.now fed.2 c.args.piece.now c.in-Ok.step fed.3 says c.requires.some, c.in-Ok.ensures.within)

-- within a row the set is that of the bytes so far
pub returns-in_default-clause-step : goal.returns-in_default-clause-step
returns-in_default-clause-step c = λ before l bytes at.
    let says : SaysStep c.args.rows.now c.feed.new.self c.args.piece.now c.in-Ok.step = record { answer = c.in-Ok.ensures.answer; after = c.in-Ok.ensures.after; rows = c.in-Ok.ensures.rows; layout = c.in-Ok.ensures.layout; first = c.in-Ok.ensures.first } in
    step_kept before l c.args.rows.now c.feed.new.self c.args.set.now bytes c.args.piece.now c.in-Ok.step at (stepped before l c.args.rows.now c.feed.new.self c.args.set.now bytes c.args.piece.now c.in-Ok.step at says) (search rules)

-- a row that is not added stops the rows
pub returns-in_err-push_row-clause-step : goal.returns-in_err-push_row-clause-step
returns-in_err-push_row-clause-step c = λ before l bytes at.
    let says : SaysStep c.args.rows.now c.feed.new.self c.args.piece.now c.in-Ok.step = record { answer = c.in-Ok.ensures.answer; after = c.in-Ok.ensures.after; rows = c.in-Ok.ensures.rows; layout = c.in-Ok.ensures.layout; first = c.in-Ok.ensures.first } in
    let p = err_from_is_err_and c.from_residual.result c.from_residual.ensures.1 in
    rw (p.1, p.2) (row_stops before l c.args.rows.now c.feed.new.self c.args.set.now c.push_row.new.set bytes c.args.piece.now c.in-Ok.step c.in-Some.raw _ at says c.in-Some.is c.in_err-push_row.ensures)

-- with a row added some bytes are taken, and no more than the piece has
pub returns-clause-within : goal.returns-clause-within
returns-clause-within c =
    let says : SaysStep c.args.rows.now c.feed.new.self c.args.piece.now c.in-Ok.step = record { answer = c.in-Ok.ensures.answer; after = c.in-Ok.ensures.after; rows = c.in-Ok.ensures.rows; layout = c.in-Ok.ensures.layout; first = c.in-Ok.ensures.first } in
    let fed = c.requires.fed in
    (some_taken fed.0 fed.1 c.args.rows.now c.feed.new.self c.args.set.now fed.2 c.args.piece.now c.in-Ok.step fed.3 says c.requires.some, c.in-Ok.ensures.within)

-- with a row added the set is that of the bytes so far
pub returns-clause-step : goal.returns-clause-step
returns-clause-step c = λ before l bytes at.
    let says : SaysStep c.args.rows.now c.feed.new.self c.args.piece.now c.in-Ok.step = record { answer = c.in-Ok.ensures.answer; after = c.in-Ok.ensures.after; rows = c.in-Ok.ensures.rows; layout = c.in-Ok.ensures.layout; first = c.in-Ok.ensures.first } in
    let pushed = c.in_ok-push_row.ensures in
    step_added before l c.args.rows.now c.feed.new.self c.args.set.now c.push_row.new.set bytes c.args.piece.now c.in-Ok.step c.in-Some.raw at (stepped before l c.args.rows.now c.feed.new.self c.args.set.now bytes c.args.piece.now c.in-Ok.step at says) c.in-Some.is (rw c.in-Some.is at c.in-Ok.ensures.fits) pushed.0 pushed.1
