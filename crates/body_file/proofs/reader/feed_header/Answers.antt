use Rattle.std.proofs.Common.{MatchResult, false, subst}
use Rattle.body_file.specs.Reading.{HasTaken, Stops}
use Rattle.body_file.proofs.Headers.{fed_fault, ended_within}
use Rattle.body_file.proofs.Pieces.{two_pieces}
use Rattle.body_file.proofs.reader.feed_header.Goals as goal

-- the rest of the piece has a length: the header takes no more than there is
pub slice_bounds-begin_rows-count : goal.slice_bounds-begin_rows-count
slice_bounds-begin_rows-count c =
    let answer = rw c.in-Ok-Ended.field-0-is at c.in-Ok-Ended.ensures.answer in
    let taken = rw c.in-Ok-Ended.field-0-is at c.in-Ok-Ended.ensures.taken in
    let settled = rw c.in-Ok-Ended.field-0-is at c.in-Ok-Ended.ensures.settled in
    ended_within c.args.header c.feed.new.self c.args.piece.now c.in-Ok-Ended.taken settled.0 answer taken settled.1

-- the rest of the piece begins within it: the header takes no more than there is
pub slice_bounds-begin_rows-start : goal.slice_bounds-begin_rows-start
slice_bounds-begin_rows-start c =
    let answer = rw c.in-Ok-Ended.field-0-is at c.in-Ok-Ended.ensures.answer in
    let taken = rw c.in-Ok-Ended.field-0-is at c.in-Ok-Ended.ensures.taken in
    let settled = rw c.in-Ok-Ended.field-0-is at c.in-Ok-Ended.ensures.settled in
    ended_within c.args.header c.feed.new.self c.args.piece.now c.in-Ok-Ended.taken settled.0 answer taken settled.1

-- a header whose end was told is whole
pub begin_rows-requires : goal.begin_rows-requires
begin_rows-requires c = record { whole = rw c.in-Ok-Ended.field-0-is at c.in-Ok-Ended.ensures.settled; before = c.requires.before }

-- what holds of header and rest of the piece holds of all bytes so far
pub returns-in-Ok-Ended : goal.returns-in-Ok-Ended
returns-in-Ok-Ended c =
    let taken = rw c.in-Ok-Ended.field-0-is at c.in-Ok-Ended.ensures.taken in
    subst (λ b. MatchResult c.begin_rows.result (λ reader. HasTaken c.args.before reader b) (Stops c.args.before false b))
    (two_pieces c.args.header c.feed.new.self c.args.piece.now c.in-Ok-Ended.taken taken) c.begin_rows.ensures

-- a fault of the header is that of every file that goes on from these bytes
pub returns-in-Err : goal.returns-in-Err
returns-in-Err c =
    fed_fault c.args.before c.args.header c.feed.new.self c.args.piece.now c.in-Err.fault c.in-Err.ensures.answer c.in-Err.ensures.settled c.in-Err.ensures.same
