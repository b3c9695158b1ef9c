use Rattle.rank_tests.specs.Worlds.{two}
use Rattle.rank_core.specs.Seats.{seat_of}
use Rattle.rank_tests.proofs.Handing.{asks_of, fresh_asks, ready_asked, sent_one}
use Rattle.rank_tests.proofs.ranks.ask.Goals as goal

pub advance-requires-clause-fits : goal.advance-requires-clause-fits
advance-requires-clause-fits g c κs within = (two, c.requires.left_stands)

pub advance-requires-2-clause-fits : goal.advance-requires-2-clause-fits
advance-requires-2-clause-fits g c κs within = (two, c.requires.right_stands)

pub hand-requires-clause-fits : goal.hand-requires-clause-fits
hand-requires-clause-fits g c κs within = (two, c.quiet.ensures.kept two (c.next-to_right.ensures.popped.kept two (c.advance.ensures.kept two c.requires.left_stands)), (c.next-to_left.ensures.truth two (c.advance-2.ensures.kept two c.requires.right_stands)).0)

pub hand-requires-clause-fresh : goal.hand-requires-clause-fresh
hand-requires-clause-fresh g c κs within =
    let sent_left = sent_one _ two (seat_of c.args.left.now) (seat_of c.advance.new.rank) (seat_of c.next-to_right.new.rank) (seat_of c.quiet.new.rank) c.next-to_right.result (c.advance.ensures.moves two c.requires.left_stands) c.next-to_right.ensures.popped.out c.quiet.ensures.seat c.quiet.ensures.empty in
    let sent_right = sent_one _ two (seat_of c.args.right.now) (seat_of c.advance-2.new.rank) (seat_of c.next-to_left.new.rank) (seat_of c.quiet-2.new.rank) c.next-to_left.result (c.advance-2.ensures.moves two c.requires.right_stands) c.next-to_left.ensures.popped.out c.quiet-2.ensures.seat c.quiet-2.ensures.empty in
    fresh_asks (seat_of c.quiet.new.rank) c.next-to_left.result.from c.next-to_left.result.content c.next-to_left.ensures.kind sent_left.inbox

pub hand-requires-2-clause-fits : goal.hand-requires-2-clause-fits
hand-requires-2-clause-fits g c κs within = (two, c.quiet-2.ensures.kept two (c.next-to_left.ensures.popped.kept two (c.advance-2.ensures.kept two c.requires.right_stands)), (c.next-to_right.ensures.truth two (c.advance.ensures.kept two c.requires.left_stands)).0)

pub hand-requires-2-clause-fresh : goal.hand-requires-2-clause-fresh
hand-requires-2-clause-fresh g c κs within =
    let sent_left = sent_one _ two (seat_of c.args.left.now) (seat_of c.advance.new.rank) (seat_of c.next-to_right.new.rank) (seat_of c.quiet.new.rank) c.next-to_right.result (c.advance.ensures.moves two c.requires.left_stands) c.next-to_right.ensures.popped.out c.quiet.ensures.seat c.quiet.ensures.empty in
    let sent_right = sent_one _ two (seat_of c.args.right.now) (seat_of c.advance-2.new.rank) (seat_of c.next-to_left.new.rank) (seat_of c.quiet-2.new.rank) c.next-to_left.result (c.advance-2.ensures.moves two c.requires.right_stands) c.next-to_left.ensures.popped.out c.quiet-2.ensures.seat c.quiet-2.ensures.empty in
    fresh_asks (seat_of c.quiet-2.new.rank) c.next-to_right.result.from c.next-to_right.result.content c.next-to_right.ensures.kind sent_right.inbox

pub returns-clause-left_stands : goal.returns-clause-left_stands
returns-clause-left_stands g c = c.hand.ensures.kept two (c.quiet.ensures.kept two (c.next-to_right.ensures.popped.kept two (c.advance.ensures.kept two c.requires.left_stands))) (c.next-to_left.ensures.truth two (c.advance-2.ensures.kept two c.requires.right_stands)).0

pub returns-clause-right_stands : goal.returns-clause-right_stands
returns-clause-right_stands g c = c.hand-2.ensures.kept two (c.quiet-2.ensures.kept two (c.next-to_left.ensures.popped.kept two (c.advance-2.ensures.kept two c.requires.right_stands))) (c.next-to_right.ensures.truth two (c.advance.ensures.kept two c.requires.left_stands)).0

pub returns-clause-left_ready : goal.returns-clause-left_ready
returns-clause-left_ready g c =
    let sent = sent_one _ two (seat_of c.args.left.now) (seat_of c.advance.new.rank) (seat_of c.next-to_right.new.rank) (seat_of c.quiet.new.rank) c.next-to_right.result (c.advance.ensures.moves two c.requires.left_stands) c.next-to_right.ensures.popped.out c.quiet.ensures.seat c.quiet.ensures.empty in
    ready_asked two 0 (seat_of c.args.left.now) (seat_of c.quiet.new.rank) (seat_of c.hand.new.rank) c.next-to_right.result c.next-to_left.result sent c.requires.left_ready.me c.requires.left_ready.none c.hand.ensures.seat c.next-to_left.ensures.kind

pub returns-clause-right_ready : goal.returns-clause-right_ready
returns-clause-right_ready g c =
    let sent = sent_one _ two (seat_of c.args.right.now) (seat_of c.advance-2.new.rank) (seat_of c.next-to_left.new.rank) (seat_of c.quiet-2.new.rank) c.next-to_left.result (c.advance-2.ensures.moves two c.requires.right_stands) c.next-to_left.ensures.popped.out c.quiet-2.ensures.seat c.quiet-2.ensures.empty in
    ready_asked two 1 (seat_of c.args.right.now) (seat_of c.quiet-2.new.rank) (seat_of c.hand-2.new.rank) c.next-to_left.result c.next-to_right.result sent c.requires.right_ready.me c.requires.right_ready.none c.hand-2.ensures.seat c.next-to_right.ensures.kind

pub returns-clause-left_asks : goal.returns-clause-left_asks
returns-clause-left_asks g c =
    let sent_left = sent_one _ two (seat_of c.args.left.now) (seat_of c.advance.new.rank) (seat_of c.next-to_right.new.rank) (seat_of c.quiet.new.rank) c.next-to_right.result (c.advance.ensures.moves two c.requires.left_stands) c.next-to_right.ensures.popped.out c.quiet.ensures.seat c.quiet.ensures.empty in
    let sent_right = sent_one _ two (seat_of c.args.right.now) (seat_of c.advance-2.new.rank) (seat_of c.next-to_left.new.rank) (seat_of c.quiet-2.new.rank) c.next-to_left.result (c.advance-2.ensures.moves two c.requires.right_stands) c.next-to_left.ensures.popped.out c.quiet-2.ensures.seat c.quiet-2.ensures.empty in
    asks_of two 0 (seat_of c.args.left.now) (seat_of c.quiet.new.rank) (seat_of c.hand.new.rank) (seat_of c.quiet-2.new.rank) (seat_of c.hand-2.new.rank) c.next-to_right.result c.next-to_left.result c.requires.left_ready sent_left c.hand.ensures.seat sent_right.inbox c.hand-2.ensures.seat

pub returns-clause-right_asks : goal.returns-clause-right_asks
returns-clause-right_asks g c =
    let sent_left = sent_one _ two (seat_of c.args.left.now) (seat_of c.advance.new.rank) (seat_of c.next-to_right.new.rank) (seat_of c.quiet.new.rank) c.next-to_right.result (c.advance.ensures.moves two c.requires.left_stands) c.next-to_right.ensures.popped.out c.quiet.ensures.seat c.quiet.ensures.empty in
    let sent_right = sent_one _ two (seat_of c.args.right.now) (seat_of c.advance-2.new.rank) (seat_of c.next-to_left.new.rank) (seat_of c.quiet-2.new.rank) c.next-to_left.result (c.advance-2.ensures.moves two c.requires.right_stands) c.next-to_left.ensures.popped.out c.quiet-2.ensures.seat c.quiet-2.ensures.empty in
    asks_of two 1 (seat_of c.args.right.now) (seat_of c.quiet-2.new.rank) (seat_of c.hand-2.new.rank) (seat_of c.quiet.new.rank) (seat_of c.hand.new.rank) c.next-to_left.result c.next-to_right.result c.requires.right_ready sent_right c.hand-2.ensures.seat sent_left.inbox c.hand.ensures.seat
