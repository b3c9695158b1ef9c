use Rattle.rank_tests.specs.Worlds.{two}
use Rattle.rank_core.specs.Seats.{seat_of}
use Rattle.rank_tests.proofs.Handing.{fresh_branches, none_new, ready_told, sent_one, unheard_new}
use Rattle.rank_tests.proofs.ranks.tell.Goals as goal

pub advance-requires-clause-fits : goal.advance-requires-clause-fits
advance-requires-clause-fits g c κs within = (two, c.requires.left_stands)

pub advance-requires-2-clause-fits : goal.advance-requires-2-clause-fits
advance-requires-2-clause-fits g c κs within = (two, c.requires.right_stands)

pub hand-requires-clause-fits : goal.hand-requires-clause-fits
hand-requires-clause-fits g c κs within = (two, c.quiet.ensures.kept two (c.next-to_right.ensures.popped.kept two (c.advance.ensures.kept two c.requires.left_stands)), (c.next-to_left.ensures.truth two (c.advance-2.ensures.kept two c.requires.right_stands)).0)

pub hand-requires-clause-fresh : goal.hand-requires-clause-fresh
hand-requires-clause-fresh g c κs within =
    let sent_left = sent_one _ two (seat_of c.args.left.now) (seat_of c.advance.new.rank) (seat_of c.next-to_right.new.rank) (seat_of c.quiet.new.rank) c.next-to_right.result (c.advance.ensures.moves two c.requires.left_stands) c.next-to_right.ensures.popped.out c.quiet.ensures.seat c.quiet.ensures.empty in
    let sent_right = sent_one _ two (seat_of c.args.right.now) (seat_of c.advance-2.new.rank) (seat_of c.next-to_left.new.rank) (seat_of c.quiet-2.new.rank) c.next-to_left.result (c.advance-2.ensures.moves two c.requires.right_stands) c.next-to_left.ensures.popped.out c.quiet-2.ensures.seat c.quiet-2.ensures.empty in
    fresh_branches (seat_of c.quiet.new.rank) c.next-to_left.result.from c.next-to_left.result.content c.next-to_left.ensures.kind (unheard_new two 0 2 c.next-to_left.result.from (seat_of c.args.left.now) (seat_of c.quiet.new.rank) c.next-to_right.result c.requires.left_new sent_left)

pub hand-requires-2-clause-fits : goal.hand-requires-2-clause-fits
hand-requires-2-clause-fits g c κs within = (two, c.quiet-2.ensures.kept two (c.next-to_left.ensures.popped.kept two (c.advance-2.ensures.kept two c.requires.right_stands)), (c.next-to_right.ensures.truth two (c.advance.ensures.kept two c.requires.left_stands)).0)

pub hand-requires-2-clause-fresh : goal.hand-requires-2-clause-fresh
hand-requires-2-clause-fresh g c κs within =
    let sent_left = sent_one _ two (seat_of c.args.left.now) (seat_of c.advance.new.rank) (seat_of c.next-to_right.new.rank) (seat_of c.quiet.new.rank) c.next-to_right.result (c.advance.ensures.moves two c.requires.left_stands) c.next-to_right.ensures.popped.out c.quiet.ensures.seat c.quiet.ensures.empty in
    let sent_right = sent_one _ two (seat_of c.args.right.now) (seat_of c.advance-2.new.rank) (seat_of c.next-to_left.new.rank) (seat_of c.quiet-2.new.rank) c.next-to_left.result (c.advance-2.ensures.moves two c.requires.right_stands) c.next-to_left.ensures.popped.out c.quiet-2.ensures.seat c.quiet-2.ensures.empty in
    fresh_branches (seat_of c.quiet-2.new.rank) c.next-to_right.result.from c.next-to_right.result.content c.next-to_right.ensures.kind (unheard_new two 1 2 c.next-to_right.result.from (seat_of c.args.right.now) (seat_of c.quiet-2.new.rank) c.next-to_left.result c.requires.right_new sent_right)

pub returns-clause-left_stands : goal.returns-clause-left_stands
returns-clause-left_stands g c = c.hand.ensures.kept two (c.quiet.ensures.kept two (c.next-to_right.ensures.popped.kept two (c.advance.ensures.kept two c.requires.left_stands))) (c.next-to_left.ensures.truth two (c.advance-2.ensures.kept two c.requires.right_stands)).0

pub returns-clause-right_stands : goal.returns-clause-right_stands
returns-clause-right_stands g c = c.hand-2.ensures.kept two (c.quiet-2.ensures.kept two (c.next-to_left.ensures.popped.kept two (c.advance-2.ensures.kept two c.requires.right_stands))) (c.next-to_right.ensures.truth two (c.advance.ensures.kept two c.requires.left_stands)).0

pub returns-clause-left_ready : goal.returns-clause-left_ready
returns-clause-left_ready g c =
    let sent = sent_one _ two (seat_of c.args.left.now) (seat_of c.advance.new.rank) (seat_of c.next-to_right.new.rank) (seat_of c.quiet.new.rank) c.next-to_right.result (c.advance.ensures.moves two c.requires.left_stands) c.next-to_right.ensures.popped.out c.quiet.ensures.seat c.quiet.ensures.empty in
    ready_told two 0 (seat_of c.args.left.now) (seat_of c.quiet.new.rank) (seat_of c.hand.new.rank) c.next-to_right.result c.next-to_left.result sent c.requires.left_new.me (none_new 0 2 (seat_of c.args.left.now) c.requires.left_new) c.hand.ensures.seat c.next-to_left.ensures.kind

pub returns-clause-right_ready : goal.returns-clause-right_ready
returns-clause-right_ready g c =
    let sent = sent_one _ two (seat_of c.args.right.now) (seat_of c.advance-2.new.rank) (seat_of c.next-to_left.new.rank) (seat_of c.quiet-2.new.rank) c.next-to_left.result (c.advance-2.ensures.moves two c.requires.right_stands) c.next-to_left.ensures.popped.out c.quiet-2.ensures.seat c.quiet-2.ensures.empty in
    ready_told two 1 (seat_of c.args.right.now) (seat_of c.quiet-2.new.rank) (seat_of c.hand-2.new.rank) c.next-to_left.result c.next-to_right.result sent c.requires.right_new.me (none_new 1 2 (seat_of c.args.right.now) c.requires.right_new) c.hand-2.ensures.seat c.next-to_right.ensures.kind
