use Rattle.std.proofs.Common.{slice_index_or, sym, ◌∙◌, inl}
use Rattle.protocol.proofs.Places.{get_at}
use Rattle.rank_core.specs.Standing.{StandsIn}
use Rattle.round_runner.proofs.Runs.{running_step, worked_step, running_round, round_last, legal_round, round_err, room_left, nil_of, eager_back, numbers_step, frame_on, frame_mail, round_mail, round_more, round_start}
use Rattle.round_runner.proofs.rounds.one_round.Goals as goal

-- there is a world for which all ranks stand
pub step_all-requires-clause-fit : goal.step_all-requires-clause-fit
step_all-requires-clause-fit g c κs within = (c.requires.running.1, λ k d lt. c.requires.running.2.together.stand k (slice_index_or c.args.ranks.now k d) (get_at c.args.ranks.now k d lt))

-- where a posting is refused, the round leaves a legal log
pub returns-in_err-post_all-clause-kept : goal.returns-in_err-post_all-clause-kept
returns-in_err-post_all-clause-kept g c = λ v w j.
    round_err g.V.Visit.opens_by (StandsIn g.V.Visit g.V.Acc.Seen) v w c.post_all.new.ranks (g.M.Wire.desk c.post_all.new.wire) c.from_residual.result c.from_residual.ensures.0 (c.in_err-post_all.ensures.legal v w (running_step g.V.Visit.opens_by (StandsIn g.V.Visit g.V.Acc.Seen) v w c.args.ranks.now c.step_all.new.ranks (g.M.Wire.desk c.args.wire.now) j c.requires.quiet c.requires.start c.step_all.ensures.each c.step_all.ensures.len (c.any_starved.ensures.none c.if-any_starved.false)))

-- where a posting is refused, the log is legal
pub returns-in_err-post_all-clause-legal : goal.returns-in_err-post_all-clause-legal
returns-in_err-post_all-clause-legal g c = λ v w j. c.in_err-post_all.ensures.legal v w (running_step g.V.Visit.opens_by (StandsIn g.V.Visit g.V.Acc.Seen) v w c.args.ranks.now c.step_all.new.ranks (g.M.Wire.desk c.args.wire.now) j c.requires.quiet c.requires.start c.step_all.ensures.each c.step_all.ensures.len (c.any_starved.ensures.none c.if-any_starved.false))

-- with nothing pending after the posting, the wire has room for the round
pub round-requires-clause-room : goal.round-requires-clause-room
round-requires-clause-room g c = (room_left g.V.Visit.opens_by (StandsIn g.V.Visit g.V.Acc.Seen) c.requires.running.0 c.requires.running.1 c.post_all.new.ranks (g.M.Wire.desk c.post_all.new.wire) 1 (c.in_ok-post_all.ensures.kept c.requires.running.0 c.requires.running.1 (running_step g.V.Visit.opens_by (StandsIn g.V.Visit g.V.Acc.Seen) c.requires.running.0 c.requires.running.1 c.args.ranks.now c.step_all.new.ranks (g.M.Wire.desk c.args.wire.now) c.requires.running.2 c.requires.quiet c.requires.start c.step_all.ensures.each c.step_all.ensures.len (c.any_starved.ensures.none c.if-any_starved.false)))).0

-- with nothing pending after the posting, the round leaves what the last one leaves
pub returns-then-pending-eq0-clause-kept : goal.returns-then-pending-eq0-clause-kept
returns-then-pending-eq0-clause-kept g c = λ v w j.
    round_last g.V.Visit.opens_by (StandsIn g.V.Visit g.V.Acc.Seen) v w c.post_all.new.ranks (g.M.Wire.desk c.post_all.new.wire) (g.M.Wire.desk c.round.new.self) (c.in_ok-post_all.ensures.kept v w (running_step g.V.Visit.opens_by (StandsIn g.V.Visit g.V.Acc.Seen) v w c.args.ranks.now c.step_all.new.ranks (g.M.Wire.desk c.args.wire.now) j c.requires.quiet c.requires.start c.step_all.ensures.each c.step_all.ensures.len (c.any_starved.ensures.none c.if-any_starved.false)))
    (c.in_ok-post_all.ensures.worked (worked_step g.V.Visit.opens_by (StandsIn g.V.Visit g.V.Acc.Seen) c.requires.running.0 c.requires.running.1 c.args.ranks.now c.step_all.new.ranks (g.M.Wire.desk c.args.wire.now) c.requires.running.2 c.requires.quiet c.requires.start c.step_all.ensures.each c.step_all.ensures.len (c.any_starved.ensures.none c.if-any_starved.false))) c.in_ok-post_all.ensures.quiet (nil_of (g.M.Wire.desk c.post_all.new.wire).pending (sym c.pending.ensures.count ∙ c.if-pending-eq0.true)) c.round.ensures.ended

-- with nothing pending after the posting, the log is legal
pub returns-then-pending-eq0-clause-legal : goal.returns-then-pending-eq0-clause-legal
returns-then-pending-eq0-clause-legal g c = λ v w j. legal_round g.V.Visit.opens_by (StandsIn g.V.Visit g.V.Acc.Seen) v w c.post_all.new.ranks (g.M.Wire.desk c.post_all.new.wire) (g.M.Wire.desk c.round.new.self) (c.in_ok-post_all.ensures.kept v w (running_step g.V.Visit.opens_by (StandsIn g.V.Visit g.V.Acc.Seen) v w c.args.ranks.now c.step_all.new.ranks (g.M.Wire.desk c.args.wire.now) j c.requires.quiet c.requires.start c.step_all.ensures.each c.step_all.ensures.len (c.any_starved.ensures.none c.if-any_starved.false))) c.round.ensures.ended

-- after the posting the ranks run
pub deliver-requires-clause-running : goal.deliver-requires-clause-running
deliver-requires-clause-running g c κs within = (c.requires.running.0, c.requires.running.1, (c.in_ok-post_all.ensures.kept c.requires.running.0 c.requires.running.1 (running_step g.V.Visit.opens_by (StandsIn g.V.Visit g.V.Acc.Seen) c.requires.running.0 c.requires.running.1 c.args.ranks.now c.step_all.new.ranks (g.M.Wire.desk c.args.wire.now) c.requires.running.2 c.requires.quiet c.requires.start c.step_all.ensures.each c.step_all.ensures.len (c.any_starved.ensures.none c.if-any_starved.false))))

-- where memory is refused for a letter, the round leaves a legal log
pub returns-in_err-busy-clause-kept : goal.returns-in_err-busy-clause-kept
returns-in_err-busy-clause-kept g c = λ v w j.
    round_err g.V.Visit.opens_by (StandsIn g.V.Visit g.V.Acc.Seen) v w c.deliver.new.ranks (g.M.Wire.desk c.deliver.new.wire) c.from_residual-in_err-busy.result c.from_residual-in_err-busy.ensures.0 (c.in_err-busy.ensures.legal v w (c.in_ok-post_all.ensures.kept v w (running_step g.V.Visit.opens_by (StandsIn g.V.Visit g.V.Acc.Seen) v w c.args.ranks.now c.step_all.new.ranks (g.M.Wire.desk c.args.wire.now) j c.requires.quiet c.requires.start c.step_all.ensures.each c.step_all.ensures.len (c.any_starved.ensures.none c.if-any_starved.false))))

-- where memory is refused for a letter, the log is legal
pub returns-in_err-busy-clause-legal : goal.returns-in_err-busy-clause-legal
returns-in_err-busy-clause-legal g c = λ v w j. c.in_err-busy.ensures.legal v w (c.in_ok-post_all.ensures.kept v w (running_step g.V.Visit.opens_by (StandsIn g.V.Visit g.V.Acc.Seen) v w c.args.ranks.now c.step_all.new.ranks (g.M.Wire.desk c.args.wire.now) j c.requires.quiet c.requires.start c.step_all.ensures.each c.step_all.ensures.len (c.any_starved.ensures.none c.if-any_starved.false)))

-- with letters taken, the wire has room for the round
pub round-requires-2-clause-room : goal.round-requires-2-clause-room
round-requires-2-clause-room g c = (room_left g.V.Visit.opens_by (StandsIn g.V.Visit g.V.Acc.Seen) c.requires.running.0 c.requires.running.1 c.deliver.new.ranks (g.M.Wire.desk c.deliver.new.wire) 1 (c.in_ok-busy.ensures.kept c.requires.running.0 c.requires.running.1 (c.in_ok-post_all.ensures.kept c.requires.running.0 c.requires.running.1 (running_step g.V.Visit.opens_by (StandsIn g.V.Visit g.V.Acc.Seen) c.requires.running.0 c.requires.running.1 c.args.ranks.now c.step_all.new.ranks (g.M.Wire.desk c.args.wire.now) c.requires.running.2 c.requires.quiet c.requires.start c.step_all.ensures.each c.step_all.ensures.len (c.any_starved.ensures.none c.if-any_starved.false))))).0

-- with letters taken, the ranks run on to the next round
pub returns-clause-kept : goal.returns-clause-kept
returns-clause-kept g c = λ v w j.
    running_round g.V.Visit.opens_by (StandsIn g.V.Visit g.V.Acc.Seen) v w c.deliver.new.ranks (g.M.Wire.desk c.deliver.new.wire) (g.M.Wire.desk c.round-2.new.self) (c.in_ok-busy.ensures.kept v w (c.in_ok-post_all.ensures.kept v w (running_step g.V.Visit.opens_by (StandsIn g.V.Visit g.V.Acc.Seen) v w c.args.ranks.now c.step_all.new.ranks (g.M.Wire.desk c.args.wire.now) j c.requires.quiet c.requires.start c.step_all.ensures.each c.step_all.ensures.len (c.any_starved.ensures.none c.if-any_starved.false)))) c.in_ok-busy.ensures.taken
    (λ e. c.in_ok-busy.ensures.eager (eager_back c.post_all.new.ranks (g.M.Wire.desk c.post_all.new.wire) c.deliver.new.ranks (g.M.Wire.desk c.deliver.new.wire) c.in_ok-busy.ensures.frame e)) c.round-2.ensures.ended

-- with letters taken, the log is legal
pub returns-clause-legal : goal.returns-clause-legal
returns-clause-legal g c = λ v w j. legal_round g.V.Visit.opens_by (StandsIn g.V.Visit g.V.Acc.Seen) v w c.deliver.new.ranks (g.M.Wire.desk c.deliver.new.wire) (g.M.Wire.desk c.round-2.new.self) (c.in_ok-busy.ensures.kept v w (c.in_ok-post_all.ensures.kept v w (running_step g.V.Visit.opens_by (StandsIn g.V.Visit g.V.Acc.Seen) v w c.args.ranks.now c.step_all.new.ranks (g.M.Wire.desk c.args.wire.now) j c.requires.quiet c.requires.start c.step_all.ensures.each c.step_all.ensures.len (c.any_starved.ensures.none c.if-any_starved.false)))) c.round-2.ensures.ended

-- with letters taken, all outboxes are empty
pub returns-clause-quiet : goal.returns-clause-quiet
returns-clause-quiet g c = c.in_ok-busy.ensures.quiet c.in_ok-post_all.ensures.quiet

-- where a rank is starved, the ranks have their numbers
pub returns-then-any_starved-clause-places : goal.returns-then-any_starved-clause-places
returns-then-any_starved-clause-places g c = numbers_step c.args.ranks.now c.step_all.new.ranks c.step_all.ensures.len (λ k d lt. (c.step_all.ensures.each k d lt).me)

-- where a posting is refused, the ranks have their numbers
pub returns-in_err-post_all-clause-places : goal.returns-in_err-post_all-clause-places
returns-in_err-post_all-clause-places g c = c.in_err-post_all.ensures.places ∙ numbers_step c.args.ranks.now c.step_all.new.ranks c.step_all.ensures.len (λ k d lt. (c.step_all.ensures.each k d lt).me)

-- with nothing pending after the posting, the ranks have their numbers
pub returns-then-pending-eq0-clause-places : goal.returns-then-pending-eq0-clause-places
returns-then-pending-eq0-clause-places g c = c.in_ok-post_all.ensures.places ∙ numbers_step c.args.ranks.now c.step_all.new.ranks c.step_all.ensures.len (λ k d lt. (c.step_all.ensures.each k d lt).me)

-- where memory is refused for a letter, the ranks have their numbers
pub returns-in_err-busy-clause-places : goal.returns-in_err-busy-clause-places
returns-in_err-busy-clause-places g c = c.in_err-busy.ensures.places ∙ c.in_ok-post_all.ensures.places ∙ numbers_step c.args.ranks.now c.step_all.new.ranks c.step_all.ensures.len (λ k d lt. (c.step_all.ensures.each k d lt).me)

-- with letters taken, the ranks have their numbers
pub returns-clause-places : goal.returns-clause-places
returns-clause-places g c = c.in_ok-busy.ensures.places ∙ c.in_ok-post_all.ensures.places ∙ numbers_step c.args.ranks.now c.step_all.new.ranks c.step_all.ensures.len (λ k d lt. (c.step_all.ensures.each k d lt).me)

-- where a posting is refused, the mail stays
pub returns-in_err-post_all-clause-mail : goal.returns-in_err-post_all-clause-mail
returns-in_err-post_all-clause-mail g c = frame_mail c.step_all.new.ranks (g.M.Wire.desk c.args.wire.now) c.post_all.new.ranks (g.M.Wire.desk c.post_all.new.wire) c.in_err-post_all.ensures.frame

-- with nothing pending after the posting, the mail stays
pub returns-then-pending-eq0-clause-mail : goal.returns-then-pending-eq0-clause-mail
returns-then-pending-eq0-clause-mail g c = round_mail c.step_all.new.ranks (g.M.Wire.desk c.args.wire.now) c.post_all.new.ranks (g.M.Wire.desk c.post_all.new.wire) (g.M.Wire.desk c.round.new.self) c.in_ok-post_all.ensures.frame c.round.ensures.ended

-- where memory is refused for a letter, the mail stays
pub returns-in_err-busy-clause-mail : goal.returns-in_err-busy-clause-mail
returns-in_err-busy-clause-mail g c = frame_mail c.step_all.new.ranks (g.M.Wire.desk c.args.wire.now) c.deliver.new.ranks (g.M.Wire.desk c.deliver.new.wire) (frame_on c.step_all.new.ranks (g.M.Wire.desk c.args.wire.now) c.post_all.new.ranks (g.M.Wire.desk c.post_all.new.wire) c.deliver.new.ranks (g.M.Wire.desk c.deliver.new.wire) c.in_ok-post_all.ensures.frame c.in_err-busy.ensures.frame)

-- with letters taken, the mail stays
pub returns-clause-mail : goal.returns-clause-mail
returns-clause-mail g c = round_mail c.step_all.new.ranks (g.M.Wire.desk c.args.wire.now) c.deliver.new.ranks (g.M.Wire.desk c.deliver.new.wire) (g.M.Wire.desk c.round-2.new.self) (frame_on c.step_all.new.ranks (g.M.Wire.desk c.args.wire.now) c.post_all.new.ranks (g.M.Wire.desk c.post_all.new.wire) c.deliver.new.ranks (g.M.Wire.desk c.deliver.new.wire) c.in_ok-post_all.ensures.frame c.in_ok-busy.ensures.frame) c.round-2.ensures.ended

-- with nothing pending after the posting, there is one round more
pub returns-then-pending-eq0-clause-rounds : goal.returns-then-pending-eq0-clause-rounds
returns-then-pending-eq0-clause-rounds g c = round_more c.step_all.new.ranks (g.M.Wire.desk c.args.wire.now) c.post_all.new.ranks (g.M.Wire.desk c.post_all.new.wire) (g.M.Wire.desk c.round.new.self) c.in_ok-post_all.ensures.frame c.round.ensures.ended

-- with letters taken, there is one round more
pub returns-clause-rounds : goal.returns-clause-rounds
returns-clause-rounds g c = round_more c.step_all.new.ranks (g.M.Wire.desk c.args.wire.now) c.deliver.new.ranks (g.M.Wire.desk c.deliver.new.wire) (g.M.Wire.desk c.round-2.new.self) (frame_on c.step_all.new.ranks (g.M.Wire.desk c.args.wire.now) c.post_all.new.ranks (g.M.Wire.desk c.post_all.new.wire) c.deliver.new.ranks (g.M.Wire.desk c.deliver.new.wire) c.in_ok-post_all.ensures.frame c.in_ok-busy.ensures.frame) c.round-2.ensures.ended

-- with nothing pending after the posting, the next round starts
pub returns-then-pending-eq0-clause-start : goal.returns-then-pending-eq0-clause-start
returns-then-pending-eq0-clause-start g c = round_start (g.M.Wire.desk c.post_all.new.wire) (g.M.Wire.desk c.round.new.self) c.round.ensures.ended

-- with letters taken, the next round starts
pub returns-clause-start : goal.returns-clause-start
returns-clause-start g c = round_start (g.M.Wire.desk c.deliver.new.wire) (g.M.Wire.desk c.round-2.new.self) c.round-2.ensures.ended

-- where a rank is starved, the log is legal
pub returns-then-any_starved-clause-kept : goal.returns-then-any_starved-clause-kept
returns-then-any_starved-clause-kept g c = λ v w j. j.joint.legal

-- where a rank is starved, the log is legal, as told of the log alone
pub returns-then-any_starved-clause-legal : goal.returns-then-any_starved-clause-legal
returns-then-any_starved-clause-legal g c = λ v w j. j.joint.legal

-- with nothing pending after the posting, the wire may end the round
pub round-requires-clause-over : goal.round-requires-clause-over
round-requires-clause-over g c = inl (nil_of (g.M.Wire.desk c.post_all.new.wire).pending (sym c.pending.ensures.count ∙ c.if-pending-eq0.true))

-- no letter more may be taken in the round
pub round-requires-2-clause-over : goal.round-requires-2-clause-over
round-requires-2-clause-over g c = c.in_ok-busy.ensures.over
