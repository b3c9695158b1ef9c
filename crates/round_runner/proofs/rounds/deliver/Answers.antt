use Rattle.std.proofs.Common.{◌∙◌, ap, sym, inr, true≢false}
use Rattle.wire.specs.Desk.{Desk}
use Rattle.protocol.specs.Logs.{taken_since}
use Rattle.wire.specs.declared.wire.Turn.TheVariants.{Free, Shut}
use Rattle.rank_core.specs.Standing.{StandsIn}
use Rattle.round_runner.proofs.Runs.{frame_on, frame_turned, running_turned, eager_forth}
use Rattle.round_runner.proofs.rounds.deliver.Goals as goal

-- before one more letter is taken the ranks run
pub deliver_one-requires-in-loop-wire-clause-running : goal.deliver_one-requires-in-loop-wire-clause-running
deliver_one-requires-in-loop-wire-clause-running g c κs within =
    let v = c.requires.running.0 in let w = c.requires.running.1 in
    (v, w, running_turned g.V.Visit.opens_by (StandsIn g.V.Visit g.V.Acc.Seen) v w c.loop-wire.ranks (g.M.Wire.desk c.loop-wire.wire) (g.M.Wire.desk c.more.new.self) Free c.if-more.ensures.turn (c.loop-wire.invariant.kept v w c.requires.running.2))

-- with one more letter taken, what holds in the loop holds again
pub loop-wire-preserved : goal.loop-wire-preserved
loop-wire-preserved g c =
    let i = c.loop-wire.invariant in let e = c.in_ok-receivers-2.ensures in
    record {
      kept = λ v w j. e.kept v w (running_turned g.V.Visit.opens_by (StandsIn g.V.Visit g.V.Acc.Seen) v w c.loop-wire.ranks (g.M.Wire.desk c.loop-wire.wire) (g.M.Wire.desk c.more.new.self) Free c.if-more.ensures.turn (i.kept v w j));
      quiet = λ q. e.quiet (i.quiet q);
      places = e.places ∙ i.places;
      frame = frame_on c.args.ranks.now (g.M.Wire.desk c.args.wire.now) c.loop-wire.ranks (g.M.Wire.desk c.more.new.self) c.deliver_one-in-loop-wire.new.ranks (g.M.Wire.desk c.deliver_one-in-loop-wire.new.wire)
          (frame_on c.args.ranks.now (g.M.Wire.desk c.args.wire.now) c.loop-wire.ranks (g.M.Wire.desk c.loop-wire.wire) c.loop-wire.ranks (g.M.Wire.desk c.more.new.self) i.frame
          (frame_turned c.loop-wire.ranks (g.M.Wire.desk c.loop-wire.wire) (g.M.Wire.desk c.more.new.self) Free c.if-more.ensures.turn)) e.frame;
      used = e.used;
      taken = e.taken;
    }

-- where memory is refused for a later letter, the log is legal
pub returns-in_err-receivers-2-clause-legal : goal.returns-in_err-receivers-2-clause-legal
returns-in_err-receivers-2-clause-legal g c = λ v w j.
    c.in_err-receivers-2.ensures.legal v w (running_turned g.V.Visit.opens_by (StandsIn g.V.Visit g.V.Acc.Seen) v w c.loop-wire.ranks (g.M.Wire.desk c.loop-wire.wire) (g.M.Wire.desk c.more.new.self) Free c.if-more.ensures.turn (c.loop-wire.invariant.kept v w j))

-- where memory is refused for a later letter, the ranks have their numbers
pub returns-in_err-receivers-2-clause-places : goal.returns-in_err-receivers-2-clause-places
returns-in_err-receivers-2-clause-places g c = c.in_err-receivers-2.ensures.places ∙ c.loop-wire.invariant.places

-- where the wire gives no more, the ranks run on
pub returns-else-more-clause-kept : goal.returns-else-more-clause-kept
returns-else-more-clause-kept g c = λ v w j.
    running_turned g.V.Visit.opens_by (StandsIn g.V.Visit g.V.Acc.Seen) v w c.loop-wire.ranks (g.M.Wire.desk c.loop-wire.wire) (g.M.Wire.desk c.more.new.self) Shut c.if-more.ensures.turn (c.loop-wire.invariant.kept v w j)

-- where the wire gives no more, the log is legal
pub returns-else-more-clause-legal : goal.returns-else-more-clause-legal
returns-else-more-clause-legal g c = λ v w j.
    (running_turned g.V.Visit.opens_by (StandsIn g.V.Visit g.V.Acc.Seen) v w c.loop-wire.ranks (g.M.Wire.desk c.loop-wire.wire) (g.M.Wire.desk c.more.new.self) Shut c.if-more.ensures.turn (c.loop-wire.invariant.kept v w j)).joint.legal

-- where nothing is pending any more, the log is legal
pub returns-after-loop-wire-clause-legal : goal.returns-after-loop-wire-clause-legal
returns-after-loop-wire-clause-legal g c = λ v w j. (c.loop-wire.invariant.kept v w j).joint.legal

-- where memory is refused for a later letter, the frame is kept
pub returns-in_err-receivers-2-clause-frame : goal.returns-in_err-receivers-2-clause-frame
returns-in_err-receivers-2-clause-frame g c =
    frame_on c.args.ranks.now (g.M.Wire.desk c.args.wire.now) c.loop-wire.ranks (g.M.Wire.desk c.more.new.self) c.deliver_one-in-loop-wire.new.ranks (g.M.Wire.desk c.deliver_one-in-loop-wire.new.wire)
    (frame_on c.args.ranks.now (g.M.Wire.desk c.args.wire.now) c.loop-wire.ranks (g.M.Wire.desk c.loop-wire.wire) c.loop-wire.ranks (g.M.Wire.desk c.more.new.self) c.loop-wire.invariant.frame
    (frame_turned c.loop-wire.ranks (g.M.Wire.desk c.loop-wire.wire) (g.M.Wire.desk c.more.new.self) Free c.if-more.ensures.turn)) c.in_err-receivers-2.ensures.frame

-- where the wire gives no more, the frame is kept
pub returns-else-more-clause-frame : goal.returns-else-more-clause-frame
returns-else-more-clause-frame g c =
    frame_on c.args.ranks.now (g.M.Wire.desk c.args.wire.now) c.loop-wire.ranks (g.M.Wire.desk c.loop-wire.wire) c.loop-wire.ranks (g.M.Wire.desk c.more.new.self) c.loop-wire.invariant.frame (frame_turned c.loop-wire.ranks (g.M.Wire.desk c.loop-wire.wire) (g.M.Wire.desk c.more.new.self) Shut c.if-more.ensures.turn)

-- where the wire gives no more, it is not eager
pub returns-else-more-clause-eager : goal.returns-else-more-clause-eager
returns-else-more-clause-eager g c = λ h.
    absurd (true≢false (sym (c.if-more.ensures.eager (eager_forth c.args.ranks.now (g.M.Wire.desk c.args.wire.now) c.loop-wire.ranks (g.M.Wire.desk c.loop-wire.wire) c.loop-wire.invariant.frame h))))

-- where the wire gives no more, it is shut
pub returns-else-more-clause-over : goal.returns-else-more-clause-over
returns-else-more-clause-over g c = inr (ap (λ (y : Desk). y.turn) c.if-more.ensures.turn)

-- where the wire gives no more, a letter was taken in this round
pub returns-else-more-clause-taken : goal.returns-else-more-clause-taken
returns-else-more-clause-taken g c = ap (λ (y : Desk). taken_since y.log) c.if-more.ensures.turn ∙ c.loop-wire.invariant.taken

-- where the wire gives no more, outboxes that were all empty are so
pub returns-else-more-clause-quiet : goal.returns-else-more-clause-quiet
returns-else-more-clause-quiet g c = c.loop-wire.invariant.quiet

-- where nothing is pending any more, the ranks run on
pub returns-after-loop-wire-clause-kept : goal.returns-after-loop-wire-clause-kept
returns-after-loop-wire-clause-kept g c = c.loop-wire.invariant.kept

-- where nothing is pending any more, the frame is kept
pub returns-after-loop-wire-clause-frame : goal.returns-after-loop-wire-clause-frame
returns-after-loop-wire-clause-frame g c = c.loop-wire.invariant.frame

-- with the first letter taken, what holds in the loop holds
pub loop-wire-init : goal.loop-wire-init
loop-wire-init g c =
    let e = c.in_ok-receivers.ensures in
    record { kept = e.kept; quiet = e.quiet; places = e.places; frame = e.frame; used = e.used; taken = e.taken }
