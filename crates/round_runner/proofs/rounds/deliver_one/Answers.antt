use Rattle.std.proofs.Common.{ap, length, ◌∙◌}
use Rattle.protocol.proofs.Places.{set_len}
use Rattle.rank_core.specs.Standing.{StandsIn}
use Rattle.wire.specs.Desk.{Desk}
use Rattle.protocol.specs.Logs.{taken_since}
use Rattle.round_runner.specs.Running.{numbers}
use Rattle.round_runner.proofs.Runs.{taken_letter, taken_within, taken_legal, taken_fresh, running_take, hands_quiet, numbers_set, frame_take, fewer_take}
use Rattle.round_runner.proofs.rounds.deliver_one.Goals as goal

-- the receiver of the letter is one of the ranks
pub hand-requires-clause-within : goal.hand-requires-clause-within
hand-requires-clause-within g c κs within = taken_within g.V.Visit.opens_by (StandsIn g.V.Visit g.V.Acc.Seen) c.requires.running.0 c.requires.running.1 c.args.ranks.now (g.M.Wire.desk c.args.wire.now) (g.M.Wire.desk c.take.new.self) c.in-Some.letter c.requires.running.2 c.in-Some.ensures.taken_or_none

-- the letter is true of a world for which its receiver stands
pub hand-requires-clause-fits : goal.hand-requires-clause-fits
hand-requires-clause-fits g c κs within = λ r gr. (
  c.requires.running.1,
  c.requires.running.2.together.stand c.in-Some.letter.to r gr,
  taken_letter g.V.Visit.opens_by (StandsIn g.V.Visit g.V.Acc.Seen) c.requires.running.0 c.requires.running.1 c.args.ranks.now (g.M.Wire.desk c.args.wire.now) (g.M.Wire.desk c.take.new.self) c.in-Some.letter c.requires.running.2 c.in-Some.ensures.taken_or_none,
)

-- the rank at the place of the receiver is the receiver, and may take it
pub hand-requires-clause-mine : goal.hand-requires-clause-mine
hand-requires-clause-mine g c κs within = λ r gr. taken_fresh g.V.Visit.opens_by (StandsIn g.V.Visit g.V.Acc.Seen) c.requires.running.0 c.requires.running.1 c.args.ranks.now (g.M.Wire.desk c.args.wire.now) (g.M.Wire.desk c.take.new.self) c.in-Some.letter c.requires.running.2 c.in-Some.ensures.taken_or_none r gr

-- where the receiver is refused memory, the log is legal
pub returns-in_err-hand-in-Some-clause-legal : goal.returns-in_err-hand-in-Some-clause-legal
returns-in_err-hand-in-Some-clause-legal g c = λ v w j. taken_legal g.V.Visit.opens_by (StandsIn g.V.Visit g.V.Acc.Seen) v w c.args.ranks.now (g.M.Wire.desk c.args.wire.now) (g.M.Wire.desk c.take.new.self) c.in-Some.letter j c.in-Some.ensures.taken_or_none

-- where the letter was handed over, the log is legal
pub returns-clause-legal : goal.returns-clause-legal
returns-clause-legal g c = λ v w j. taken_legal g.V.Visit.opens_by (StandsIn g.V.Visit g.V.Acc.Seen) v w c.args.ranks.now (g.M.Wire.desk c.args.wire.now) (g.M.Wire.desk c.take.new.self) c.in-Some.letter j c.in-Some.ensures.taken_or_none

-- where the receiver is refused memory, the ranks have their numbers
pub returns-in_err-hand-in-Some-clause-places : goal.returns-in_err-hand-in-Some-clause-places
returns-in_err-hand-in-Some-clause-places g c = let h = c.in_err-hand-in-Some.ensures.handed in ap (λ us. numbers us) h.3 ∙ numbers_set c.args.ranks.now c.in-Some.letter.to h.0 h.1 h.2 h.4.me

-- where the letter was handed over, the ranks have their numbers
pub returns-clause-places : goal.returns-clause-places
returns-clause-places g c = let h = c.in_ok-hand-in-Some.ensures.handed in ap (λ us. numbers us) h.3 ∙ numbers_set c.args.ranks.now c.in-Some.letter.to h.0 h.1 h.2 h.4.me

-- where the letter was handed over, the ranks run on
pub returns-clause-kept : goal.returns-clause-kept
returns-clause-kept g c = λ v w j. running_take g.V.Visit.opens_by (StandsIn g.V.Visit g.V.Acc.Seen) v w c.args.ranks.now (g.M.Wire.desk c.args.wire.now) (g.M.Wire.desk c.take.new.self) c.in-Some.letter j c.in-Some.ensures.taken_or_none c.hand.new.ranks c.in_ok-hand-in-Some.field-0 c.in_ok-hand-in-Some.ensures.handed

-- where the letter was handed over, outboxes that were all empty are so
pub returns-clause-quiet : goal.returns-clause-quiet
returns-clause-quiet g c = λ qt. hands_quiet (StandsIn g.V.Visit g.V.Acc.Seen) c.args.ranks.now c.in-Some.letter c.hand.new.ranks c.in_ok-hand-in-Some.field-0 c.in_ok-hand-in-Some.ensures.handed qt

-- where the receiver is refused memory, the frame is kept
pub returns-in_err-hand-in-Some-clause-frame : goal.returns-in_err-hand-in-Some-clause-frame
returns-in_err-hand-in-Some-clause-frame g c = frame_take c.args.ranks.now (g.M.Wire.desk c.args.wire.now) (g.M.Wire.desk c.take.new.self) c.in-Some.letter c.hand.new.ranks (let h = c.in_err-hand-in-Some.ensures.handed in ap length h.3 ∙ set_len c.args.ranks.now c.in-Some.letter.to h.1) c.in-Some.ensures.taken_or_none

-- where the letter was handed over, the frame is kept
pub returns-clause-frame : goal.returns-clause-frame
returns-clause-frame g c = frame_take c.args.ranks.now (g.M.Wire.desk c.args.wire.now) (g.M.Wire.desk c.take.new.self) c.in-Some.letter c.hand.new.ranks (let h = c.in_ok-hand-in-Some.ensures.handed in ap length h.3 ∙ set_len c.args.ranks.now c.in-Some.letter.to h.1) c.in-Some.ensures.taken_or_none

-- where the receiver is refused memory, one letter less is pending
pub returns-in_err-hand-in-Some-clause-fewer : goal.returns-in_err-hand-in-Some-clause-fewer
returns-in_err-hand-in-Some-clause-fewer g c = fewer_take (g.M.Wire.desk c.args.wire.now) (g.M.Wire.desk c.take.new.self) c.in-Some.letter c.in-Some.ensures.taken_or_none

-- where the letter was handed over, one letter less is pending
pub returns-clause-fewer : goal.returns-clause-fewer
returns-clause-fewer g c = fewer_take (g.M.Wire.desk c.args.wire.now) (g.M.Wire.desk c.take.new.self) c.in-Some.letter c.in-Some.ensures.taken_or_none

-- where the receiver is refused memory, a letter was taken in this round
pub returns-in_err-hand-in-Some-clause-taken : goal.returns-in_err-hand-in-Some-clause-taken
returns-in_err-hand-in-Some-clause-taken g c = ap (λ (y : Desk). taken_since y.log) c.in-Some.ensures.taken_or_none.3

-- where the letter was handed over, a letter was taken in this round
pub returns-clause-taken : goal.returns-clause-taken
returns-clause-taken g c = ap (λ (y : Desk). taken_since y.log) c.in-Some.ensures.taken_or_none.3

-- where the receiver is refused memory, the turn is used
pub returns-in_err-hand-in-Some-clause-used : goal.returns-in_err-hand-in-Some-clause-used
returns-in_err-hand-in-Some-clause-used g c = ap (λ (y : Desk). y.turn) c.in-Some.ensures.taken_or_none.3

-- where the letter was handed over, the turn is used
pub returns-clause-used : goal.returns-clause-used
returns-clause-used g c = ap (λ (y : Desk). y.turn) c.in-Some.ensures.taken_or_none.3
