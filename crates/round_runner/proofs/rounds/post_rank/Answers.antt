use Rattle.std.proofs.Common.{◌≡◌, length, ap, sym, subst, ◌∙◌, arith, Some, None}
use Rattle.wire.specs.Desk.{Desk}
use Rattle.rank_core.specs.Standing.{StandsIn}
use Rattle.protocol.specs.Logs.{Legal}
use Rattle.round_runner.specs.Running.{Running}
use Rattle.round_runner.proofs.Runs.{pops_worked, pops_others, pops_len, pops_numbers, pops_smaller, pops_quiet, running_post, running_none, frame_on, frame_post}
use Rattle.round_runner.proofs.rounds.post_rank.Goals as goal

-- where a posting is refused, the log is legal
pub returns-in-Err-clause-legal : goal.returns-in-Err-clause-legal
returns-in-Err-clause-legal g c = λ v w j. subst (λ (x : Desk). Legal (g.V.Visit.opens_by v) w x.log) (sym c.in-Err.ensures.posted_or_unchanged.1) (c.loop-letter.invariant.kept v w j).joint.legal

-- where a posting is refused, each rank is as a step leaves it, if all were so
pub returns-in-Err-clause-worked : goal.returns-in-Err-clause-worked
returns-in-Err-clause-worked g c = λ wk. pops_worked (StandsIn g.V.Visit g.V.Acc.Seen) c.loop-letter.ranks c.args.q (Some c.in-Some.letter) c.pop_from.new.ranks c.in-Some.ensures.popped (c.loop-letter.invariant.worked wk)

-- where a posting is refused, all ranks but q are as they were
pub returns-in-Err-clause-others : goal.returns-in-Err-clause-others
returns-in-Err-clause-others g c = λ p ne. pops_others (StandsIn g.V.Visit g.V.Acc.Seen) c.loop-letter.ranks c.args.q (Some c.in-Some.letter) c.pop_from.new.ranks c.in-Some.ensures.popped p ne ∙ c.loop-letter.invariant.others p ne

-- where a posting is refused, the ranks have their numbers
pub returns-in-Err-clause-places : goal.returns-in-Err-clause-places
returns-in-Err-clause-places g c = pops_numbers (StandsIn g.V.Visit g.V.Acc.Seen) c.loop-letter.ranks c.args.q (Some c.in-Some.letter) c.pop_from.new.ranks c.in-Some.ensures.popped ∙ c.loop-letter.invariant.places

-- with one more letter popped, the outbox is shorter
pub loop-letter-smaller : goal.loop-letter-smaller
loop-letter-smaller g c = pops_smaller (StandsIn g.V.Visit g.V.Acc.Seen) c.loop-letter.ranks c.args.q c.in-Some.letter c.pop_from.new.ranks c.in-Some.ensures.popped

-- with one more letter posted, what holds in the loop holds again
pub loop-letter-preserved : goal.loop-letter-preserved
loop-letter-preserved g c =
    let i = c.loop-letter.invariant in
    let n : length c.pop_from.new.ranks ≡ length c.loop-letter.ranks = pops_len (StandsIn g.V.Visit g.V.Acc.Seen) c.loop-letter.ranks c.args.q (Some c.in-Some.letter) c.pop_from.new.ranks c.in-Some.ensures.popped in
    record {
      within = omega arith;
      kept = λ v w j. subst (λ (x : Desk). Running g.V.Visit.opens_by (StandsIn g.V.Visit g.V.Acc.Seen) v w c.pop_from.new.ranks x 1) (sym c.in-Ok.ensures.posted_or_unchanged) (running_post g.V.Visit.opens_by (StandsIn g.V.Visit g.V.Acc.Seen) v w c.loop-letter.ranks (g.M.Wire.desk c.loop-letter.wire) c.args.q c.in-Some.letter c.pop_from.new.ranks c.in-Some.ensures.popped (i.kept v w j));
      worked = λ wk. pops_worked (StandsIn g.V.Visit g.V.Acc.Seen) c.loop-letter.ranks c.args.q (Some c.in-Some.letter) c.pop_from.new.ranks c.in-Some.ensures.popped (i.worked wk);
      others = λ p ne. pops_others (StandsIn g.V.Visit g.V.Acc.Seen) c.loop-letter.ranks c.args.q (Some c.in-Some.letter) c.pop_from.new.ranks c.in-Some.ensures.popped p ne ∙ i.others p ne;
      places = pops_numbers (StandsIn g.V.Visit g.V.Acc.Seen) c.loop-letter.ranks c.args.q (Some c.in-Some.letter) c.pop_from.new.ranks c.in-Some.ensures.popped ∙ i.places;
      frame = frame_on c.args.ranks.now (g.M.Wire.desk c.args.wire.now) c.loop-letter.ranks (g.M.Wire.desk c.loop-letter.wire) c.pop_from.new.ranks (g.M.Wire.desk c.post.new.self) i.frame
          (frame_post c.loop-letter.ranks (g.M.Wire.desk c.loop-letter.wire) c.in-Some.letter c.pop_from.new.ranks (g.M.Wire.desk c.post.new.self) n c.in-Ok.ensures.posted_or_unchanged);
      turn = ap (λ (x : Desk). x.turn) c.in-Ok.ensures.posted_or_unchanged ∙ i.turn;
    }

-- at the end the ranks run on
pub returns-clause-kept : goal.returns-clause-kept
returns-clause-kept g c = λ v w j. running_none g.V.Visit.opens_by (StandsIn g.V.Visit g.V.Acc.Seen) v w c.loop-letter.ranks (g.M.Wire.desk c.loop-letter.wire) c.args.q c.pop_from.new.ranks c.in_default.ensures.popped (c.loop-letter.invariant.kept v w j)

-- at the end each rank is as a step leaves it, if all were so
pub returns-clause-worked : goal.returns-clause-worked
returns-clause-worked g c = λ wk. pops_worked (StandsIn g.V.Visit g.V.Acc.Seen) c.loop-letter.ranks c.args.q None c.pop_from.new.ranks c.in_default.ensures.popped (c.loop-letter.invariant.worked wk)

-- at the end the outbox of rank q is empty
pub returns-clause-quiet : goal.returns-clause-quiet
returns-clause-quiet g c = pops_quiet (StandsIn g.V.Visit g.V.Acc.Seen) c.loop-letter.ranks c.args.q c.pop_from.new.ranks c.in_default.ensures.popped

-- at the end all ranks but q are as they were
pub returns-clause-others : goal.returns-clause-others
returns-clause-others g c = λ p ne. pops_others (StandsIn g.V.Visit g.V.Acc.Seen) c.loop-letter.ranks c.args.q None c.pop_from.new.ranks c.in_default.ensures.popped p ne ∙ c.loop-letter.invariant.others p ne

-- at the end the ranks have their numbers
pub returns-clause-places : goal.returns-clause-places
returns-clause-places g c = pops_numbers (StandsIn g.V.Visit g.V.Acc.Seen) c.loop-letter.ranks c.args.q None c.pop_from.new.ranks c.in_default.ensures.popped ∙ c.loop-letter.invariant.places

-- at the end the log is legal
pub returns-clause-legal : goal.returns-clause-legal
returns-clause-legal g c = λ v w j. (c.loop-letter.invariant.kept v w j).joint.legal
