use Rattle.std.proofs.Common.{◌≡◌, length, refl, ap, sym, subst, ◌∙◌, arith}
use Rattle.wire.specs.Desk.{rounds_in}
use Rattle.protocol.specs.Joint.{AllQuiet, AllFinished}
use Rattle.rank_core.specs.Standing.{StandsIn}
use Rattle.protocol.specs.Ranks.{seats, Together}
use Rattle.round_runner.specs.Running.{numbers, Running}
use Rattle.protocol.proofs.Keeping.{few_rounds_of}
use Rattle.round_runner.proofs.Runs.{running_new, begun_start, as_slice, ends_last, ends_more, back_in, rounds_small, below_word, same_on, eager_on, placed_by, new_placed}
use Rattle.round_runner.proofs.rounds.run.Goals as goal

-- before the first round what is to hold in the loop holds
pub loop-last-init : goal.loop-last-init
loop-last-init g c = record {
  kept = λ v w t. running_new g.V.Visit.opens_by (StandsIn g.V.Visit g.V.Acc.Seen) v w c.args.ranks.now.items (g.M.Wire.desk c.args.wire.now) t c.requires.new c.requires.begun;
  quiet = λ q s gs. (c.requires.new q s gs).outbox;
  start = begun_start (g.M.Wire.desk c.args.wire.now) c.requires.begun;
  free = c.requires.begun.turn;
  mail = record { mail = refl; eager = refl };
  rounds = sym (ap rounds_in c.requires.begun.log);
  places = refl;
  len = refl;
}

-- there is a world in which the ranks run
pub one_round-requires-clause-running : goal.one_round-requires-clause-running
one_round-requires-clause-running g c κs within = (c.requires.together.0, c.requires.together.1, (as_slice g.V.Visit.opens_by (StandsIn g.V.Visit g.V.Acc.Seen) c.requires.together.0 c.requires.together.1 c.loop-last.ranks.items c.as_mut_slice.result.now (g.M.Wire.desk c.loop-last.wire) c.as_mut_slice.ensures.value (c.loop-last.invariant.kept c.requires.together.0 c.requires.together.1 c.requires.together.2)))

-- before each round all outboxes are empty
pub one_round-requires-clause-quiet : goal.one_round-requires-clause-quiet
one_round-requires-clause-quiet g c κs within = subst (λ us. AllQuiet (seats us)) (sym c.as_mut_slice.ensures.value) c.loop-last.invariant.quiet

-- where memory is refused, the log is legal
pub returns-in_err-last-clause-legal : goal.returns-in_err-last-clause-legal
returns-in_err-last-clause-legal g c = λ v w t. c.in_err-last.ensures.legal v w (as_slice g.V.Visit.opens_by (StandsIn g.V.Visit g.V.Acc.Seen) v w c.loop-last.ranks.items c.as_mut_slice.result.now (g.M.Wire.desk c.loop-last.wire) c.as_mut_slice.ensures.value (c.loop-last.invariant.kept v w t))

-- one round more than were counted fits 64 bits
pub overflow_add-rounds : goal.overflow_add-rounds
overflow_add-rounds g c = let f = (rounds_small g.V.Visit.opens_by (StandsIn g.V.Visit g.V.Acc.Seen) c.requires.together.0 c.requires.together.1 c.loop-last.ranks.items (g.M.Wire.desk c.loop-last.wire) (omega (arith, c.requires.few, c.loop-last.invariant.len)) (c.loop-last.invariant.kept c.requires.together.0 c.requires.together.1 c.requires.together.2)) in let r = c.loop-last.invariant.rounds in below_word c.loop-last.rounds (omega arith)

-- after the last round each rank is finished
pub returns-then-last-clause-finished : goal.returns-then-last-clause-finished
returns-then-last-clause-finished g c = subst (λ us. AllFinished (seats us)) (sym (back_in c.one_round.new.ranks c.loop-last.ranks.items c.loop-last.ranks.len (let v : length c.as_mut_slice.result.now ≡ length c.loop-last.ranks.items = ap length c.as_mut_slice.ensures.value in let o = c.loop-last.ranks.ok.0 in let n = c.in_ok-last.ensures.len in omega arith))) (ends_last g.V.Visit.opens_by (StandsIn g.V.Visit g.V.Acc.Seen) c.requires.together.0 c.requires.together.1 c.one_round.new.ranks (g.M.Wire.desk c.one_round.new.wire) c.in_ok-last.last c.if-last.true (c.in_ok-last.ensures.kept c.requires.together.0 c.requires.together.1 (as_slice g.V.Visit.opens_by (StandsIn g.V.Visit g.V.Acc.Seen) c.requires.together.0 c.requires.together.1 c.loop-last.ranks.items c.as_mut_slice.result.now (g.M.Wire.desk c.loop-last.wire) c.as_mut_slice.ensures.value (c.loop-last.invariant.kept c.requires.together.0 c.requires.together.1 c.requires.together.2)))).finished

-- after the last round rank q is at place q
pub returns-then-last-clause-placed : goal.returns-then-last-clause-placed
returns-then-last-clause-placed g c = placed_by c.args.ranks.now.items _ (ap (λ us. numbers us) (back_in c.one_round.new.ranks c.loop-last.ranks.items c.loop-last.ranks.len (let v : length c.as_mut_slice.result.now ≡ length c.loop-last.ranks.items = ap length c.as_mut_slice.ensures.value in let o = c.loop-last.ranks.ok.0 in let n = c.in_ok-last.ensures.len in omega arith)) ∙ c.in_ok-last.ensures.places ∙ ap (λ us. numbers us) c.as_mut_slice.ensures.value ∙ c.loop-last.invariant.places) (new_placed c.args.ranks.now.items c.requires.new)

-- where memory is refused, rank q is at place q
pub returns-in_err-last-clause-placed : goal.returns-in_err-last-clause-placed
returns-in_err-last-clause-placed g c = placed_by c.args.ranks.now.items _ (ap (λ us. numbers us) (back_in c.one_round.new.ranks c.loop-last.ranks.items c.loop-last.ranks.len (let v : length c.as_mut_slice.result.now ≡ length c.loop-last.ranks.items = ap length c.as_mut_slice.ensures.value in let o = c.loop-last.ranks.ok.0 in let n = c.in_err-last.ensures.len in omega arith)) ∙ c.in_err-last.ensures.places ∙ ap (λ us. numbers us) c.as_mut_slice.ensures.value ∙ c.loop-last.invariant.places) (new_placed c.args.ranks.now.items c.requires.new)

-- after the last round the ranks are together as before
pub returns-then-last-clause-stand : goal.returns-then-last-clause-stand
returns-then-last-clause-stand g c = λ v w t. subst (λ us. Together (StandsIn g.V.Visit g.V.Acc.Seen) v w us) (sym (back_in c.one_round.new.ranks c.loop-last.ranks.items c.loop-last.ranks.len (let v : length c.as_mut_slice.result.now ≡ length c.loop-last.ranks.items = ap length c.as_mut_slice.ensures.value in let o = c.loop-last.ranks.ok.0 in let n = c.in_ok-last.ensures.len in omega arith))) (ends_last g.V.Visit.opens_by (StandsIn g.V.Visit g.V.Acc.Seen) v w c.one_round.new.ranks (g.M.Wire.desk c.one_round.new.wire) c.in_ok-last.last c.if-last.true (c.in_ok-last.ensures.kept v w (as_slice g.V.Visit.opens_by (StandsIn g.V.Visit g.V.Acc.Seen) v w c.loop-last.ranks.items c.as_mut_slice.result.now (g.M.Wire.desk c.loop-last.wire) c.as_mut_slice.ensures.value (c.loop-last.invariant.kept v w t)))).together

-- after the last round the log is legal
pub returns-then-last-clause-legal : goal.returns-then-last-clause-legal
returns-then-last-clause-legal g c = λ v w t. (ends_last g.V.Visit.opens_by (StandsIn g.V.Visit g.V.Acc.Seen) v w c.one_round.new.ranks (g.M.Wire.desk c.one_round.new.wire) c.in_ok-last.last c.if-last.true (c.in_ok-last.ensures.kept v w (as_slice g.V.Visit.opens_by (StandsIn g.V.Visit g.V.Acc.Seen) v w c.loop-last.ranks.items c.as_mut_slice.result.now (g.M.Wire.desk c.loop-last.wire) c.as_mut_slice.ensures.value (c.loop-last.invariant.kept v w t)))).legal

-- after the last round the log is complete
pub returns-then-last-clause-complete : goal.returns-then-last-clause-complete
returns-then-last-clause-complete g c = λ v w t. (ends_last g.V.Visit.opens_by (StandsIn g.V.Visit g.V.Acc.Seen) v w c.one_round.new.ranks (g.M.Wire.desk c.one_round.new.wire) c.in_ok-last.last c.if-last.true (c.in_ok-last.ensures.kept v w (as_slice g.V.Visit.opens_by (StandsIn g.V.Visit g.V.Acc.Seen) v w c.loop-last.ranks.items c.as_mut_slice.result.now (g.M.Wire.desk c.loop-last.wire) c.as_mut_slice.ensures.value (c.loop-last.invariant.kept v w t)))).complete

-- after the last round the rounds are within the bound
pub returns-then-last-clause-bound : goal.returns-then-last-clause-bound
returns-then-last-clause-bound g c = λ v w t. few_rounds_of (g.V.Visit.opens_by v) w (g.M.Wire.desk c.one_round.new.wire).log t.good (ends_last g.V.Visit.opens_by (StandsIn g.V.Visit g.V.Acc.Seen) v w c.one_round.new.ranks (g.M.Wire.desk c.one_round.new.wire) c.in_ok-last.last c.if-last.true (c.in_ok-last.ensures.kept v w (as_slice g.V.Visit.opens_by (StandsIn g.V.Visit g.V.Acc.Seen) v w c.loop-last.ranks.items c.as_mut_slice.result.now (g.M.Wire.desk c.loop-last.wire) c.as_mut_slice.ensures.value (c.loop-last.invariant.kept v w t)))).legal

-- after the last round nothing is pending
pub returns-then-last-clause-quiet : goal.returns-then-last-clause-quiet
returns-then-last-clause-quiet g c = (ends_last g.V.Visit.opens_by (StandsIn g.V.Visit g.V.Acc.Seen) c.requires.together.0 c.requires.together.1 c.one_round.new.ranks (g.M.Wire.desk c.one_round.new.wire) c.in_ok-last.last c.if-last.true (c.in_ok-last.ensures.kept c.requires.together.0 c.requires.together.1 (as_slice g.V.Visit.opens_by (StandsIn g.V.Visit g.V.Acc.Seen) c.requires.together.0 c.requires.together.1 c.loop-last.ranks.items c.as_mut_slice.result.now (g.M.Wire.desk c.loop-last.wire) c.as_mut_slice.ensures.value (c.loop-last.invariant.kept c.requires.together.0 c.requires.together.1 c.requires.together.2)))).quiet

-- after the last round the log is prompt, if the wire is eager
pub returns-then-last-clause-prompt : goal.returns-then-last-clause-prompt
returns-then-last-clause-prompt g c = λ e. (ends_last g.V.Visit.opens_by (StandsIn g.V.Visit g.V.Acc.Seen) c.requires.together.0 c.requires.together.1 c.one_round.new.ranks (g.M.Wire.desk c.one_round.new.wire) c.in_ok-last.last c.if-last.true (c.in_ok-last.ensures.kept c.requires.together.0 c.requires.together.1 (as_slice g.V.Visit.opens_by (StandsIn g.V.Visit g.V.Acc.Seen) c.requires.together.0 c.requires.together.1 c.loop-last.ranks.items c.as_mut_slice.result.now (g.M.Wire.desk c.loop-last.wire) c.as_mut_slice.ensures.value (c.loop-last.invariant.kept c.requires.together.0 c.requires.together.1 c.requires.together.2)))).prompt (eager_on (g.M.Wire.desk c.args.wire.now) (g.M.Wire.desk c.loop-last.wire) (g.M.Wire.desk c.one_round.new.wire) c.loop-last.invariant.mail c.in_ok-last.ensures.mail e)

-- after the last round the rounds are few, if the log is prompt
pub returns-then-last-clause-few : goal.returns-then-last-clause-few
returns-then-last-clause-few g c = (ends_last g.V.Visit.opens_by (StandsIn g.V.Visit g.V.Acc.Seen) c.requires.together.0 c.requires.together.1 c.one_round.new.ranks (g.M.Wire.desk c.one_round.new.wire) c.in_ok-last.last c.if-last.true (c.in_ok-last.ensures.kept c.requires.together.0 c.requires.together.1 (as_slice g.V.Visit.opens_by (StandsIn g.V.Visit g.V.Acc.Seen) c.requires.together.0 c.requires.together.1 c.loop-last.ranks.items c.as_mut_slice.result.now (g.M.Wire.desk c.loop-last.wire) c.as_mut_slice.ensures.value (c.loop-last.invariant.kept c.requires.together.0 c.requires.together.1 c.requires.together.2)))).few

-- after a round that was not the last one fewer may come
pub loop-last-smaller : goal.loop-last-smaller
loop-last-smaller g c = let f = (rounds_small g.V.Visit.opens_by (StandsIn g.V.Visit g.V.Acc.Seen) c.requires.together.0 c.requires.together.1 c.loop-last.ranks.items (g.M.Wire.desk c.loop-last.wire) (omega (arith, c.requires.few, c.loop-last.invariant.len)) (c.loop-last.invariant.kept c.requires.together.0 c.requires.together.1 c.requires.together.2)) in let r = c.in_ok-last.ensures.rounds in omega arith

-- after a round that was not the last one what holds in the loop holds again
pub loop-last-preserved : goal.loop-last-preserved
loop-last-preserved g c =
    let e = (back_in c.one_round.new.ranks c.loop-last.ranks.items c.loop-last.ranks.len (let v : length c.as_mut_slice.result.now ≡ length c.loop-last.ranks.items = ap length c.as_mut_slice.ensures.value in let o = c.loop-last.ranks.ok.0 in let n = c.in_ok-last.ensures.len in omega arith)) in
    record {
      kept = λ v w t. subst (λ us. Running g.V.Visit.opens_by (StandsIn g.V.Visit g.V.Acc.Seen) v w us (g.M.Wire.desk c.one_round.new.wire) 0) (sym e) (ends_more g.V.Visit.opens_by (StandsIn g.V.Visit g.V.Acc.Seen) v w c.one_round.new.ranks (g.M.Wire.desk c.one_round.new.wire) c.in_ok-last.last c.if-last.false (c.in_ok-last.ensures.kept v w (as_slice g.V.Visit.opens_by (StandsIn g.V.Visit g.V.Acc.Seen) v w c.loop-last.ranks.items c.as_mut_slice.result.now (g.M.Wire.desk c.loop-last.wire) c.as_mut_slice.ensures.value (c.loop-last.invariant.kept v w t))));
      quiet = subst (λ us. AllQuiet (seats us)) (sym e) c.in_ok-last.ensures.quiet;
      start = c.in_ok-last.ensures.start;
      free = c.in_ok-last.ensures.free;
      mail = same_on (g.M.Wire.desk c.args.wire.now) (g.M.Wire.desk c.loop-last.wire) (g.M.Wire.desk c.one_round.new.wire) c.loop-last.invariant.mail c.in_ok-last.ensures.mail;
      rounds = (let r = c.in_ok-last.ensures.rounds in let i = c.loop-last.invariant.rounds in omega arith);
      places = ap (λ us. numbers us) e ∙ c.in_ok-last.ensures.places ∙ ap (λ us. numbers us) c.as_mut_slice.ensures.value ∙ c.loop-last.invariant.places;
      len = ap length e ∙ c.in_ok-last.ensures.len ∙ ap length c.as_mut_slice.ensures.value ∙ c.loop-last.invariant.len;
    }

-- where memory is refused, there are as many ranks as before
pub returns-in_err-last-clause-len : goal.returns-in_err-last-clause-len
returns-in_err-last-clause-len g c = ap length (back_in c.one_round.new.ranks c.loop-last.ranks.items c.loop-last.ranks.len (let v : length c.as_mut_slice.result.now ≡ length c.loop-last.ranks.items = ap length c.as_mut_slice.ensures.value in let o = c.loop-last.ranks.ok.0 in let n = c.in_err-last.ensures.len in omega arith)) ∙ c.in_err-last.ensures.len ∙ ap length c.as_mut_slice.ensures.value ∙ c.loop-last.invariant.len

-- after the last round there are as many ranks as before
pub returns-then-last-clause-len : goal.returns-then-last-clause-len
returns-then-last-clause-len g c = ap length (back_in c.one_round.new.ranks c.loop-last.ranks.items c.loop-last.ranks.len (let v : length c.as_mut_slice.result.now ≡ length c.loop-last.ranks.items = ap length c.as_mut_slice.ensures.value in let o = c.loop-last.ranks.ok.0 in let n = c.in_ok-last.ensures.len in omega arith)) ∙ c.in_ok-last.ensures.len ∙ ap length c.as_mut_slice.ensures.value ∙ c.loop-last.invariant.len
