use Rattle.std.proofs.Common.{◌≡◌, refl, inl, inr, ap, sym, ◌∙◌}
use Rattle.protocol.proofs.Bounds.{few_letters}
use Rattle.rank_set.specs.Sharings.{shared}
use Rattle.rank_walk.specs.Marks.{HasBegun, HasRun}
use Rattle.rank_walk.proofs.Leavings.{mail-begun, eager-begun, eager-then, leaves-err, leaves-run, answer-then}
use Rattle.rank_walk.proofs.walk.walk_over_ranks.Goals as goal

-- where memory lacks in the run, the wire is as it was, or its log is legal
pub returns-in_err-rounds-clause-left : goal.returns-in_err-rounds-clause-left
returns-in_err-rounds-clause-left g c =
    let w = shared c.args.set.now c.args.sharing in
    leaves-err g.M.Wire.desk (g.V.Visit.opens_by c.args.visit) w c.args.sharing.mail c.args.wire.now c.run.new.wire c.from_residual-in_err-rounds.result c.from_residual-in_err-rounds.ensures.0
    (inr (record { mail_is = mail-begun (g.M.Wire.desk c.args.wire.now) _ (g.M.Wire.desk c.run.new.wire) c.args.sharing.mail c.begin.ensures.fresh c.run.ensures.mail; legal = c.run.ensures.legal c.args.visit w c.in_ok-ranks.ensures.together }))

-- after the run there are a visit and a world for which the ranks stand together
pub gather-requires-clause-together : goal.gather-requires-clause-together
gather-requires-clause-together g c κs within =
    let w = shared c.args.set.now c.args.sharing in
    (c.args.visit, w, c.in_ok-rounds.ensures.stand c.args.visit w c.in_ok-ranks.ensures.together)

-- what was gathered is what all ranks find in the world of the set
pub returns-clause-finds : goal.returns-clause-finds
returns-clause-finds g c =
    let w = shared c.args.set.now c.args.sharing in
    answer-then _ _ c.gather.result (λ f h. h c.args.visit w (c.in_ok-rounds.ensures.stand c.args.visit w c.in_ok-ranks.ensures.together)) c.gather.ensures.finds

-- the wire is as after a whole run, or, where memory lacks, as it was or with a legal log
pub returns-clause-left : goal.returns-clause-left
returns-clause-left g c =
    let w = shared c.args.set.now c.args.sharing in
    let t = c.in_ok-ranks.ensures.together in
    let run = c.in_ok-rounds.ensures in
    leaves-run g.M.Wire.desk (g.V.Visit.opens_by c.args.visit) w c.args.sharing.mail c.args.wire.now c.run.new.wire c.gather.result
    (record {
      begun = record { mail_is = mail-begun (g.M.Wire.desk c.args.wire.now) _ (g.M.Wire.desk c.run.new.wire) c.args.sharing.mail c.begin.ensures.fresh c.run.ensures.mail; legal = c.run.ensures.legal c.args.visit w t };
      quiet = run.quiet;
      complete = run.complete c.args.visit w t;
      letters = few_letters (g.V.Visit.opens_by c.args.visit) w (g.M.Wire.desk c.run.new.wire).log (c.run.ensures.legal c.args.visit w t);
      bound = run.bound c.args.visit w t;
      prompt = λ h. run.prompt (eager-then (g.M.Wire.desk c.args.wire.now) _ (g.M.Wire.desk c.run.new.wire) c.args.sharing.mail c.begin.ensures.fresh c.run.ensures.mail h);
      few = run.few;
    })
