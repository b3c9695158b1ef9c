use Rattle.std.proofs.Common.{subst, List}
use Rattle.hot_units.specs.Values.{BodyValue}
use Rattle.hot_words.specs.Commands.{job_value}
use Rattle.rank_set.specs.Places.{ArePlaced}
use Rattle.hot.specs.Runs.{gravity_run}
use Rattle.hot.specs.Prepared.{gravity_of}
use Rattle.hot.proofs.Walks.{walk_here, ran, ran_err}
use Rattle.hot.proofs.compute.compute_run.Goals as goal

-- what is reported was found by a walk that left the log of the wire
pub report_if-requires : goal.report_if-requires
report_if-requires g c = record {
  walked =
      let w = c.in_ok-found.ensures.walked in
      walk_here g.M.Wire.desk (gravity_run (job_value c.args.job.now)) c.args.set c.in_ok-ordered.ordered c.args.wire.now c.walk_job.new.wire c.in_ok-ordered.ensures.ordered (gravity_of (job_value c.args.job.now)) c.in_ok-found.found.accs.items c.in_ok-found.found.efforts.items c.in_ok-found.found.opened.items c.in_ok-found.found.rounds c.in_ok-found.found w.0 w.1 w.2 w.3;
}

-- where memory lacks for the forces, the wire was not used, or is left as by a begun run
pub returns-in_err-forces : goal.returns-in_err-forces
returns-in_err-forces g c = record {
  ran =
      let w = c.in_ok-found.ensures.walked in
      ran_err g.M.Wire.desk (gravity_run (job_value c.args.job.now)) c.args.set c.in_ok-ordered.ordered c.args.wire.now c.walk_job.new.wire c.in_ok-ordered.ensures.ordered c.in_ok-found.found c.from_residual-in_err-forces.result _ w.0 c.from_residual-in_err-forces.ensures.0 w.1 w.2;
}

-- bodies, forces and report are those of the run, which came to its end on the wire
pub returns : goal.returns
returns g c = record {
  ran =
      let w = c.in_ok-found.ensures.walked in
      let placed : ArePlaced c.in_ok-ordered.ordered.bodies c.in_ok-found.found.accs.items c.in_ok-forces.forces.items =
      subst (λ (l : List BodyValue). ArePlaced l c.in_ok-found.found.accs.items c.in_ok-forces.forces.items) c.bodies.ensures.value c.in_ok-forces.ensures.placed in
      ran g.M.Wire.desk (job_value c.args.job.now) c.args.set c.in_ok-ordered.ordered c.args.shows c.args.wire.now c.walk_job.new.wire c.in_ok-found.found.accs.items c.in_ok-found.found.efforts.items c.in_ok-found.found.opened.items c.in_ok-found.found.rounds c.in_ok-ordered.ensures.ordered c.in_ok-found.found c.in_ok-forces.forces.items c.in_ok-report.report w.0 c.requires.rows w.1 w.2 w.3 c.in_ok-report.ensures.report placed;
}
