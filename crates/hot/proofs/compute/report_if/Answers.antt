use Rattle.std.proofs.Common.{◌≡◌, true, rules}
use Rattle.rank_set.specs.Sharings.{shared}
use Rattle.hot_words.specs.Commands.{job_value}
use Rattle.hot.specs.Runs.{gravity_run}
use Rattle.hot.specs.Prepared.{gravity_of}
use Rattle.hot.proofs.Walks.{reported, finds_at, world_is}
use Rattle.hot.proofs.compute.report_if.Goals as goal

-- what is reported was found in the world of the sharing
pub of-requires : goal.of-requires
of-requires g c = record {
  found = (
    gravity_of (job_value c.args.job.now),
    finds_at (gravity_of (job_value c.args.job.now)) (gravity_run (job_value c.args.job.now)) c.args.ordered.now (g.M.Wire.desk c.args.wire.now).log _ _ _ _ (shared c.args.ordered.now c.sharing_of.result)
        (world_is (gravity_run (job_value c.args.job.now)) c.args.ordered.now c.sharing_of.result c.sharing_of.ensures.ranks c.sharing_of.ensures.leaf) c.requires.walked,
  );
}

-- a report that is asked for is that of the run, by the log of the wire
pub returns : goal.returns
returns g c = record {
  report =
      let job = job_value c.args.job.now in
      let log = (g.M.Wire.desk c.args.wire.now).log in
      let shows : c.args.shows ≡ true = search rules in
      let run = gravity_run job in
      let world = world_is run c.args.ordered.now c.sharing_of.result c.sharing_of.ensures.ranks c.sharing_of.ensures.leaf in
      reported c.args.shows run c.args.ordered.now log (shared c.args.ordered.now c.sharing_of.result) c.in_ok-report.report shows world
      (c.in_ok-report.ensures.value (gravity_of job) log (finds_at (gravity_of job) run c.args.ordered.now log _ _ _ _ _ world c.requires.walked) c.letters.ensures.count c.requires.walked.rounds_are);
}
