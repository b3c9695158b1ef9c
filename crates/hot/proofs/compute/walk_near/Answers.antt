use Rattle.std.proofs.Common.{refl, ap}
use Rattle.rank_set.specs.Sharings.{shared}
use Rattle.hot_words.specs.Commands.{job_value}
use Rattle.hot.specs.Runs.{near_run}
use Rattle.hot.specs.Prepared.{near_of}
use Rattle.hot.proofs.Neighbours.{meaning_near}
use Rattle.hot.proofs.Walks.{walked, world_is}
use Rattle.hot.proofs.compute.walk_near.Goals as goal

-- what the walk over ranks finds and leaves is what the run's walk finds and leaves
pub returns : goal.returns
returns g c = record {
  walked = walked g.M.Wire.desk (λ f. f.accs.items) (λ f. f.efforts.items) (λ f. f.opened.items) (λ f. f.rounds) (near_of c.args.radius) (near_run c.args.radius (job_value c.args.job.now)) c.args.ordered.now (meaning_near c.near_visit-visit.result) (shared c.args.ordered.now c.sharing_of.result) c.sharing_of.result.mail c.args.wire.now c.walk_over_ranks.new.wire
      refl (ap meaning_near c.near_visit-visit.ensures.value) (world_is (near_run c.args.radius (job_value c.args.job.now)) c.args.ordered.now c.sharing_of.result c.sharing_of.ensures.ranks c.sharing_of.ensures.leaf) c.sharing_of.ensures.mail c.walk_over_ranks.ensures.eager
      c.walk_over_ranks.result c.walk_over_ranks.ensures.finds c.walk_over_ranks.ensures.rounds c.walk_over_ranks.ensures.left;
}
