use Rattle.std.proofs.Common.{slice_index_or, refl}
use Rattle.protocol.proofs.Places.{get_at}
use Rattle.round_runner.proofs.rounds.pop_from.Goals as goal

-- the oldest letter of the outbox of rank q is out
pub returns : goal.returns
returns g c = record {
  popped = (
    slice_index_or c.args.ranks.now c.args.q c.index-ranks-q.result,
    c.outbox.new.self,
    get_at c.args.ranks.now c.args.q c.index-ranks-q.result c.requires.within,
    refl,
    c.outbox.ensures.popped,
  );
}
