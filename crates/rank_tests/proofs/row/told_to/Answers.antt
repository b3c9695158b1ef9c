use Rattle.std.proofs.Common.{◌∙◌, ap}
use Rattle.rank_tests.specs.Worlds.{three}
use Rattle.rank_core.specs.Seat.{Seat}
use Rattle.rank_tests.proofs.row.told_to.Goals as goal

pub advance-requires-clause-fits : goal.advance-requires-clause-fits
advance-requires-clause-fits g c κs within = (three, c.rank_of_64-rank.ensures.stands)

pub loop-init : goal.loop-init
loop-init g c = record {
  stands = c.advance.ensures.kept three c.rank_of_64-rank.ensures.stands;
  me = (c.advance.ensures.moves three c.rank_of_64-rank.ensures.stands).me ∙ c.rank_of_64-rank.ensures.new.me;
}

pub loop-preserved : goal.loop-preserved
loop-preserved g c = record {
  stands = c.pop-letter.ensures.popped.kept three c.loop.invariant.stands;
  me = ap (λ (s : Seat). s.me) c.pop-letter.ensures.popped.out.1 ∙ c.loop.invariant.me;
}

pub returns : goal.returns
returns g c =
    let x = c.next.ensures.truth three c.loop.invariant.stands in
    record {
      told = record {
        truth = x.0;
        from_is = x.1 ∙ c.loop.invariant.me;
        to_is = c.next.ensures.receiver;
        kind = c.next.ensures.kind;
      };
    }
