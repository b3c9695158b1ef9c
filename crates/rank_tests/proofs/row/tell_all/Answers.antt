use Rattle.std.proofs.Common.{ℕ, sym, subst}
use Rattle.rank_tests.specs.Worlds.{HasBegun, three}
use Rattle.rank_core.specs.Seats.{seat_of}
use Rattle.rank_tests.proofs.Rows.{begun_step}
use Rattle.rank_tests.proofs.row.tell_all.Goals as goal

pub advance-requires-clause-fits : goal.advance-requires-clause-fits
advance-requires-clause-fits g c κs within = (three, c.requires.stands)

pub loop-to-init : goal.loop-to-init
loop-to-init g c = record {
  stands = c.advance.ensures.kept three c.requires.stands;
  begun =
      subst (λ (q : ℕ). HasBegun q (seat_of c.advance.new.rank)) (sym c.me-me.ensures.value)
      (begun_step _ three _ 64 (seat_of c.args.rank.now) (seat_of c.advance.new.rank) c.requires.new (c.advance.ensures.moves three c.requires.stands));
}

pub returns-clause-stands : goal.returns-clause-stands
returns-clause-stands g c = c.quiet.ensures.kept three c.loop-to.invariant.stands
