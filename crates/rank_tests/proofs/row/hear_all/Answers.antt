use Rattle.std.proofs.Common.{subst, sym, ℕ}
use Rattle.rank_tests.specs.Worlds.{HasBegun}
use Rattle.rank_core.specs.Seats.{seat_of}
use Rattle.rank_tests.proofs.Rows.{begun_heard, begun_ready}
use Rattle.rank_tests.proofs.row.hear_all.Goals as goal

pub loop-q-init : goal.loop-q-init
loop-q-init g c =
    let begun = subst (λ (q : ℕ). HasBegun q (seat_of c.args.rank.now)) (sym c.me-me.ensures.value) c.requires.begun in
    record {
      stands = c.requires.stands;
      ready = begun_ready _ (seat_of c.args.rank.now) begun c.requires.empty;
      heard = begun_heard _ (seat_of c.args.rank.now) begun;
    }
