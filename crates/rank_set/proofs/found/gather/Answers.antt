use Rattle.std.proofs.Common.{ℕ, suc, ◌≡◌, ◌++◌, ◌∷◌, [], length, Some, slice_get, append_assoc, length-append, refl, ap, sym, ◌∙◌, subst, arith}
use Rattle.rank_core.specs.Standing.{meant_by}
use Rattle.rank_core.specs.Seats.{seat_of, visit_of}
use Rattle.protocol.proofs.Ranks.{seat_at}
use Rattle.rank_set.proofs.Finds.{finds-none, finds-carried, finds-all, here, one-longer, as-long}
use Rattle.rank_set.proofs.Finishes.{finished_at}
use Rattle.rank_set.proofs.found.gather.Goals as goal

-- at first there is what no ranks find
pub loop-rank-init : goal.loop-rank-init
loop-rank-init g c = record {
  all = c.into_iter-rank-iterator.ensures.into_iter_gives.0;
  finds = λ v w t. finds-none _ w _ _ _ c.new.ensures.items c.new-2.ensures.items c.new-3.ensures.items;
  rounds = refl;
}

-- each rank that is added is finished
pub add_rank-requires-clause-finished : goal.add_rank-requires-clause-finished
add_rank-requires-clause-finished g c κs within =
    let at : slice_get c.args.ranks.items (length c.loop-rank.yielded) ≡ Some c.in-Some.rank =
    here c.args.ranks.items c.loop-rank.yielded c.loop-rank.rank-iterator.rest.items c.next.new.self.rest.items c.in-Some.rank c.loop-rank.invariant.all c.in-Some.ensures.steps.0 in
    finished_at g.V.Visit g.V.Acc.Seen c.requires.together.1 c.in-Some.rank (c.requires.together.2.stand (length c.loop-rank.yielded) c.in-Some.rank at)
    (c.requires.finished (length c.loop-rank.yielded) (seat_of c.in-Some.rank) (seat_at c.args.ranks.items (length c.loop-rank.yielded) c.in-Some.rank at))

-- with what the next rank found there is what one rank more finds
pub loop-rank-preserved : goal.loop-rank-preserved
loop-rank-preserved g c =
    let s = c.in-Some.ensures.steps.0 in
    let q = length c.loop-rank.yielded in
    let at : slice_get c.args.ranks.items q ≡ Some c.in-Some.rank =
    here c.args.ranks.items c.loop-rank.yielded c.loop-rank.rank-iterator.rest.items c.next.new.self.rest.items c.in-Some.rank c.loop-rank.invariant.all s in
    record {
      all = append_assoc c.loop-rank.yielded (c.in-Some.rank ∷ []) c.next.new.self.rest.items ∙ ap (λ l. c.loop-rank.yielded ++ l) (sym s) ∙ c.loop-rank.invariant.all;
      finds = λ v w t. finds-carried (λ u. meant_by g.V.Visit g.V.Acc.Seen u) w v (visit_of c.in-Some.rank) q (seat_of c.in-Some.rank).me _ _ _ _ _ _ _
          (t.visit q c.in-Some.rank at) (c.requires.placed q c.in-Some.rank at) (one-longer c.loop-rank.yielded c.in-Some.rank) (c.in_ok-add_rank.ensures.added w (t.stand q c.in-Some.rank at)) (c.loop-rank.invariant.finds v w t);
      rounds = c.in_ok-add_rank.ensures.rounds ∙ c.loop-rank.invariant.rounds;
    }

-- at the end there is what all ranks find
pub returns-clause-finds : goal.returns-clause-finds
returns-clause-finds g c =
    let s = c.in-None.ensures.steps.0 in
    let n = c.loop-rank.rank-iterator.rest.ok.0 in
    λ v w t. finds-all (meant_by g.V.Visit g.V.Acc.Seen v) w (length c.loop-rank.yielded) _ _ _ t.good
    (as-long c.args.ranks.items c.loop-rank.yielded c.loop-rank.rank-iterator.rest.items c.loop-rank.invariant.all (omega arith) ∙ t.ranks) (c.loop-rank.invariant.finds v w t)
