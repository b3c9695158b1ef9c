use Rattle.std.proofs.Common.{◌≡◌, ◌∷◌, [], length, ap, arith, length-append}
use Rattle.rank_core.specs.Standing.{StandsIn}
use Rattle.rank_set.specs.Sharings.{shared}
use Rattle.rank_set.proofs.Making.{made-none, made-more, made-new, made-together}
use Rattle.rank_set.proofs.make.make_ranks.Goals as goal

-- at first no rank is made
pub loop-q-init : goal.loop-q-init
loop-q-init g c = record {
  long = ap length c.in_ok-ranks.ensures.items;
  made = made-none _ _ _ _ c.in_ok-ranks.ensures.items;
  good = λ h. absurd (omega (arith, h));
}

-- with the next rank one rank more is made
pub loop-q-preserved : goal.loop-q-preserved
loop-q-preserved g c = record {
  long = (let e = ap length c.in_ok-push.ensures.items in let n = length-append c.loop-q.ranks.items (c.in_ok-make_rank.field-0 ∷ []) in let l = c.loop-q.invariant.long in omega arith);
  made = made-more _ c.args.visit (shared c.args.set.now c.args.sharing) c.loop-q.ranks.items _ c.loop-q.q c.in_ok-make_rank.field-0 c.loop-q.invariant.made c.loop-q.invariant.long c.in_ok-push.ensures.items c.in_ok-make_rank.ensures.made;
  good = λ h. c.in_ok-make_rank.ensures.good;
}

-- all ranks that were made have done nothing yet
pub returns-clause-new : goal.returns-clause-new
returns-clause-new g c =
    let l = c.loop-q.invariant.long in
    made-new _ c.args.visit (shared c.args.set.now c.args.sharing) c.loop-q.ranks.items (omega arith) c.loop-q.invariant.made

-- all ranks that were made stand together for the world of the set
pub returns-clause-together : goal.returns-clause-together
returns-clause-together g c =
    let l = c.loop-q.invariant.long in
    let one = c.args.sharing.one in
    made-together _ c.args.visit (shared c.args.set.now c.args.sharing) c.loop-q.ranks.items (c.loop-q.invariant.good (omega arith)) (omega arith) c.loop-q.invariant.made
