use Rattle.std.proofs.Common.{ap, ◌∙◌, arith}
use Rattle.body_set.specs.Sets.{SetValue}
use Rattle.body_maker.specs.Generator.{place_from}
use Rattle.body_maker.proofs.Making.{made-none, made-more, made-long, state-none, state-more}
use Rattle.body_maker.proofs.sample.sample_bodies.Goals as goal

-- at first the set is that of no bodies, and the state is the seed
pub loop-k-init : goal.loop-k-init
loop-k-init c = record { set = made-none _ c.args.seed c.new-set.ensures.empty; state = state-none c.args.seed }

-- the set has as many bodies as were made
pub add-requires-clause-next : goal.add-requires-clause-next
add-requires-clause-next c = made-long c.loop-k.set c.args.seed c.loop-k.k c.loop-k.invariant.set

-- the set has the cube of generated bodies
pub add-requires-clause-cube : goal.add-requires-clause-cube
add-requires-clause-cube c = ap (λ (s : SetValue). s.cube) c.loop-k.invariant.set

-- with the next body the set is that of one more, and the state is past its draws
pub loop-k-preserved : goal.loop-k-preserved
loop-k-preserved c = record {
  set = made-more c.loop-k.set _ c.args.seed c.loop-k.k _ c.draw_place-next.result.0 c.loop-k.invariant.set (c.draw_place-next.ensures.place ∙ ap place_from c.loop-k.invariant.state) c.in_ok-add.ensures.added (omega arith);
  state = state-more c.args.seed c.loop-k.k _ c.loop-k.state c.draw_place-next.result.1 c.loop-k.invariant.state c.draw_place-next.ensures.state (omega arith);
}
