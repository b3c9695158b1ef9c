use Rattle.near_walk.proofs.Picks.{around-all, around-one}
use Rattle.near_walk.proofs.acc.pick.Goals as goal

pub loop-low-init : goal.loop-low-init
loop-low-init c = around-all c.args.rows.now c.args.i (λ j. (c.type_inv.rows j).fits) c.requires.within

pub returns : goal.returns
returns c = record {
  value = around-one c.args.rows.now c.args.i c.loop-low.low c.loop-low.high c.loop-low.invariant c.loop-low-test.false;
}
