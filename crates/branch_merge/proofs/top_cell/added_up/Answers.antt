use Rattle.branch_merge.proofs.Adding.{adds_below, adds_few, adds_light, sums_more}
use Rattle.branch_merge.proofs.top_cell.added_up.Goals as goal

pub add-requires-clause-few : goal.add-requires-clause-few
add-requires-clause-few c = adds_few c.args.cell c.args.own.now c.loop-x.x-index c.x-item.result c.loop-x.rec c.requires.light c.loop-x-test.true c.x-item.is c.loop-x.invariant

pub add-requires-clause-light : goal.add-requires-clause-light
add-requires-clause-light c = adds_light c.args.cell c.args.own.now c.loop-x.x-index c.x-item.result c.loop-x.rec c.requires.light c.loop-x-test.true c.x-item.is c.loop-x.invariant

pub loop-x-preserved : goal.loop-x-preserved
loop-x-preserved c = sums_more c.args.cell c.args.own.now c.loop-x.x-index c.x-item.result c.loop-x.rec c.add.new.to c.loop-x-test.true c.x-item.is c.loop-x.invariant c.add.ensures.value

pub add-requires-clause-contained : goal.add-requires-clause-contained
add-requires-clause-contained c = adds_below c.args.cell c.args.own.now c.loop-x.x-index c.x-item.result c.loop-x.rec c.requires.below c.loop-x-test.true c.x-item.is c.loop-x.invariant
