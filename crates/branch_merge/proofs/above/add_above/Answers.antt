use Rattle.std.proofs.Common.{refl, sym, ◌∙◌}
use Rattle.branch_merge.proofs.Upward.{climbs_start, climbs_more, climbs_end, climbs_stop}
use Rattle.branch_merge.proofs.above.add_above.Goals as goal

pub loop-above-init : goal.loop-above-init
loop-above-init c = climbs_start c.args.keys.now.items c.args.cell c.requires.cell

pub loop-above-preserved : goal.loop-above-preserved
loop-above-preserved c =
    climbs_more c.args.keys.now.items c.loop-above.keys.items c.push.new.self.items c.args.cell c.loop-above.below c.in-Some.above c.requires.cell c.loop-above.invariant c.in-Some.ensures.cell c.in-Some.ensures.value c.in-Some.ensures.level c.in_ok-push.ensures.items

pub returns-then-covers : goal.returns-then-covers
returns-then-covers c = record {
  gains = climbs_stop c.args.keys.now.items c.loop-above.keys.items c.args.cell c.loop-above.below c.in-Some.above c.args.before c.loop-above.invariant c.in-Some.ensures.cell c.in-Some.ensures.value c.in-Some.ensures.level c.requires.before c.requires.added c.if-above-before.true (sym c.covers.ensures.value ∙ c.if-covers.true);
}

pub returns : goal.returns
returns c = record {
  gains = climbs_end c.args.keys.now.items c.loop-above.keys.items c.args.cell c.loop-above.below c.loop-above.invariant (c.in_default.ensures.root.0 refl);
}
