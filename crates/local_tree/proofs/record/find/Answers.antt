use Rattle.std.proofs.Common.{◌≡◌, ◌+◌, ◌-◌, ◌/◌, ◌<◌, length, sym, ap, ◌∙◌, arith}
use Rattle.local_tree.proofs.Falling.{key_in, more-upto, less-from, none-here}
use Rattle.local_tree.proofs.record.find.Goals as goal

pub loop-low-preserved-then-rec-key : goal.loop-low-preserved-then-rec-key
loop-low-preserved-then-rec-key c =
    let middle = c.loop-low.low + (c.loop-low.high - c.loop-low.low) / 2 in
    let r = c.index-recs-middle.result in
    let key : key_in r ≡ c.rec.inside.key = sym (ap key_in c.rec.view_is) in
    let within : middle < length c.args.recs.now = omega arith in
    record {
      under = more-upto c.args.recs.now c.args.key middle r c.requires.order within c.index-recs-middle.is (omega (arith, key, c.if-rec-key.true));
      over = c.loop-low.invariant.over;
      ends = omega arith;
      within = c.loop-low.invariant.within;
    }

pub loop-low-preserved : goal.loop-low-preserved
loop-low-preserved c =
    let middle = c.loop-low.low + (c.loop-low.high - c.loop-low.low) / 2 in
    let r = c.index-recs-middle.result in
    let key : key_in r ≡ c.rec.inside.key = sym (ap key_in c.rec.view_is) in
    let within : middle < length c.args.recs.now = omega arith in
    record {
      under = c.loop-low.invariant.under;
      over = less-from c.args.recs.now c.args.key middle r c.requires.order within c.index-recs-middle.is (omega (arith, key, c.if-rec-key.false));
      ends = omega arith;
      within = omega arith;
    }

pub returns-else-rec-key-2 : goal.returns-else-rec-key-2
returns-else-rec-key-2 c =
    let r = c.index-recs-low.result in
    let key : key_in r ≡ c.rec-2.inside.key = sym (ap key_in c.rec-2.view_is) in
    let within : c.loop-low.low < length c.args.recs.now = omega (arith, c.if-low-recs.false) in
    record {
      found = none-here c.args.recs.now c.args.key c.loop-low.low r c.requires.order c.loop-low.invariant.under (λ k d h. c.loop-low.invariant.over k d (omega (arith, h))) within c.index-recs-low.is (λ e. c.if-rec-key-2.false (sym key ∙ e));
    }
