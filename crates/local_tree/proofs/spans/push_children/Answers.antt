use Rattle.std.proofs.Common.{refl, rules}
use Rattle.local_tree.proofs.Edges.{first-edge, child-lower, child-upper, child-end, child-span}
use Rattle.local_tree.proofs.spans.push_children.Goals as goal

pub loop-digit-init : goal.loop-digit-init
loop-digit-init c = record { from = first-edge c.args.bodies.now c.args.span c.requires.span (c.is_parted.ensures.upper (search rules)); spans = c.requires.spans }

pub count_within-to-requires-clause-lower : goal.count_within-to-requires-clause-lower
count_within-to-requires-clause-lower c =
    child-lower c.args.bodies.now c.args.span.key c.loop-digit.digit c.child_of-key.result c.last_key.result c.loop-digit.from c.requires.span.cell (c.is_parted.ensures.upper (search rules)) c.loop-digit-test.true
    c.child_of-key.ensures.value c.last_key.ensures.value c.loop-digit.invariant.from

pub count_within-to-requires-clause-upper : goal.count_within-to-requires-clause-upper
count_within-to-requires-clause-upper c =
    child-upper c.args.bodies.now c.args.span c.loop-digit.digit c.child_of-key.result c.last_key.result c.requires.span (c.is_parted.ensures.upper (search rules)) c.loop-digit-test.true c.child_of-key.ensures.value c.last_key.ensures.value

pub loop-digit-preserved : goal.loop-digit-preserved
loop-digit-preserved c =
    let xs = c.args.bodies.now in
    let key = c.child_of-key.result in
    let last = c.last_key.result in
    let from = c.loop-digit.from in
    let to = c.count_within-to.result in
    record {
      from = child-end xs c.args.span.key c.loop-digit.digit key last to c.requires.span.cell (c.is_parted.ensures.upper (search rules)) c.loop-digit-test.true c.child_of-key.ensures.value c.last_key.ensures.value c.count_within-to.ensures.value;
      spans = c.in_ok-push_some.ensures.spans xs c.loop-digit.invariant.spans
          (λ some. child-span xs c.args.span.key c.loop-digit.digit key last from to (record { key = key; from = from; to = to })
          c.requires.span.cell (c.is_parted.ensures.upper (search rules)) c.loop-digit-test.true c.child_of-key.ensures.value c.child_of-key.ensures.cell c.last_key.ensures.value c.loop-digit.invariant.from c.count_within-to.ensures.value some refl refl refl);
    }
