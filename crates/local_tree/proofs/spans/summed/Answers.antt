use Rattle.std.proofs.Common.{◌∙◌}
use Rattle.std.specs.Prelude.{slice_range}
use Rattle.local_tree.proofs.Edges.{span-inside}
use Rattle.local_tree.proofs.Records.{range-light, range-record}
use Rattle.local_tree.proofs.spans.summed.Goals as goal

pub of_inside-requires-clause-light : goal.of_inside-requires-clause-light
of_inside-requires-clause-light c =
    let xs = c.args.bodies.now in
    let s = c.args.span in
    range-light xs (slice_range xs s.from s.to) s.key c.requires.span.cell (span-inside xs s c.requires.order c.requires.span) c.requires.light

pub returns : goal.returns
returns c =
    let xs = c.args.bodies.now in
    let s = c.args.span in
    record { value = c.of_inside.ensures.value ∙ range-record xs (slice_range xs s.from s.to) s.key c.requires.span.cell (span-inside xs s c.requires.order c.requires.span) }
