use Rattle.branch_merge.specs.Listing.{all_listed}
use Rattle.branch_merge.proofs.Moving.{apart_moved, light_moved, same_records}
use Rattle.branch_merge.proofs.top.Top.merge.Goals as goal

pub top_cells-requires-clause-apart : goal.top_cells-requires-clause-apart
top_cells-requires-clause-apart c =
    let all = all_listed c.args.lists.now in
    let seen = c.deref.result.now in
    apart_moved all seen (same_records all c.in_ok-gathered.field-0.items c.in_morton_order-listed.result.items seen c.in_ok-gathered.ensures.value c.in_morton_order-listed.ensures.same c.deref.ensures.value) c.requires.lists.apart

pub top_cells-requires-clause-light : goal.top_cells-requires-clause-light
top_cells-requires-clause-light c =
    let all = all_listed c.args.lists.now in
    let seen = c.deref.result.now in
    light_moved c.args.lists.now seen c.requires.lists (same_records all c.in_ok-gathered.field-0.items c.in_morton_order-listed.result.items seen c.in_ok-gathered.ensures.value c.in_morton_order-listed.ensures.same c.deref.ensures.value)
