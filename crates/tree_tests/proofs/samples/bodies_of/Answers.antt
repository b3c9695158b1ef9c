use Rattle.std.proofs.Common.{[]}
use Rattle.defer_walk.proofs.Listings.{good_of}
use Rattle.tree_tests.proofs.samples.bodies_of.Goals as goal

pub returns : goal.returns
returns g c =
    let listing = c.loop-row.invariant.listing in
    let good = good_of (record { bodies = c.loop-row.bodies.items; cuts = []; leaf = 0; me = 0 }) listing in
    record { listing = listing; rows = good.rows_differ; light = good.light }
