use Rattle.std.proofs.Common.{◌≤◌, arith, []}
use Rattle.hot_units.specs.Limits.{max_all_mass}
use Rattle.hot_units.specs.Keys.{contains}
use Rattle.hot_units.specs.Bodies.{mass_of, mass_of_body}
use Rattle.hot_units.proofs.Bodies.{sum_filter_le}
use Rattle.defer_walk.proofs.Listings.{good_of}
use Rattle.tree_tests.proofs.cells_double.CellsDouble.record.Goals as goal

pub of_inside-rec-requires-clause-light : goal.of_inside-rec-requires-clause-light
of_inside-rec-requires-clause-light c =
    let xs = c.self.inside.bodies.items in
    let all : mass_of xs ≤ max_all_mass = (good_of (record { bodies = xs; cuts = []; leaf = 0; me = 0 }) c.self.invariant.0).light in
    rw c.deref.ensures.value (omega (arith, all, sum_filter_le mass_of_body (contains c.args.key) xs))
