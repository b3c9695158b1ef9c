use Rattle.std.specs.Prelude.{◌≡◌}
use Rattle.hot_units.specs.Bodies.{mass_of}
use Rattle.defer_walk.specs.Listing.{IsListing}
use Rattle.tree_tests.proofs.samples.bodies_of.Given as goal

-- the bodies so far are listed, and this is their mass
abbrev pub invariant-loop-row : goal.invariant-loop-row
invariant-loop-row g l = record {
  listing : IsListing l.bodies.items;
  mass : l.mass ≡ mass_of l.bodies.items;
}
