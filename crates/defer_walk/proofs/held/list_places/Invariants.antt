use Rattle.std.proofs.Common.{◌≡◌, ◌++◌}
use Rattle.defer_walk.specs.Grouping.{places_to}
use Rattle.defer_walk.proofs.held.list_places.Given as goal

abbrev pub invariant-loop-body : goal.invariant-loop-body
invariant-loop-body l = places_to l.from ++ l.places.items ≡ places_to l.body
