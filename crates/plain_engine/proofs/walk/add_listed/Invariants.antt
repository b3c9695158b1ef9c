use Rattle.std.proofs.Common.{◌≡◌, ◌+◌, take, map}
use Rattle.hot_units.specs.Bodies.{mass_of}
use Rattle.hot_model.specs.Trees.{added, Near}
use Rattle.plain_engine.proofs.walk.add_listed.Given as goal

-- the first bodies of the list were added, and their mass was seen
abbrev pub invariant-loop-o : goal.invariant-loop-o
invariant-loop-o g l = record {
  value : l.acc ≡ added (g.V.Visit.adds l.visit l.b) l.initial.acc (map Near (take l.o-index l.listed));
  seen : g.V.Acc.Seen.seen_of l.acc ≡ g.V.Acc.Seen.seen_of l.initial.acc + mass_of (take l.o-index l.listed);
}
