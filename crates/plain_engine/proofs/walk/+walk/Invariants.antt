use Rattle.std.proofs.Common.{◌≡◌, ◌+◌, ◌-◌, take, flat_map, sum_by}
use Rattle.hot_units.specs.Keys.{height, digits, child}
use Rattle.hot_units.specs.Bodies.{mass_of}
use Rattle.hot_model.specs.Trees.{added, terms_in, inside}
use Rattle.plain_engine.proofs.walk.+walk.Given as goal

-- how many levels are below the cell
abbrev pub decreases-walk : goal.decreases-walk
decreases-walk g l = height l.cell

-- the terms of the first d children were added, and their mass was seen
abbrev pub invariant-loop-d : goal.invariant-loop-d
invariant-loop-d g l = record {
  value : l.acc ≡ added (g.V.Visit.adds l.visit l.b) l.initial.acc (flat_map (λ d. terms_in (g.V.Visit.opens_by l.visit l.b) l.leaf l.around (height l.cell - 1) (child l.cell d)) (take l.d digits));
  seen : g.V.Acc.Seen.seen_of l.acc ≡ g.V.Acc.Seen.seen_of l.initial.acc + sum_by (λ d. mass_of (inside l.around (child l.cell d))) (take l.d digits);
}
