-- The laws of depths.
use Rattle.std.specs.Prelude.{◌≡◌, ◌≤◌, ◌*◌, ◌^◌, List, ◌++◌, [], ◌∷◌}
use Rattle.hot_units.specs.Values.{BodyValue}
use Rattle.hot_units.specs.Bodies.{mass_of}
use Rattle.hot_model.specs.Trees.{Settings, fold_of, opens_of}
use Rattle.well_walk.specs.Wells.{well_adds, well_nothing, well_value, potential}
use Rattle.well_walk.specs.Totals.{Share, Mover, sums_of, sums_with, shares_of, bodies_of, well_sum, speed_sum, total_well, total_speed}

-- all terms of a body, added up, are the potential of the recursive walk, and the mass of all bodies was seen
abbrev pub PotentialByTerms : Type 0
PotentialByTerms =
    (s : Settings) (bodies : List BodyValue) (b : BodyValue)
    → fold_of (well_adds s.eps b) well_nothing (opens_of s b) s.leaf bodies ≡ well_value (mass_of bodies) (potential s bodies b)

-- softened, no body lies deeper than 2^40 times all mass
abbrev pub PotentialIsBounded : Type 0
PotentialIsBounded =
    (s : Settings) (bodies : List BodyValue) (b : BodyValue)
    → 1 ≤ s.eps
    → potential s bodies b ≤ mass_of bodies * 2 ^ 40

-- the sums of a list grow by one more body as sums do
abbrev pub SumsGrow : Type 0
SumsGrow = (shares : List Share) (s : Share) → sums_of (shares ++ s ∷ []) ≡ sums_with (sums_of shares) s

-- the sums of what counts of each body among all are the potential sum and the kinetic sum
abbrev pub SumsAreTotals : Type 0
SumsAreTotals =
    (s : Settings) (movers : List Mover)
    → (well_sum (shares_of s movers) ≡ total_well s (bodies_of movers))
    × (speed_sum (shares_of s movers) ≡ total_speed movers)
