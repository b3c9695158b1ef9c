-- Sums over lists of bodies.
use Rattle.std.proofs.Common.{ℕ, ◌≡◌, ◌+◌, ◌*◌, List, [], ◌∷◌, ◌++◌, sum_by, sym, ◌∙◌, arith}
use Rattle.std.proofs.lemmas.List.Sums.{sum_by-cons, sum_by-append}
use Rattle.hot_units.specs.Values.{BodyValue}
use Rattle.hot_units.proofs.Sorts.{sum_map}
use Rattle.hot_model.specs.Trees.{Settings}
use Rattle.hot_model.proofs.Ties.{ap3}
use Rattle.well_walk.specs.Wells.{potential}
use Rattle.well_walk.specs.Totals.{Share, share_of, SumsValue, Mover, speed2, sums_of, sums_with, shares_of, bodies_of, well_sum, speed_sum, total_well, total_speed}

-- a sum over a list and one more
sum-more : {X : Type 0} (f : X → ℕ) (xs : List X) (x : X) → sum_by f (xs ++ x ∷ []) ≡ sum_by f xs + f x
sum-more f xs x = omega (arith, sum_by-append f xs (x ∷ []), sum_by-cons f x [])

-- three sums by their numbers
abbrev sums : ℕ → ℕ → ℕ → SumsValue
sums mass well speed = record { mass = mass; well = well; speed = speed }

-- the sums of a list and one more body
pub sums-grow : (shares : List Share) (s : Share) → sums_of (shares ++ s ∷ []) ≡ sums_with (sums_of shares) s
sums-grow shares s =
    ap3 sums
    (sum-more (λ (a : Share). a.mass) shares s)
    (sum-more (λ (a : Share). a.mass * a.well) shares s)
    (sum-more (λ (a : Share). a.mass * speed2 a.velocity) shares s)

-- the potential sum, by the share of each body
well-total : (s : Settings) (movers : List Mover) → well_sum (shares_of s movers) ≡ total_well s (bodies_of movers)
well-total s movers =
    sum_map (λ (a : Share). a.mass * a.well) (λ (m : Mover). share_of m.body.mass (potential s (bodies_of movers) m.body) m.velocity) movers
    ∙ sym (sum_map (λ (b : BodyValue). b.mass * potential s (bodies_of movers) b) (λ (m : Mover). m.body) movers)

-- the kinetic sum, by the share of each body
speed-total : (s : Settings) (movers : List Mover) → speed_sum (shares_of s movers) ≡ total_speed movers
speed-total s movers = sum_map (λ (a : Share). a.mass * speed2 a.velocity) (λ (m : Mover). share_of m.body.mass (potential s (bodies_of movers) m.body) m.velocity) movers

-- the sums of what counts of each body are the potential sum and the kinetic sum
pub sums-totals : (s : Settings) (movers : List Mover) → (well_sum (shares_of s movers) ≡ total_well s (bodies_of movers)) × (speed_sum (shares_of s movers) ≡ total_speed movers)
sums-totals s movers = (well-total s movers, speed-total s movers)
