-- The bound of a potential.
use Rattle.std.proofs.Common.{ℕ, ◌*◌, ◌^◌, ◌≤◌, Bool, true, false, cond, List, [], ◌∷◌, sum_by, arith}
use Rattle.std.proofs.lemmas.List.Sums.{sum_by-cons}
use Rattle.hot_units.specs.Values.{BodyValue, place}
use Rattle.hot_units.specs.Bodies.{mass_of}
use Rattle.hot_model.specs.Kernel.{centre}
use Rattle.hot_model.specs.Trees.{Term, Far, Near, mass_of_term, terms, Settings, opens_of}
use Rattle.hot_model.proofs.Ties.{mass-all_terms}
use Rattle.well_walk.specs.Wells.{term_depth, depth_near, is_other, potential}
use Rattle.well_walk.proofs.Quotients.{depth-small}
use Rattle.well_walk.proofs.Folds.{depth-all_terms}

-- the depth by a term is at most its mass times 2^40
pub term-small : (eps : ℕ) (b : BodyValue) (t : Term) → 1 ≤ eps → term_depth eps b t ≤ mass_of_term t * 2 ^ 40
unfolding term_depth
term-small eps b (Far c) h = depth-small eps (place b) (centre c) c.mass h
term-small eps b (Near o) h = elim (is_other b o) as (λ (t : Bool). cond t (depth_near eps b o) 0 ≤ o.mass * 2 ^ 40) [
  | true ↦ depth-small eps (place b) (place o) o.mass h
  | false ↦ omega arith
]

-- the depths by some terms are at most their mass times 2^40
terms-small : (eps : ℕ) (b : BodyValue) (ts : List Term) → 1 ≤ eps → sum_by (term_depth eps b) ts ≤ sum_by mass_of_term ts * 2 ^ 40
terms-small eps b [] h = omega arith
terms-small eps b (t ∷ ts) h =
    omega (arith, sum_by-cons (term_depth eps b) t ts, sum_by-cons mass_of_term t ts, term-small eps b t h, terms-small eps b ts h)

-- a potential is at most the mass of all bodies times 2^40
pub potential-small : (s : Settings) (bodies : List BodyValue) (b : BodyValue) → 1 ≤ s.eps → potential s bodies b ≤ mass_of bodies * 2 ^ 40
potential-small s bodies b h =
    let ts = terms (opens_of s b) s.leaf bodies in
    omega (arith, depth-all_terms s bodies b, mass-all_terms (opens_of s b) s.leaf bodies, terms-small s.eps b ts h)
