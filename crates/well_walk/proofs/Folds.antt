-- What the terms of a walk add up to: the potential.
use Rattle.std.proofs.Common.{ℕ, zero, suc, ◌≡◌, ◌+◌, true, leb, List, [], ◌∷◌, length, map, flat_map, sum_by, sym, refl, ◌∙◌, arith}
use Rattle.std.proofs.lemmas.List.Sums.{sum_by-cons}
use Rattle.hot_units.specs.Values.{BodyValue}
use Rattle.hot_units.specs.Keys.{digits, child}
use Rattle.hot_units.specs.Bodies.{mass_of}
use Rattle.hot_units.proofs.Sorts.{sum_same, sum_flat, sum_map, sum_filter}
use Rattle.hot_model.specs.Trees.{inside, cell_record, is_empty, Term, Far, Near, mass_of_term, listed, terms_in, terms, added, fold_of, Settings, opens_of}
use Rattle.hot_model.proofs.Ties.{both_cells, mass-all_terms, ap2}
use Rattle.well_walk.specs.Wells.{WellValue, well_value, well_nothing, well_adds, term_depth, depth_far, depth_near, depth_listed, is_other, potential_in, potential}

-- the terms of a leaf are the depths by its other bodies
depth-listed : (eps : ℕ) (b : BodyValue) (xs : List BodyValue) → sum_by (term_depth eps b) (map Near xs) ≡ depth_listed eps b xs
unfolding term_depth
depth-listed eps b xs = sum_map (term_depth eps b) Near xs ∙ sym (sum_filter (depth_near eps b) (is_other b) xs)

-- the terms of a cell are the potential by it
depth-terms : (s : Settings) (bodies : List BodyValue) (b : BodyValue) (deep c : ℕ) → sum_by (term_depth s.eps b) (terms_in (opens_of s b) s.leaf bodies deep c) ≡ potential_in s bodies b deep c
unfolding terms_in potential_in term_depth
depth-terms s bodies b zero c =
    both_cells (λ ts. sum_by (term_depth s.eps b) ts) (is_empty (inside bodies c)) (opens_of s b (cell_record bodies c)) true
    [] (Far (cell_record bodies c) ∷ []) (listed bodies c) []
    0 (depth_far s.eps b (cell_record bodies c)) (depth_listed s.eps b (inside bodies c)) 0
    refl
    (omega (arith, sum_by-cons (term_depth s.eps b) (Far (cell_record bodies c)) []))
    (depth-listed s.eps b (inside bodies c))
    refl
depth-terms s bodies b (suc deep) c =
    both_cells (λ ts. sum_by (term_depth s.eps b) ts) (is_empty (inside bodies c)) (opens_of s b (cell_record bodies c)) (leb (length (inside bodies c)) s.leaf)
    [] (Far (cell_record bodies c) ∷ []) (listed bodies c) (flat_map (λ d. terms_in (opens_of s b) s.leaf bodies deep (child c d)) digits)
    0 (depth_far s.eps b (cell_record bodies c)) (depth_listed s.eps b (inside bodies c)) (sum_by (λ d. potential_in s bodies b deep (child c d)) digits)
    refl
    (omega (arith, sum_by-cons (term_depth s.eps b) (Far (cell_record bodies c)) []))
    (depth-listed s.eps b (inside bodies c))
    (sum_flat (term_depth s.eps b) (λ d. terms_in (opens_of s b) s.leaf bodies deep (child c d)) digits
    ∙ sum_same _ _ digits (λ d _. depth-terms s bodies b deep (child c d)))

-- the terms added one by one are the sums of their masses and depths
pub added-sums : (eps : ℕ) (b : BodyValue) (a : WellValue) (ts : List Term) → added (well_adds eps b) a ts ≡ well_value (a.seen + sum_by mass_of_term ts) (a.well + sum_by (term_depth eps b) ts)
added-sums eps b a [] = ap2 well_value (omega arith) (omega arith)
added-sums eps b a (t ∷ ts) =
    added-sums eps b (well_adds eps b a t) ts
    ∙ ap2 well_value (omega (arith, sum_by-cons mass_of_term t ts)) (omega (arith, sum_by-cons (term_depth eps b) t ts))

-- all terms of a body are its potential
pub depth-all_terms : (s : Settings) (bodies : List BodyValue) (b : BodyValue) → sum_by (term_depth s.eps b) (terms (opens_of s b) s.leaf bodies) ≡ potential s bodies b
depth-all_terms s bodies b = depth-terms s bodies b 21 1

-- the fold of the visit is the potential
pub fold-is-potential : (s : Settings) (bodies : List BodyValue) (b : BodyValue) → fold_of (well_adds s.eps b) well_nothing (opens_of s b) s.leaf bodies ≡ well_value (mass_of bodies) (potential s bodies b)
fold-is-potential s bodies b =
    added-sums s.eps b well_nothing (terms (opens_of s b) s.leaf bodies)
    ∙ ap2 well_value (omega (arith, mass-all_terms (opens_of s b) s.leaf bodies)) (omega (arith, depth-all_terms s bodies b))
