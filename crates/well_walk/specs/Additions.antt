-- The laws of adding depths, which the visit gives: they name no tactic, since the visit cites them.
use Rattle.std.specs.Prelude.{ℕ, ◌+◌, ◌≡◌}
use Rattle.std.proofs.Common.{refl, sym, ap, ◌∙◌, add_assoc, add_comm}
use Rattle.hot_units.specs.Values.{BodyValue}
use Rattle.hot_model.specs.Trees.{Term, mass_of_term}
use Rattle.hot_model.proofs.Ties.{ap2}
use Rattle.well_walk.specs.Wells.{WellValue, well_value, well_adds, term_depth}

-- each term adds its mass to what was seen
pub well_sees : (eps : ℕ) (b : BodyValue) (a : WellValue) (t : Term) → (well_adds eps b a t).seen ≡ a.seen + mass_of_term t
well_sees eps b a t = refl

-- the last two of three numbers may change places
turned : (a b c : ℕ) → (a + b) + c ≡ (a + c) + b
turned a b c = add_assoc a b c ∙ ap (λ (n : ℕ). a + n) (add_comm b c) ∙ sym (add_assoc a c b)

-- two terms may change places
pub well_swaps : (eps : ℕ) (b : BodyValue) (a : WellValue) (s t : Term) → well_adds eps b (well_adds eps b a s) t ≡ well_adds eps b (well_adds eps b a t) s
well_swaps eps b a s t =
    ap2 well_value
    (turned a.seen (mass_of_term s) (mass_of_term t))
    (turned a.well (term_depth eps b s) (term_depth eps b t))
