-- The laws of adding pulls, which the visit of gravity gives: they name no tactic, since the visit cites them.
use Rattle.std.specs.Prelude.{ℕ, Bool, ◌+◌, ◌≡◌, ℤ, ◌+ℤ◌}
use Rattle.std.proofs.Common.{refl, sym, ap, ◌∙◌, add_assoc, add_comm}
use lib.IntN.{+ℤ_assoc, +ℤ_comm}
use Rattle.hot_units.specs.Values.{BodyValue, Acc3Value}
use Rattle.hot_model.specs.Trees.{Term, mass_of_term}
use Rattle.hot_model.specs.Forces.{gravity_adds, term_pull}
use Rattle.hot_model.proofs.Ties.{ap4}

-- each term adds its mass to what was seen
pub gravity_sees : (second : Bool) (eps : ℕ) (b : BodyValue) (a : Acc3Value) (t : Term) → (gravity_adds second eps b a t).seen ≡ a.seen + mass_of_term t
gravity_sees second eps b a t = refl

-- the last two of three masses may change places
masses_turned : (a b c : ℕ) → (a + b) + c ≡ (a + c) + b
masses_turned a b c = add_assoc a b c ∙ ap (λ (n : ℕ). a + n) (add_comm b c) ∙ sym (add_assoc a c b)

-- the last two of three components may change places
turned : (a b c : ℤ) → (a +ℤ b) +ℤ c ≡ (a +ℤ c) +ℤ b
turned a b c = +ℤ_assoc a b c ∙ ap (λ (z : ℤ). a +ℤ z) (+ℤ_comm b c) ∙ sym (+ℤ_assoc a c b)

-- an accumulator by its numbers
abbrev acc3 : ℕ → ℤ → ℤ → ℤ → Acc3Value
acc3 m x y z = record { seen = m; ax = x; ay = y; az = z }

-- two terms may change places
pub gravity_swaps : (second : Bool) (eps : ℕ) (b : BodyValue) (a : Acc3Value) (s t : Term) → gravity_adds second eps b (gravity_adds second eps b a s) t ≡ gravity_adds second eps b (gravity_adds second eps b a t) s
gravity_swaps second eps b a s t =
    ap4 acc3
    (masses_turned a.seen (mass_of_term s) (mass_of_term t))
    (turned a.ax (term_pull second eps b s).x (term_pull second eps b t).x)
    (turned a.ay (term_pull second eps b s).y (term_pull second eps b t).y)
    (turned a.az (term_pull second eps b s).z (term_pull second eps b t).z)
