-- A walk that tests make has answers of what it gave out alone.
use Rattle.std.proofs.Common.{ℕ, ◌≡◌, ◌≢◌, List, [], ◌∷◌, ◌++◌, refl, sym, ap, ◌∙◌, subst, lit<}
use Rattle.std.specs.Prelude.{Contains}
use Rattle.std.proofs.lemmas.List.Elements.{Contains-append_left, Contains-append_right}
use Rattle.defer_walk.specs.declared.asks.Slot.{Slot}
use Rattle.defer_walk.specs.Asked.{Extends, stored_at}
use Rattle.defer_walk.proofs.Slots.{stored_extends}
use Rattle.tree_tests.specs.UnderWay.{GivenFirst}

-- where nothing was asked for
pub first-none : (given : List ℕ) (slots : List Slot) → slots ≡ [] → GivenFirst given slots
first-none given slots e k n = ap (λ (ss : List Slot). stored_at ss k) e

-- where more is asked for, and nothing is given out
pub first-extends : (given given' : List ℕ) (old new : List Slot) → given' ≡ given → Extends old new → GivenFirst given old → GivenFirst given' new
first-extends given given' old new e x h k n = stored_extends old new k x ∙ h k (λ m. n (subst (λ (ks : List ℕ). Contains ks k) (sym e) m))

-- where one more is given out and answered
pub first-answered : (key : ℕ) (given given' : List ℕ) (old new : List Slot) → given' ≡ given ++ key ∷ [] → ((k : ℕ) → k ≢ key → stored_at new k ≡ stored_at old k) → GivenFirst given old → GivenFirst given' new
first-answered key given given' old new e others h k n =
    others k (λ q. n (subst (λ (ks : List ℕ). Contains ks k) (sym e) (Contains-append_right given (key ∷ []) k (0, lit< tt, sym q))))
    ∙ h k (λ m. n (subst (λ (ks : List ℕ). Contains ks k) (sym e) (Contains-append_left given (key ∷ []) k m)))

-- and it is among what was given out
pub last-given : (key : ℕ) (given given' : List ℕ) → given' ≡ given ++ key ∷ [] → Contains given' key
last-given key given given' e = subst (λ (ks : List ℕ). Contains ks key) (sym e) (Contains-append_right given (key ∷ []) key (0, lit< tt, refl))
