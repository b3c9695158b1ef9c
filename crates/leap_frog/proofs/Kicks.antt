-- Velocities with forces added one after the other.
use Rattle.std.proofs.Common.{◌≡◌, ℕ, zero, suc, ◌+◌, ◌^◌, ◌<◌, ◌≤◌, List, [], ◌∷◌, length, get_or, map, inl, inr, refl, sym, ◌∙◌, ap, arith}
use Rattle.std.specs.Prelude.{All}
use Rattle.std.proofs.Math.ListN.{set}
use Rattle.std.proofs.lemmas.Bool.{cases_lt}
use Rattle.std.proofs.lemmas.List.{ext_get_or, get_or_default, get_or-set_same, get_or-set_other, length-set}
use Rattle.std.proofs.lemmas.List.Elements.{All-get_or, All-from_get_or}
use Rattle.hot_units.specs.Values.{Vector, Acc3Value}
use Rattle.hot_model.specs.Kernel.{plus, origin}
use Rattle.leap_frog.specs.States.{IsWithin, sums, force_in, max_force}

-- the first i were kicked, and the others not
pub record AreKicked (i : ℕ) (olds forces news : List Vector) : Type 0 where
  pub long : length news ≡ length olds
  pub done : (k : ℕ) (d : Vector) → k < i → get_or news k d ≡ plus (get_or olds k d) (get_or forces k d)
  pub rest : (k : ℕ) (d : Vector) → i ≤ k → get_or news k d ≡ get_or olds k d

-- the first i are at most so large where all were so small
abbrev pub AreGrown : ℕ → List Vector → List Vector → Type 0
AreGrown i olds news = (most : ℕ) → All (IsWithin most) olds → (k : ℕ) (d : Vector) → k < i → IsWithin (most + max_force) (get_or news k d)

-- one more velocity is kicked
pub kick-one : (i : ℕ) (olds forces news : List Vector) (v : Vector) → i < length olds → AreKicked i olds forces news → ((d : Vector) → v ≡ plus (get_or olds i d) (get_or forces i d)) → AreKicked (i + 1) olds forces (set news i v)
kick-one i olds forces news v lt h e =
    let long = h.long in
    record {
      long = length-set news i v ∙ h.long;
      done = λ k d b. elim (cases_lt k i) [
        | inl p ↦ get_or-set_other news i k v d (λ z. omega (arith, z)) ∙ h.done k d p
        | inr p ↦ let q : k ≡ i = omega arith in rw q (get_or-set_same news i v d (omega arith) ∙ e d)
      ];
      rest = λ k d b. get_or-set_other news i k v d (λ z. omega (arith, z)) ∙ h.rest k d (omega arith);
    }

-- one more velocity has grown by a force at most
pub grow-one : (i : ℕ) (olds news : List Vector) (v : Vector) → i < length news → AreGrown i olds news → ((most : ℕ) → All (IsWithin most) olds → IsWithin (most + max_force) v) → AreGrown (i + 1) olds (set news i v)
grow-one i olds news v lt h g most all k d b =
    elim (cases_lt k i) [
      | inl p ↦ rw (get_or-set_other news i k v d (λ z. omega (arith, z))) (h most all k d p)
      | inr p ↦ let q : k ≡ i = omega arith in rw (q, get_or-set_same news i v d lt) (g most all)
    ]

-- as many sums as velocities
length-sums : (vs ws : List Vector) → length ws ≡ length vs → length (sums vs ws) ≡ length vs
unfolding sums
length-sums [] ws h = refl
length-sums (v ∷ vs) [] h = absurd (omega arith)
length-sums (v ∷ vs) (w ∷ ws) h = ap suc (length-sums vs ws (omega arith))

-- the sum at a place
get-sums : (vs ws : List Vector) (k : ℕ) (d : Vector) → length ws ≡ length vs → k < length vs → get_or (sums vs ws) k d ≡ plus (get_or vs k d) (get_or ws k d)
unfolding sums
get-sums [] ws k d h lt = absurd (omega arith)
get-sums (v ∷ vs) [] k d h lt = absurd (omega arith)
get-sums (v ∷ vs) (w ∷ ws) zero d h lt = refl
get-sums (v ∷ vs) (w ∷ ws) (suc k) d h lt = get-sums vs ws k d (omega arith) (omega arith)

-- all were kicked
pub kicked-all : (n : ℕ) (olds forces news : List Vector) → length forces ≡ length olds → length olds ≤ n → AreKicked n olds forces news → news ≡ sums olds forces
kicked-all n olds forces news l le h =
    let long = h.long in
    ext_get_or origin news (sums olds forces) (h.long ∙ sym (length-sums olds forces l)) (λ k b. h.done k origin (omega arith) ∙ sym (get-sums olds forces k origin l (omega arith)))

-- all velocities have grown by a force at most
pub grown-all : (n : ℕ) (olds news : List Vector) → length news ≤ n → AreGrown n olds news → (most : ℕ) → All (IsWithin most) olds → All (IsWithin (most + max_force)) news
grown-all n olds news le h most all = All-from_get_or (IsWithin (most + max_force)) news origin (λ k b. h most all k origin (omega arith))

-- a force of the list
pub force-at : (accs : List Acc3Value) (i : ℕ) (a : Acc3Value) (d : Vector) → i < length accs → a ≡ get_or accs i a → get_or (map force_in accs) i d ≡ force_in a
force-at [] i a d lt e = absurd (omega arith)
force-at (b ∷ accs) zero a d lt e = ap force_in (sym e)
force-at (b ∷ accs) (suc i) a d lt e = force-at accs i a d (omega arith) e

-- nothing was kicked yet
pub none-kicked : (olds forces : List Vector) → AreKicked 0 olds forces olds
none-kicked olds forces = record { long = refl; done = λ k d b. absurd (omega arith); rest = λ k d b. refl }

-- a velocity that was not kicked yet
pub not-yet : (most i : ℕ) (olds forces news : List Vector) (v : Vector) → All (IsWithin most) olds → i < length olds → AreKicked i olds forces news → v ≡ get_or news i v → IsWithin most v
not-yet most i olds forces news v all lt h e = rw (e ∙ h.rest i v (omega arith)) (All-get_or (IsWithin most) olds i v lt all)

-- the sum that a kick makes
pub kick-at : (i : ℕ) (olds : List Vector) (accs : List Acc3Value) (news : List Vector) (v : Vector) (a : Acc3Value) (d : Vector) → i < length olds → i < length accs → AreKicked i olds (map force_in accs) news → v ≡ get_or news i v → a ≡ get_or accs i a → plus v (force_in a) ≡ plus (get_or olds i d) (get_or (map force_in accs) i d)
kick-at i olds accs news v a d lt lf h e f =
    let same : v ≡ get_or olds i d = e ∙ (get_or_default news i v d (let long = h.long in omega arith) ∙ h.rest i d (omega arith)) in
    rw (← same, force-at accs i a d lf f) refl
