-- The laws of adding terms, which the visit gives: they name no tactic, since the visit cites them.
use Rattle.std.specs.Prelude.{ℕ, ◌≡◌, ◌+◌, ◌<◌, ◌≤◌, Bool, true, false, cond, List, [], ◌∷◌}
use Rattle.std.proofs.Common.{refl, sym, ap, ◌∙◌, subst, inl, inr, add_assoc, add_comm}
use Rattle.std.proofs.Math.Nat.{le_of_lt, lt_trans}
use Rattle.std.proofs.lemmas.Bool.{cases_lt, cases_order, le-leb, lt-leb}
use Rattle.hot_units.specs.Values.{BodyValue}
use Rattle.hot_model.specs.Trees.{Term, Far, Near, mass_of_term}
use Rattle.hot_model.proofs.Ties.{ap2}
use Rattle.near_walk.specs.Ascending.{inserted}
use Rattle.near_walk.specs.Near.{NearValue, near_value, near_adds, rows_after, is_neighbour}

-- each term adds its mass to what was seen
pub near_sees : (radius : ℕ) (b : BodyValue) (a : NearValue) (t : Term) → (near_adds radius b a t).seen ≡ a.seen + mass_of_term t
near_sees radius b a t = refl

-- the last two of three masses may change places
masses_turned : (a b c : ℕ) → (a + b) + c ≡ (a + c) + b
masses_turned a b c = add_assoc a b c ∙ ap (λ (n : ℕ). a + n) (add_comm b c) ∙ sym (add_assoc a c b)

-- a number that is not above the first goes before it
pub inserted-first : (n k : ℕ) (ks : List ℕ) → n ≤ k → inserted n (k ∷ ks) ≡ n ∷ k ∷ ks
unfolding inserted
inserted-first n k ks h = ap (λ (t : Bool). cond t (n ∷ k ∷ ks) (k ∷ inserted n ks)) (le-leb n k h)

-- a number above the first goes behind it
pub inserted-behind : (n k : ℕ) (ks : List ℕ) → k < n → inserted n (k ∷ ks) ≡ k ∷ inserted n ks
unfolding inserted
inserted-behind n k ks h = ap (λ (t : Bool). cond t (n ∷ k ∷ ks) (k ∷ inserted n ks)) (lt-leb n k h)

-- a number that is not above the first of a list, nor above a second number, goes before both
inserted-before : (x y z : ℕ) (zs : List ℕ) → x ≤ y → x ≤ z → inserted x (inserted y (z ∷ zs)) ≡ x ∷ inserted y (z ∷ zs)
inserted-before x y z zs h k =
    elim (cases_lt z y) [
      | inl l ↦ ap (inserted x) (inserted-behind y z zs l) ∙ inserted-first x z (inserted y zs) k ∙ ap (λ (ks : List ℕ). x ∷ ks) (sym (inserted-behind y z zs l))
      | inr l ↦ ap (inserted x) (inserted-first y z zs l) ∙ inserted-first x y (z ∷ zs) h ∙ ap (λ (ks : List ℕ). x ∷ ks) (sym (inserted-first y z zs l))
    ]

-- two numbers, one below the other, may be put in either way round
lower-swaps : (x y : ℕ) (zs : List ℕ) → x < y → inserted x (inserted y zs) ≡ inserted y (inserted x zs)
unfolding inserted
lower-swaps x y [] h = inserted-first x y [] (le_of_lt h) ∙ sym (inserted-behind y x [] h)
lower-swaps x y (z ∷ zs) h =
    let deeper : inserted x (inserted y zs) ≡ inserted y (inserted x zs) = lower-swaps x y zs h in
    elim (cases_lt z x) [
      | inl l ↦
          ap (inserted x) (inserted-behind y z zs (lt_trans l h))
          ∙ inserted-behind x z (inserted y zs) l
          ∙ ap (λ (ks : List ℕ). z ∷ ks) deeper
          ∙ sym (ap (inserted y) (inserted-behind x z zs l) ∙ inserted-behind y z (inserted x zs) (lt_trans l h))
      | inr l ↦
          inserted-before x y z zs (le_of_lt h) l
          ∙ sym (ap (inserted y) (inserted-first x z zs l) ∙ inserted-behind y x (z ∷ zs) h)
    ]

-- two numbers may be put in either way round
pub inserted-swaps : (x y : ℕ) (zs : List ℕ) → inserted x (inserted y zs) ≡ inserted y (inserted x zs)
inserted-swaps x y zs =
    elim (cases_order x y) [
      | inl e ↦ subst (λ (n : ℕ). inserted x (inserted n zs) ≡ inserted n (inserted x zs)) e refl
      | inr (inl l) ↦ lower-swaps x y zs l
      | inr (inr l) ↦ sym (lower-swaps y x zs l)
    ]

-- two rows or none, put in either way round
either_way : (s t : Bool) (x y : ℕ) (rows : List ℕ) → cond t (inserted y (cond s (inserted x rows) rows)) (cond s (inserted x rows) rows) ≡ cond s (inserted x (cond t (inserted y rows) rows)) (cond t (inserted y rows) rows)
either_way true true x y rows = inserted-swaps y x rows
either_way true false x y rows = refl
either_way false true x y rows = refl
either_way false false x y rows = refl

-- the rows after two terms, either way round
rows-swap : (radius : ℕ) (b : BodyValue) (rows : List ℕ) (s t : Term) → rows_after radius b (rows_after radius b rows s) t ≡ rows_after radius b (rows_after radius b rows t) s
rows-swap radius b rows (Far c) (Far d) = refl
rows-swap radius b rows (Far c) (Near o) = refl
rows-swap radius b rows (Near o) (Far d) = refl
rows-swap radius b rows (Near o) (Near p) = either_way (is_neighbour radius b o) (is_neighbour radius b p) o.row p.row rows

-- two terms may change places
pub near_swaps : (radius : ℕ) (b : BodyValue) (a : NearValue) (s t : Term) → near_adds radius b (near_adds radius b a s) t ≡ near_adds radius b (near_adds radius b a t) s
near_swaps radius b a s t = ap2 near_value (masses_turned a.seen (mass_of_term s) (mass_of_term t)) (rows-swap radius b a.rows s t)
