-- A walk below a cell meets the bodies of that cell alone.
use Rattle.std.proofs.Common.{ℕ, zero, suc, ◌≡◌, ◌-◌, ◌<◌, ◌≤◌, Bool, true, false, List, [], ◌∷◌, sym, refl, ap, ◌∙◌, subst, arith}
use Rattle.hot_units.specs.Values.{BodyValue, CellValue}
use Rattle.hot_units.specs.Keys.{IsCell, covers, contains, HasLevel, child, digits}
use Rattle.hot_units.proofs.Members.{flat_same, have_digits}
use Rattle.hot_model.specs.Trees.{inside, terms_in}
use Rattle.hot_model.proofs.Parts.{child-level}
use Rattle.hot_model.proofs.Fronts.{covers-contains, covers-trans, child_covers}

-- the bodies of a cell among those of a cell that covers it
pub inside-within : (bodies : List BodyValue) (c k : ℕ) → IsCell c → IsCell k → covers c k ≡ true → inside (inside bodies c) k ≡ inside bodies k
inside-within [] c k i j h = refl
inside-within (x ∷ xs) c k i j h = by_tests (inside-within xs c k i j h) (contains c x) (contains k x) refl refl
  where
    by_tests : inside (inside xs c) k ≡ inside xs k → (t u : Bool) → contains c x ≡ t → contains k x ≡ u → inside (inside (x ∷ xs) c) k ≡ inside (x ∷ xs) k
    by_tests rest true true e f = rw (e, f) (ap (λ (ys : List BodyValue). x ∷ ys) rest)
    by_tests rest true false e f = rw (e, f) rest
    by_tests rest false true e f = absurd (let g = covers-contains c k x i j h f in let n : true ≡ false = sym g ∙ e in cc)
    by_tests rest false false e f = rw (e, f) rest

-- so the terms of the cell are the same over either list
pub terms-within : (opens : CellValue → Bool) (leaf : ℕ) (bodies : List BodyValue) (c deep k : ℕ) → IsCell c → deep ≤ 21 → HasLevel k (21 - deep) → covers c k ≡ true → terms_in opens leaf (inside bodies c) deep k ≡ terms_in opens leaf bodies deep k
unfolding terms_in
terms-within opens leaf bodies c zero k i h p s =
    let e = inside-within bodies c k i (21 - 0, omega arith, p) s in
    rw e refl
terms-within opens leaf bodies c (suc deep) k i h p s =
    let e = inside-within bodies c k i (21 - suc deep, omega arith, p) s in
    let n : suc (21 - suc deep) ≡ 21 - deep = omega arith in
    let below = flat_same (λ (d : ℕ). terms_in opens leaf (inside bodies c) deep (child k d)) (λ (d : ℕ). terms_in opens leaf bodies deep (child k d)) digits (λ d m.
    let b : d < 8 = have_digits d m in
    let l : HasLevel (child k d) (21 - deep) = subst (λ (l : ℕ). HasLevel (child k d) l) n (child-level k (21 - suc deep) d p b) in
    let t : covers c (child k d) ≡ true = covers-trans c k (child k d) i (21 - suc deep, omega arith, p) (21 - deep, omega arith, l) s (child_covers k d (21 - suc deep) (omega arith) p b) in
    terms-within opens leaf bodies c deep (child k d) i (omega arith) l t) in
    rw (e, below) refl
