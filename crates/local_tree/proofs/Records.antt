-- The record of a cell over its range of bodies.
use Rattle.std.proofs.Common.{ℕ, ◌≡◌, ◌<◌, ◌≤◌, false, List, length, refl, sym, ap, ◌∙◌, Some, arith}
use Rattle.std.proofs.lemmas.Bool.{ne_eqb}
use Rattle.hot_units.specs.Limits.{max_all_mass}
use Rattle.hot_units.specs.Values.{BodyValue, CellValue}
use Rattle.hot_units.specs.Keys.{IsCell, contains, level}
use Rattle.hot_units.specs.Bodies.{mass_of, mass_of_body}
use Rattle.hot_units.proofs.Digits.{level-le, level-has}
use Rattle.hot_units.proofs.Bodies.{sum_filter_le}
use Rattle.hot_model.specs.Trees.{record_of, cell_record, record_at, inside, is_empty}
use Rattle.hot_model.proofs.Fronts.{covers-self}
use Rattle.hot_model.proofs.Within.{inside-within}

-- the bodies of a cell among its own are those
inside-own : (bodies : List BodyValue) (c : ℕ) → IsCell c → inside (inside bodies c) c ≡ inside bodies c
inside-own bodies c i = inside-within bodies c c i i (covers-self c (level c) (level-le c i) (level-has c i))

-- the mass of a range that is a cell's
pub range-light : (bodies own : List BodyValue) (c : ℕ) → IsCell c → inside bodies c ≡ own → mass_of bodies ≤ max_all_mass → mass_of (inside own c) ≤ max_all_mass
range-light bodies own c i e h =
    let a : inside own c ≡ inside bodies c = ap (λ (xs : List BodyValue). inside xs c) (sym e) ∙ inside-own bodies c i in
    rw a (omega (arith, h, sum_filter_le mass_of_body (contains c) bodies))

-- the record over it is that over all bodies
pub range-record : (bodies own : List BodyValue) (c : ℕ) → IsCell c → inside bodies c ≡ own → cell_record own c ≡ cell_record bodies c
range-record bodies own c i e = ap (record_of c) (ap (λ (xs : List BodyValue). inside xs c) (sym e) ∙ inside-own bodies c i)

-- a cell with bodies has its record
pub some-record : (bodies : List BodyValue) (c : ℕ) (r : CellValue) → 0 < length (inside bodies c) → r ≡ cell_record bodies c → Some r ≡ record_at bodies c
some-record bodies c r h f =
    let some : is_empty (inside bodies c) ≡ false = ne_eqb _ _ (λ z. omega (arith, z, h)) in
    rw (some, f) refl
