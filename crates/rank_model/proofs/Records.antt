-- The records of a world's cells.
use Rattle.std.proofs.Common.{ℕ, ◌≡◌, ◌<◌, Bool, true, false, List, [], ◌∷◌, length, refl, subst, arith, ◌++◌, flat_map, sym, ap, ◌∙◌, inl, inr, Option, Some, None}
use Rattle.std.specs.Prelude.{Contains, if◌then◌else◌, option_to_list}
use Rattle.std.proofs.lemmas.List.{append-nil}
use Rattle.std.proofs.lemmas.List.Concat.{flat_map-append}
use Rattle.hot_units.specs.Values.{CellValue}
use Rattle.hot_units.specs.Keys.{contains, IsCell, child, digits}
use Rattle.hot_units.specs.Bodies.{mass_of_body}
use Rattle.hot_units.proofs.Members.{head_has, tail_has, have_digits, nil_has, cons_cases, has_flat}
use Rattle.hot_units.proofs.Bodies.{sum_filter_le}
use Rattle.hot_model.specs.Facts.{IsCellRecord}
use Rattle.hot_model.specs.Trees.{cell_record, is_empty}
use Rattle.hot_model.proofs.Corners.{inside-facts}
use Rattle.hot_model.proofs.Walks.{some_length}
use Rattle.rank_model.specs.World.{World, IsGood, bodies_in, record_in}
use Rattle.rank_model.specs.Answers.{child_records}

-- the record of a cell of a good world is one that code can hold
pub record_is : (w : World) (c : ℕ) → IsGood w → IsCell c → IsCellRecord (cell_record w.bodies c)
record_is w c g i =
    let p = sum_filter_le mass_of_body (contains c) w.bodies in
    inside-facts c w.bodies i g.sound (omega (arith, p, g.light))

-- a record that a cell has is its record, and the cell has bodies
pub record_some : (w : World) (c : ℕ) (r : CellValue) → record_in w c ≡ Some r → (is_empty (bodies_in w c) ≡ false) × (r ≡ cell_record w.bodies c)
record_some w c r h = by_test (is_empty (bodies_in w c)) refl h
  where
    value_is : Option CellValue → Type 0
    value_is None = ⊥
    value_is (Some z) = z ≡ cell_record w.bodies c

    by_test : (t : Bool) → is_empty (bodies_in w c) ≡ t → (if t then None else Some (cell_record w.bodies c)) ≡ Some r → (is_empty (bodies_in w c) ≡ false) × (r ≡ cell_record w.bodies c)
    by_test true e f = absurd (let g : None ≡ Some r = f in cc)
    by_test false e f = (e, subst value_is f refl)

-- a cell with bodies has its record
pub some_record : (w : World) (c : ℕ) → is_empty (bodies_in w c) ≡ false → record_in w c ≡ Some (cell_record w.bodies c)
some_record w c e = rw e refl

-- whatever is joined over the digits is joined over the records of the children that have bodies
pub over_records : {X : Type 0} (w : World) (c : ℕ) (rest : CellValue → List X) (f : ℕ → List X)
    → ((d : ℕ) → d < 8 → is_empty (bodies_in w (child c d)) ≡ false → rest (cell_record w.bodies (child c d)) ≡ f d)
    → ((d : ℕ) → d < 8 → is_empty (bodies_in w (child c d)) ≡ true → f d ≡ [])
    → flat_map rest (child_records w c) ≡ flat_map f digits
over_records {X = X} w c rest f full empty = over digits (λ d m. have_digits d m)
  where
    one : (d : ℕ) → d < 8 → (t : Bool) → is_empty (bodies_in w (child c d)) ≡ t → flat_map rest (option_to_list (if t then None else Some (cell_record w.bodies (child c d)))) ≡ f d
    one d h true e = sym (empty d h e)
    one d h false e = append-nil (rest (cell_record w.bodies (child c d))) ∙ full d h e

    over : (ds : List ℕ) → ((d : ℕ) → Contains ds d → d < 8) → flat_map rest (flat_map (λ d. option_to_list (record_in w (child c d))) ds) ≡ flat_map f ds
    over [] h = refl
    over (d ∷ ds) h =
        flat_map-append rest (option_to_list (record_in w (child c d))) (flat_map (λ d. option_to_list (record_in w (child c d))) ds)
        ∙ (ap (λ (ys : List X). ys ++ flat_map rest (flat_map (λ d. option_to_list (record_in w (child c d))) ds)) (one d (h d (head_has d ds)) (is_empty (bodies_in w (child c d))) refl)
        ∙ ap (λ (ys : List X). f d ++ ys) (over ds (λ j m. h j (tail_has d ds j m))))

-- the records of an answer are those of children with bodies
pub child_record_is : (w : World) (c : ℕ) (r : CellValue) → Contains (child_records w c) r → (d : ℕ) × (d < 8) × (0 < length (bodies_in w (child c d))) × (r ≡ cell_record w.bodies (child c d))
child_record_is w c r h =
    let f = has_flat (λ d. option_to_list (record_in w (child c d))) digits r h in
    one f.0 (have_digits f.0 f.1) (is_empty (bodies_in w (child c f.0))) refl f.2
  where
    one : (d : ℕ) → d < 8 → (t : Bool) → is_empty (bodies_in w (child c d)) ≡ t → Contains (option_to_list (if t then None else Some (cell_record w.bodies (child c d)))) r → (e : ℕ) × (e < 8) × (0 < length (bodies_in w (child c e))) × (r ≡ cell_record w.bodies (child c e))
    one d k true e m = absurd (nil_has r m)
    one d k false e m = elim (cons_cases (cell_record w.bodies (child c d)) [] r m) [
      | inl q ↦ (d, k, some_length (bodies_in w (child c d)) e, q)
      | inr q ↦ absurd (nil_has r q)
    ]
