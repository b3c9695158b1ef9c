-- Rows that are added one by one.
use Rattle.std.proofs.Common.{ℕ, suc, ℤ, ◌≡◌, ◌+◌, List, [], ◌∷◌, ◌++◌, length, refl, ap, sym, ◌∙◌, append_assoc, append-nil, arith}
use Rattle.std.proofs.lemmas.List.{map-append}
use Rattle.hot_units.specs.Values.{BodyValue, CubeValue, Vector}
use Rattle.hot_units.specs.declared.raw_row.RawRow.{RawRow}
use Rattle.body_set.specs.Rows.{body_of_row, weight_of_row, velocity_of_row}
use Rattle.body_set.specs.Sets.{SetValue, bodies_from, set_of_rows, with_row, with_rows, empty_set}
use Rattle.body_set.specs.Laws as laws

-- there are as many bodies as rows
pub bodies-length : (cube : CubeValue) (k : ℕ) (raws : List RawRow) → length (bodies_from cube k raws) ≡ length raws
unfolding bodies_from
bodies-length cube k [] = refl
bodies-length cube k (raw ∷ raws) = ap suc (bodies-length cube (suc k) raws)

bodies-append : (cube : CubeValue) (k : ℕ) (raws : List RawRow) (raw : RawRow) → bodies_from cube k (raws ++ raw ∷ []) ≡ bodies_from cube k raws ++ body_of_row cube (k + length raws) raw ∷ []
unfolding bodies_from
bodies-append cube k [] raw = let e : k + 0 ≡ k = omega arith in rw e refl
bodies-append cube k (x ∷ raws) raw =
    let e : k + suc (length raws) ≡ suc k + length raws = omega arith in
    rw (e, bodies-append cube (suc k) raws raw) refl

abbrev set_of : CubeValue → List BodyValue → List ℤ → List ℕ → List Vector → SetValue
set_of cube a c e g = record { cube = cube; bodies = a; idents = c; weights = e; velocities = g }

same_set : (cube : CubeValue) (a b : List BodyValue) (c d : List ℤ) (e f : List ℕ) (g h : List Vector) → a ≡ b → c ≡ d → e ≡ f → g ≡ h → set_of cube a c e g ≡ set_of cube b d f h
same_set cube a b c d e f g h p q r s = rw (p, q, r, s) refl

one_more : (cube : CubeValue) (raws : List RawRow) (raw : RawRow) → with_row (set_of_rows cube raws) raw ≡ set_of_rows cube (raws ++ raw ∷ [])
one_more cube raws raw =
    let e : length (bodies_from cube 0 raws) ≡ 0 + length raws = omega (arith, bodies-length cube 0 raws) in
    let a : bodies_from cube 0 raws ++ body_of_row cube (length (bodies_from cube 0 raws)) raw ∷ [] ≡ bodies_from cube 0 (raws ++ raw ∷ []) =
    rw (e, bodies-append cube 0 raws raw) refl in
    same_set cube _ _ _ _ _ _ _ _ a (sym (map-append (λ r. r.ident) raws (raw ∷ []))) (sym (map-append weight_of_row raws (raw ∷ []))) (sym (map-append velocity_of_row raws (raw ∷ [])))

none : (cube : CubeValue) → set_of_rows cube [] ≡ empty_set cube
unfolding bodies_from
none cube = refl

-- rows that are added one by one to the set of a list are as if they had stood behind that list
pub more : (cube : CubeValue) (raws others : List RawRow) → with_rows (set_of_rows cube raws) others ≡ set_of_rows cube (raws ++ others)
unfolding with_rows
more cube raws [] = ap (set_of_rows cube) (sym (append-nil raws))
more cube raws (raw ∷ others) =
    let e : (raws ++ raw ∷ []) ++ others ≡ raws ++ raw ∷ others = append_assoc raws (raw ∷ []) others in
    ap (λ (s : SetValue). with_rows s others) (one_more cube raws raw) ∙ (more cube (raws ++ raw ∷ []) others ∙ ap (set_of_rows cube) e)

-- a set to which rows are added one by one is the set of the list of these rows
pub rows_add_up : laws.RowsAddUp
rows_add_up = record { none = none; one_more = one_more; more = more }
