-- A set that grows by a row.
use Rattle.std.proofs.Common.{ℕ, ℤ, ◌≡◌, ◌+◌, ◌<◌, ◌≤◌, List, [], ◌∷◌, ◌++◌, length, inl, inr, arith, length-append}
use Rattle.std.proofs.lemmas.Bool.{cases_lt}
use Rattle.std.proofs.lemmas.List.{get_or_append_left, get_or_push}
use Rattle.std.proofs.lemmas.List.Elements.{All-push}
use Rattle.std.proofs.lemmas.List.Sums.{sum_by-append}
use Rattle.hot_units.specs.Limits.{max_bodies, max_all_mass}
use Rattle.hot_units.specs.Values.{BodyValue}
use Rattle.hot_units.specs.Bodies.{mass_of, mass_of_body, RowsCount, IsBody}
use Rattle.key_order.specs.Ordered.{IsSet}

rows_more : (xs : List BodyValue) (b : BodyValue) → RowsCount xs → b.row ≡ length xs → RowsCount (xs ++ b ∷ [])
rows_more xs b h e i d k =
    elim (cases_lt i (length xs)) [
      | inl p ↦ rw (get_or_append_left xs (b ∷ []) d i p) (h i d p)
      | inr p ↦ let q : i ≡ length xs = omega (arith, length-append xs (b ∷ [])) in rw (q, get_or_push) e
    ]

-- one more body adds its mass
pub mass_more : (xs : List BodyValue) (b : BodyValue) → mass_of (xs ++ b ∷ []) ≡ mass_of xs + b.mass
mass_more xs b = omega (arith, sum_by-append mass_of_body xs (b ∷ []))

-- a set with room makes a set with a body of the next row, its ident and its weight
pub grown_set : (xs : List BodyValue) (idents : List ℤ) (weights : List ℕ) (b : BodyValue) (ident : ℤ) (weight : ℕ) → IsSet xs idents weights → IsBody b → b.row ≡ length xs → length xs < max_bodies → mass_of xs + b.mass ≤ max_all_mass → IsSet (xs ++ b ∷ []) (idents ++ ident ∷ []) (weights ++ weight ∷ [])
grown_set xs idents weights b ident weight s i e h light =
    let n = length-append xs (b ∷ []) in
    record {
      sound = All-push IsBody xs b s.sound i;
      rows = rows_more xs b s.rows e;
      few = omega (arith, n);
      light = omega (arith, mass_more xs b, light);
      idents_too = omega (arith, n, length-append idents (ident ∷ []), s.idents_too);
      weights_too = omega (arith, n, length-append weights (weight ∷ []), s.weights_too);
    }
