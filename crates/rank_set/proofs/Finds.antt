-- What one more rank adds to what the ranks before it found.
use Rattle.std.proofs.Common.{ℕ, suc, zero, ◌≡◌, Bool, List, [], ◌∷◌, ◌++◌, length, map, sum_by, Contains, ◌⊎◌, ◌↔◌, Some, slice_get, refl, ap, sym, ◌∙◌, subst, inl, inr, arith, length-append}
use Rattle.std.proofs.lemmas.List.{map-append, length-map}
use Rattle.std.proofs.lemmas.List.Elements.{Contains-append_left, Contains-append_right, Contains-append_cases}
use Rattle.hot_units.specs.Values.{BodyValue, CellValue}
use Rattle.hot_units.specs.Numbers.{numbers_below}
use Rattle.hot_units.proofs.Members.{nil_has}
use Rattle.rank_model.specs.World.{World, IsGood, piece}
use Rattle.rank_model.specs.Needs.{needed}
use Rattle.defer_walk.specs.Standing.{VisitOf, fold_in, opened_by}
use Rattle.rank_set.specs.declared.found.Effort.{Effort}
use Rattle.rank_set.specs.Efforts.{effort_of, opened_of_rank, bodies_below, IsOpenedBy, AreFinds, AreFindsTo, AreFindsIn}
use Rattle.rank_set.proofs.Pieces.{pieces-all}

-- no ranks found nothing
finds-nothing : {A : Type 0} (v : VisitOf A) (w : World) → AreFindsTo v w 0 [] [] []
unfolding bodies_below numbers_below
finds-nothing v w = record { accs_are = refl; efforts_are = refl; opened_are = λ k. ((λ h. absurd (nil_has k h)), (λ h. absurd (nil_has h.0 h.1))) }

-- empty lists are what no ranks find
pub finds-none : {A : Type 0} (v : VisitOf A) (w : World) (accs : List A) (efforts : List Effort) (opened : List ℕ) → accs ≡ [] → efforts ≡ [] → opened ≡ [] → AreFindsTo v w 0 accs efforts opened
finds-none v w accs efforts opened a e o = rw (a, e, o) (finds-nothing v w)

-- one rank more
pub finds-more : {A : Type 0} (v : VisitOf A) (w : World) (q name long : ℕ) (accs : List A) (efforts : List Effort) (opened : List ℕ) (own : List A) (count asks : ℕ) (cells : List ℕ) (accs' : List A) (efforts' : List Effort) (opened' : List ℕ)
    → AreFindsTo v w q accs efforts opened
    → own ≡ map (fold_in v w) (piece w q)
    → count ≡ sum_by (λ b. length (opened_by v w b)) (piece w q)
    → asks ≡ length (needed v.opens w q)
    → ((k : ℕ) → Contains cells k ↔ ((b : BodyValue) × Contains (piece w q) b × Contains (opened_by v w b) k))
    → accs' ≡ accs ++ own
    → name ≡ q
    → long ≡ length own
    → efforts' ≡ efforts ++ record { rank = name; bodies = long; opened = count; asks = asks } ∷ []
    → opened' ≡ opened ++ cells
    → AreFindsTo v w (suc q) accs' efforts' opened'
unfolding bodies_below numbers_below
finds-more v w q name long accs efforts opened own count asks cells accs' efforts' opened' f o n a c ea en el ee eo =
    let many : length own ≡ length (piece w q) = ap (λ l. length l) o ∙ length-map (piece w q) (fold_in v w) in
    let effort : record { rank = name; bodies = long; opened = count; asks = asks } ≡ effort_of v.opens w q = cc in
    record {
      accs_are = ea ∙ (rw (f.accs_are, o) (sym (map-append (fold_in v w) (bodies_below w q) (piece w q))));
      efforts_are = ee ∙ (rw (f.efforts_are, effort) (sym (map-append (effort_of v.opens w) (numbers_below q) (q ∷ []))));
      opened_are = λ k. (
        (λ h. elim (Contains-append_cases opened cells k (subst (λ l. Contains l k) eo h)) [
          | inl i ↦ (let g = (f.opened_are k).0 i in (g.0, Contains-append_left (bodies_below w q) (piece w q) g.0 g.1, g.2))
          | inr i ↦ (let g = (c k).0 i in (g.0, Contains-append_right (bodies_below w q) (piece w q) g.0 g.1, g.2))
        ]),
        (λ h. subst (λ l. Contains l k) (sym eo) (elim (Contains-append_cases (bodies_below w q) (piece w q) h.0 h.1) [
          | inl i ↦ Contains-append_left opened cells k ((f.opened_are k).1 (h.0, i, h.2))
          | inr i ↦ Contains-append_right opened cells k ((c k).1 (h.0, i, h.2))
        ])),
      );
    }

-- the finds of all ranks are those of all bodies
pub finds-all : {A : Type 0} (v : VisitOf A) (w : World) (n : ℕ) (accs : List A) (efforts : List Effort) (opened : List ℕ) → IsGood w → n ≡ w.ranks → AreFindsTo v w n accs efforts opened → AreFindsIn v w accs efforts opened
finds-all v w n accs efforts opened g e f =
    let all : bodies_below w n ≡ w.bodies = ap (bodies_below w) e ∙ pieces-all w g in
    record {
      accs_are = rw all at f.accs_are;
      efforts_are = rw e at f.efforts_are;
      opened_are = rw all at f.opened_are;
    }

-- what holds of a rank's own visit and number holds of those of its place
pub finds-carried : {V A : Type 0} (m : V → VisitOf A) (w : World) (v own : V) (q me n : ℕ) (accs : List A) (efforts : List Effort) (opened : List ℕ) (accs' : List A) (efforts' : List Effort) (opened' : List ℕ)
    → own ≡ v → me ≡ q → n ≡ suc q
    → (AreFindsTo (m own) w me accs efforts opened → AreFindsTo (m own) w (suc me) accs' efforts' opened')
    → AreFindsTo (m v) w q accs efforts opened → AreFindsTo (m v) w n accs' efforts' opened'
finds-carried m w v own q me n accs efforts opened accs' efforts' opened' e p s step f =
    let before : AreFindsTo (m own) w me accs efforts opened = subst (λ u. AreFindsTo (m u) w me accs efforts opened) (sym e) (subst (λ k. AreFindsTo (m v) w k accs efforts opened) (sym p) f) in
    let after : AreFindsTo (m v) w (suc me) accs' efforts' opened' = subst (λ u. AreFindsTo (m u) w (suc me) accs' efforts' opened') e (step before) in
    subst (λ k. AreFindsTo (m v) w k accs' efforts' opened') (ap suc p ∙ sym s) after

-- the item behind a front of a list
get-middle : {X : Type 0} (xs ys : List X) (x : X) → slice_get (xs ++ x ∷ ys) (length xs) ≡ Some x
get-middle [] ys x = refl
get-middle (y ∷ xs) ys x = get-middle xs ys x

-- the next item of a list, behind those that are gone
pub here : {X : Type 0} (all gone rest left : List X) (x : X) → gone ++ rest ≡ all → rest ≡ x ∷ left → slice_get all (length gone) ≡ Some x
here all gone rest left x e r = subst (λ l. slice_get l (length gone) ≡ Some x) (ap (λ l. gone ++ l) (sym r) ∙ e) (get-middle gone left x)

-- a list with one item more is longer by one
pub one-longer : {X : Type 0} (xs : List X) (x : X) → length (xs ++ x ∷ []) ≡ suc (length xs)
one-longer [] x = refl
one-longer (y ∷ xs) x = ap suc (one-longer xs x)

-- where nothing is left, all are gone
pub as-long : {X : Type 0} (all gone rest : List X) → gone ++ rest ≡ all → length rest ≡ 0 → length gone ≡ length all
as-long all gone rest e z = omega (arith, length-append gone rest, ap length e, z)
