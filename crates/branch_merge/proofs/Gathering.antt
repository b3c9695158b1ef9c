-- The records of all lists, one more at a time, and their order.
use Rattle.std.proofs.Common.{ℕ, suc, ◌≡◌, ◌+◌, ◌<◌, ltb, List, [], ◌∷◌, ◌++◌, length, flat_map, get_or, sym, refl, ap, ◌∙◌, add-one}
use Rattle.std.specs.List.Sorted.{IsSortedBy}
use Rattle.std.proofs.lemmas.Bool.{ltb-false}
use Rattle.std.proofs.lemmas.List.{append-nil, get_or_default}
use Rattle.std.proofs.lemmas.List.Concat.{flat_map-append}
use Rattle.std.proofs.lemmas.List.Sorted.{sorted_far, IsStrictWeakOrder-by_number}
use Rattle.hot_units.specs.Values.{CellValue}
use Rattle.hot_units.specs.Numbers.{numbers_below}
use Rattle.branch_merge.specs.declared.listed.Listed.{Listed}
use Rattle.branch_merge.specs.Listing.{of_rank}
use Rattle.branch_merge.specs.Merged.{first_of, AreInOrder}

numbers_suc : (n : ℕ) → numbers_below (suc n) ≡ numbers_below n ++ n ∷ []
unfolding numbers_below
numbers_suc n = refl

numbers_more : (n : ℕ) → numbers_below (n + 1) ≡ numbers_below n ++ n ∷ []
numbers_more n = rw add-one (numbers_suc n)

-- the records of the first so many lists
abbrev pub from_lists : List (List CellValue) → ℕ → List Listed
from_lists lists n = flat_map (λ q. of_rank q (get_or lists q [])) (numbers_below n)

-- no list yet
pub lists_none : (lists : List (List CellValue)) → [] ≡ from_lists lists 0
unfolding numbers_below
lists_none lists = refl

-- one more list
pub lists_more : (lists : List (List CellValue)) (now new : List Listed) (q : ℕ) (list : List CellValue) → q < length lists → list ≡ get_or lists q list → now ≡ from_lists lists q → new ≡ now ++ of_rank q list → new ≡ from_lists lists (q + 1)
lists_more lists now new q list l at e f =
    let own : list ≡ get_or lists q [] = at ∙ get_or_default lists q list [] l in
    let g : ℕ → List Listed = λ p. of_rank p (get_or lists p []) in
    f
    ∙ (ap (λ (xs : List Listed). xs ++ of_rank q list) e
    ∙ (ap (λ (rs : List CellValue). from_lists lists q ++ of_rank q rs) own
    ∙ (ap (λ (xs : List Listed). from_lists lists q ++ xs) (sym (append-nil (g q)))
    ∙ (sym (flat_map-append g (numbers_below q) (q ∷ []))
    ∙ ap (flat_map g) (sym (numbers_more q))))))

-- what a sort by first key leaves is in order
pub order_from_sort : (xs : List Listed) → IsSortedBy (λ x y. ltb (first_of x) (first_of y)) xs → AreInOrder xs
order_from_sort xs s i j d h l =
    ltb-false _ _ (sorted_far (λ x y. ltb (first_of x) (first_of y)) (IsStrictWeakOrder-by_number first_of) xs s i j d h l)
