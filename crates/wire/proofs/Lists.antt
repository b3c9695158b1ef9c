-- Lists that an element is taken out of.
use Rattle.std.proofs.Common.{◌≡◌, ℕ, zero, suc, ◌<◌, List, [], ◌∷◌, ◌++◌, length, map, take, drop, remove, slice_get, get_or, Some, Bool, not, refl, ap, ◌∙◌}
use Rattle.std.specs.List.{position, prefix_len}
use Rattle.std.specs.Option.{option_map}
use Rattle.std.proofs.lemmas.List.{take-map, drop-map, map-append, length-map}
use Rattle.std.proofs.lemmas.Option.{slice_get-map, slice_get_read}

-- what stands before a place, the element there, and what stands behind
pub split_at : {A : Type 0} (xs : List A) (i : ℕ) (x : A) → slice_get xs i ≡ Some x → xs ≡ take i xs ++ x ∷ drop (suc i) xs
split_at [] i x found = cc
split_at (y ∷ xs) zero x found = let e : y ≡ x = cc in ap (λ v. v ∷ xs) e
split_at (y ∷ xs) (suc i) x found = ap (λ t. y ∷ t) (split_at xs i x found)

-- an element is taken out before or after the list is mapped
pub map_remove : {A B : Type 0} (f : A → B) (xs : List A) (i : ℕ) → map f (remove xs i) ≡ remove (map f xs) i
map_remove f xs i =
    let front = take-map f i xs in
    let behind = drop-map f (suc i) xs in
    rw front (rw behind (map-append f (take i xs) (drop (suc i) xs)))

-- the element at a place of a mapped list
pub get_mapped : {A B : Type 0} (f : A → B) (xs : List A) (i : ℕ) (x : A) → i < length xs → x ≡ get_or xs i x → slice_get (map f xs) i ≡ Some (f x)
get_mapped f xs i x within read = slice_get-map f xs i ∙ ap (option_map f) (slice_get_read xs (length xs) i x refl within read)

-- how many elements of a mapped list pass in front
prefix_len-map : {A B : Type 0} (p : B → Bool) (f : A → B) (xs : List A) → prefix_len p (map f xs) ≡ prefix_len (λ x. p (f x)) xs
prefix_len-map p f [] = refl
prefix_len-map p f (x ∷ xs) = let rest = prefix_len-map p f xs in rw rest refl

-- the first place of a mapped list that passes
pub position-map : {A B : Type 0} (p : B → Bool) (f : A → B) (xs : List A) → position p (map f xs) ≡ position (λ x. p (f x)) xs
position-map p f xs =
    let front = prefix_len-map (λ x. not (p x)) f xs in
    let len = length-map xs f in
    rw front (rw len refl)
