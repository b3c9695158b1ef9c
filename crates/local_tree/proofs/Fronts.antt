-- The cells of one level, body by body.
use Rattle.std.proofs.Common.{ℕ, suc, add-one, ◌≡◌, ◌+◌, ◌<◌, ◌≤◌, Bool, true, false, cond, eqb, List, [], ◌∷◌, ◌++◌, length, map, filter, take, get_or, sym, refl, ap, ◌∙◌, subst, arith}
use Rattle.std.specs.Prelude.{Contains}
use Rattle.std.specs.List.{dedup, dedup_from}
use Rattle.std.proofs.lemmas.Bool.{eqb-true, ne_eqb}
use Rattle.std.proofs.lemmas.List.{map_more, map-append, append_assoc}
use Rattle.std.proofs.lemmas.List.Elements.{filter-append, Contains-get_or}
use Rattle.hot_units.specs.Values.{BodyValue, CellValue}
use Rattle.hot_units.specs.Keys.{key_of_body, contains, IsCell, front, parent}
use Rattle.hot_units.proofs.Digits.{cell-pos}
use Rattle.hot_units.proofs.Members.{has_length}
use Rattle.hot_model.specs.Trees.{inside}
use Rattle.hot_model.specs.Cells.{cells_at, cells_above}
use Rattle.hot_model.proofs.Parts.{inside_has}
use Rattle.hot_model.proofs.Fronts.{front_level, own_front, parent-covers, covers-contains}
use Rattle.morton_key.proofs.Numbers.{below_root, parent_cell}

-- the last of a list of numbers, or d
abbrev pub last_or : ℕ → List ℕ → ℕ
last_or d [] = d
last_or d (x ∷ xs) = last_or x xs

-- the last of a list with one more is that one
pub last-push : (d y : ℕ) (xs : List ℕ) → last_or d (xs ++ y ∷ []) ≡ y
last-push d y [] = refl
last-push d y (x ∷ xs) = last-push x y xs

-- y, unless it is the same as the one before it
abbrev pub unless_same : ℕ → ℕ → List ℕ
unless_same y before = cond (eqb y before) [] (y ∷ [])

push_by : (k y x : ℕ) (xs : List ℕ) (t : Bool) → eqb x k ≡ t → dedup_from eqb k (xs ++ y ∷ []) ≡ dedup_from eqb k xs ++ unless_same y (last_or k xs) → dedup_from eqb x (xs ++ y ∷ []) ≡ dedup_from eqb x xs ++ unless_same y (last_or x xs) → cond t (dedup_from eqb k (xs ++ y ∷ [])) (k ∷ dedup_from eqb x (xs ++ y ∷ [])) ≡ cond t (dedup_from eqb k xs) (k ∷ dedup_from eqb x xs) ++ unless_same y (last_or x xs)
push_by k y x xs true e same other = same ∙ ap (λ (z : ℕ). dedup_from eqb k xs ++ unless_same y (last_or z xs)) (sym (eqb-true _ _ e))
push_by k y x xs false e same other = ap (λ (zs : List ℕ). k ∷ zs) other

from_push : (k y : ℕ) (xs : List ℕ) → dedup_from eqb k (xs ++ y ∷ []) ≡ dedup_from eqb k xs ++ unless_same y (last_or k xs)
from_push k y [] = elim (eqb y k) as (λ (t : Bool). cond t (k ∷ []) (k ∷ (y ∷ [])) ≡ (k ∷ []) ++ cond t [] (y ∷ [])) [ true ↦ refl | false ↦ refl ]
from_push k y (x ∷ xs) = push_by k y x xs (eqb x k) refl (from_push k y xs) (from_push x y xs)

-- one more number counts where it is not the same as the last
pub dedup-push : (y : ℕ) (xs : List ℕ) → 0 < y → dedup eqb (xs ++ y ∷ []) ≡ dedup eqb xs ++ unless_same y (last_or 0 xs)
dedup-push y [] h = let t : eqb y 0 ≡ false = ne_eqb _ _ (λ e. omega (arith, e, h)) in rw t refl
dedup-push y (x ∷ xs) h = from_push x y xs

-- the cell of level l that has a body
abbrev pub front_of : ℕ → BodyValue → ℕ
front_of l b = front l (key_of_body b)

-- the cell of a level that has a body is a cell
pub front-cell : (l : ℕ) (b : BodyValue) → l ≤ 21 → IsCell (front_of l b)
front-cell l b h = (l, h, front_level l b h)

-- a cell that contains a body of the list has bodies
has_body : (c : ℕ) (xs : List BodyValue) (i : ℕ) (b : BodyValue) → i < length xs → b ≡ get_or xs i b → contains c b ≡ true → 0 < length (inside xs c)
has_body c xs i b h at e =
    let m : Contains xs b = subst (Contains xs) (sym at) (Contains-get_or xs i b h) in
    has_length (inside xs c) b (inside_has xs c b m e)

-- that of a body of the list has bodies
pub front-some : (l : ℕ) (xs : List BodyValue) (i : ℕ) (b : BodyValue) → l ≤ 21 → i < length xs → b ≡ get_or xs i b → 0 < length (inside xs (front_of l b))
front-some l xs i b h k at = has_body (front_of l b) xs i b k at (own_front l b h)

-- and so has the cell above it
pub above-some : (l : ℕ) (xs : List BodyValue) (i : ℕ) (b : BodyValue) → l ≤ 21 → i < length xs → b ≡ get_or xs i b → (front_of l b ≡ 1 → ⊥) → 0 < length (inside xs (parent (front_of l b)))
above-some l xs i b h k at n =
    let u = below_root (front_of l b) (front-cell l b h) n in
    let p : IsCell (parent (front_of l b)) = parent_cell (front_of l b) (front-cell l b h) n in
    has_body (parent (front_of l b)) xs i b k at
    (covers-contains (parent (front_of l b)) (front_of l b) b p (front-cell l b h) (parent-covers (front_of l b) u.0 u.1 u.2) (own_front l b h))

-- one more body, where the records of the cells that pass a test are listed
pub level-more : (r : ℕ → CellValue) (p : ℕ → Bool) (l : ℕ) (xs : List BodyValue) (i before : ℕ) (b : BodyValue) (start old new : List CellValue) → l ≤ 21 → i < length xs → b ≡ get_or xs i b → before ≡ last_or 0 (map (front_of l) (take i xs)) → old ≡ start ++ map r (filter p (dedup eqb (map (front_of l) (take i xs)))) → new ≡ old ++ map r (filter p (unless_same (front_of l b) before)) → new ≡ start ++ map r (filter p (dedup eqb (map (front_of l) (take (i + 1) xs))))
level-more r p l xs i before b start old new h k at e f g =
    let ys : List ℕ = map (front_of l) (take i xs) in
    let y : ℕ = front_of l b in
    let more : map (front_of l) (take (i + 1) xs) ≡ ys ++ y ∷ [] = map_more (front_of l) xs i b k ∙ ap (λ (z : BodyValue). ys ++ front_of l z ∷ []) (sym at) in
    let pos : 0 < y = cell-pos y (front-cell l b h) in
    let cut : dedup eqb (map (front_of l) (take (i + 1) xs)) ≡ dedup eqb ys ++ unless_same y before = ap (dedup eqb) more ∙ (dedup-push y ys pos ∙ ap (λ (z : ℕ). dedup eqb ys ++ unless_same y z) (sym e)) in
    let kept : map r (filter p (dedup eqb (map (front_of l) (take (i + 1) xs)))) ≡ map r (filter p (dedup eqb ys)) ++ map r (filter p (unless_same y before)) =
    ap (λ (zs : List ℕ). map r (filter p zs)) cut ∙ (ap (map r) (filter-append p (dedup eqb ys) (unless_same y before)) ∙ map-append r (filter p (dedup eqb ys)) (filter p (unless_same y before))) in
    g ∙ (ap (λ (zs : List CellValue). zs ++ map r (filter p (unless_same y before))) f
    ∙ (append_assoc start (map r (filter p (dedup eqb ys))) (map r (filter p (unless_same y before)))
    ∙ ap (λ (zs : List CellValue). start ++ zs) (sym kept)))

-- the cell of the last body
pub last-more : (l : ℕ) (xs : List BodyValue) (i : ℕ) (b : BodyValue) → i < length xs → b ≡ get_or xs i b → front_of l b ≡ last_or 0 (map (front_of l) (take (i + 1) xs))
last-more l xs i b k at =
    let ys : List ℕ = map (front_of l) (take i xs) in
    let more : map (front_of l) (take (i + 1) xs) ≡ ys ++ front_of l b ∷ [] = map_more (front_of l) xs i b k ∙ ap (λ (z : BodyValue). ys ++ front_of l z ∷ []) (sym at) in
    sym (ap (last_or 0) more ∙ last-push 0 (front_of l b) ys)

-- no level yet, and one more
pub levels-none : (r : ℕ → CellValue) (p : ℕ → Bool) (xs : List BodyValue) (list : List CellValue) → list ≡ [] → list ≡ map r (filter p (cells_above xs 0))
unfolding cells_above
levels-none r p xs list e = e

-- one level more
pub levels-more : (r : ℕ → CellValue) (p : ℕ → Bool) (xs : List BodyValue) (l : ℕ) (old new : List CellValue) → old ≡ map r (filter p (cells_above xs l)) → new ≡ old ++ map r (filter p (cells_at xs l)) → new ≡ map r (filter p (cells_above xs (l + 1)))
unfolding cells_above
levels-more r p xs l old new e f =
    let s : l + 1 ≡ suc l = add-one l in
    f ∙ (ap (λ (zs : List CellValue). zs ++ map r (filter p (cells_at xs l))) e
    ∙ (sym (ap (map r) (filter-append p (cells_above xs l) (cells_at xs l)) ∙ map-append r (filter p (cells_above xs l)) (filter p (cells_at xs l)))
    ∙ ap (λ (n : ℕ). map r (filter p (cells_above xs n))) (sym s)))
