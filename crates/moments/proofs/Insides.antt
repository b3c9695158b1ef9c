-- The bodies of a cell met so far: how many, and their mass.
use Rattle.std.proofs.Common.{ℕ, ◌≡◌, ◌+◌, ◌<◌, ◌≤◌, ◌^◌, Bool, true, cond, List, [], ◌∷◌, ◌++◌, length, filter, take, drop, get_or, sum_by, sym, refl, ap, ◌∙◌, arith}
use Rattle.std.proofs.lemmas.List.{take-append-drop, length-take}
use Rattle.std.proofs.lemmas.List.Elements.{filter_more, filter-append}
use Rattle.std.proofs.lemmas.List.Sums.{sum_by-append, length-filter, count_by-le-length}
use Rattle.hot_units.specs.Limits.{max_all_mass}
use Rattle.hot_units.specs.Values.{BodyValue, CellValue}
use Rattle.hot_units.specs.Keys.{IsCell, level, covers, contains}
use Rattle.hot_units.specs.Bodies.{mass_of, mass_of_body}
use Rattle.hot_units.proofs.Digits.{level-le, level-has}
use Rattle.hot_model.specs.Trees.{inside, record_of, cell_record}
use Rattle.hot_model.proofs.Fronts.{covers-self}

-- one more body of the cell: the count stays small
pub few-more : (c : ℕ) (xs : List BodyValue) (i : ℕ) (b : BodyValue) (r s : CellValue) → length xs < 2 ^ 32 → i < length xs → r ≡ cell_record (take i xs) c → s ≡ record_of c (b ∷ []) → r.count + s.count < 2 ^ 32
few-more c xs i b r s h l e f =
    let m : r.count ≡ length (filter (contains c) (take i xs)) = ap (λ (v : CellValue). v.count) e in
    let n : s.count ≡ 1 = ap (λ (v : CellValue). v.count) f in
    let k = length-filter (contains c) (take i xs) in
    let o = count_by-le-length (contains c) (take i xs) in
    omega (arith, m, n, k, o, length-take i xs)

-- what is summed over the bodies of a cell among the first n is at most that over all
sum-front : (f : BodyValue → ℕ) (p : BodyValue → Bool) (n : ℕ) (xs : List BodyValue) → sum_by f (filter p (take n xs)) ≤ sum_by f (filter p xs)
sum-front f p n xs =
    let e : filter p (take n xs ++ drop n xs) ≡ filter p xs = ap (filter p) (take-append-drop n xs) in
    let g : filter p (take n xs ++ drop n xs) ≡ filter p (take n xs) ++ filter p (drop n xs) = filter-append p (take n xs) (drop n xs) in
    let h : sum_by f (filter p xs) ≡ sum_by f (filter p (take n xs)) + sum_by f (filter p (drop n xs)) = ap (sum_by f) (sym e ∙ g) ∙ sum_by-append f (filter p (take n xs)) (filter p (drop n xs)) in
    omega (arith, h)

-- and the mass
pub light-more : (c : ℕ) (xs : List BodyValue) (i : ℕ) (b : BodyValue) (r s : CellValue) → mass_of (inside xs c) ≤ max_all_mass → i < length xs → b ≡ get_or xs i b → contains c b ≡ true → r ≡ cell_record (take i xs) c → s ≡ record_of c (b ∷ []) → r.mass + s.mass ≤ max_all_mass
light-more c xs i b r s h l at t e f =
    let m : r.mass ≡ mass_of (inside (take i xs) c) = ap (λ (v : CellValue). v.mass) e in
    let n : s.mass ≡ mass_of (b ∷ []) = ap (λ (v : CellValue). v.mass) f in
    let more : inside (take (i + 1) xs) c ≡ inside (take i xs) c ++ b ∷ [] =
    filter_more (contains c) xs i b l
    ∙ ap (λ (z : BodyValue). inside (take i xs) c ++ cond (contains c z) (z ∷ []) []) (sym at)
    ∙ ap (λ (u : Bool). inside (take i xs) c ++ cond u (b ∷ []) []) t in
    let sum : mass_of (inside (take (i + 1) xs) c) ≡ mass_of (inside (take i xs) c) + mass_of (b ∷ []) = ap mass_of more ∙ sum_by-append mass_of_body (inside (take i xs) c) (b ∷ []) in
    let top = sum-front mass_of_body (contains c) (i + 1) xs in
    omega (arith, m, n, sum, top, h)

-- both records are of the cell
pub same-covers : (c i : ℕ) (xs : List BodyValue) (b : BodyValue) (r s : CellValue) → IsCell c → r ≡ cell_record (take i xs) c → s ≡ record_of c (b ∷ []) → covers r.key s.key ≡ true
same-covers c i xs b r s h e f =
    let m : r.key ≡ c = ap (λ (v : CellValue). v.key) e in
    let n : s.key ≡ c = ap (λ (v : CellValue). v.key) f in
    rw (m, n) (covers-self c (level c) (level-le c h) (level-has c h))
