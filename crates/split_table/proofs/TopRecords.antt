-- The records of the top cells, one after another.
use Rattle.std.proofs.Common.{ℕ, ◌≡◌, ◌+◌, ◌*◌, ◌<◌, ◌≤◌, List, [], ◌∷◌, ◌++◌, length, take, get_or, map, not, refl, sym, ap, ◌∙◌, subst, arith, take_all}
use Rattle.std.specs.List.Sorted.{IsPermutation}
use Rattle.std.proofs.lemmas.List.{map_more}
use Rattle.std.proofs.lemmas.List.Elements.{Contains-get_or}
use Rattle.std.proofs.lemmas.List.Filters.{length-filter_both}
use Rattle.hot_units.specs.Limits.{max_bodies}
use Rattle.hot_units.specs.Values.{CellValue}
use Rattle.hot_model.specs.Trees.{cell_record}
use Rattle.hot_model.specs.Cells.{cells}
use Rattle.hot_model.proofs.Cells.{cells_short}
use Rattle.rank_model.specs.World.{World}
use Rattle.rank_model.specs.Branches.{IsTop, is_top, tops, joined_record}
use Rattle.rank_model.proofs.Counts.{tops-are}
use Rattle.branch_merge.specs.declared.listed.Listed.{Listed}
use Rattle.branch_merge.specs.Listing.{all_listed, records}
use Rattle.branch_merge.specs.Tops.{AreTops}
use Rattle.branch_merge.specs.Laws.{AreTrue, IsTrueTop}
use Rattle.branch_merge.proofs.TrueTops.{merged_is_true}
use Rattle.split_table.specs.Steps.{AreLists}

-- what is merged from the branch lists is true
pub merged_true : (w : World) (lists : List (List CellValue)) (xs : List Listed) → AreLists w lists → IsPermutation (all_listed lists) xs → IsTrueTop w xs
merged_true w lists xs l p =
    let t : AreTrue w xs = subst (λ (ls : List (List CellValue)). IsPermutation (all_listed ls) xs) l.lists_are p in
    merged_is_true w xs l.good t

-- the most top cells that a good world has
abbrev pub most_tops : ℕ
most_tops = 22 * max_bodies

-- the keys of the top cells are so many at most
pub keys_short : (w : World) (lists : List (List CellValue)) (xs : List Listed) (keys : List ℕ) → AreLists w lists → IsPermutation (all_listed lists) xs → AreTops xs keys → length keys ≤ most_tops
keys_short w lists xs keys l p t =
    let true_top = merged_true w lists xs l p in
    let both = length-filter_both (is_top w) (λ c. not (is_top w c)) (λ c. refl) (cells w.bodies) in
    omega (arith, ap length (true_top.keys keys t), both, cells_short w.bodies, l.good.few)

-- the records of the first so many top cells
abbrev pub first_records : World → ℕ → List CellValue
first_records w n = map (cell_record w.bodies) (take n (tops w))

-- one more
pub records-next : (w : World) (lists : List (List CellValue)) (xs : List Listed) (keys : List ℕ) (n : ℕ) (r : CellValue) (now new : List CellValue) → AreLists w lists → IsPermutation (all_listed lists) xs → AreTops xs keys → n < length keys → r ≡ joined_record (get_or keys n 0) (records xs) → now ≡ first_records w n → new ≡ now ++ r ∷ [] → new ≡ first_records w (n + 1)
records-next w lists xs keys n r now new l p t h at before added =
    let true_top = merged_true w lists xs l p in
    let same : keys ≡ tops w = true_top.keys keys t in
    let within : n < length (tops w) = omega (arith, h, ap length same) in
    let k = get_or (tops w) n 0 in
    let top : IsTop w k = (tops-are w k).0 (Contains-get_or (tops w) n 0 within) in
    let rec : r ≡ cell_record w.bodies k = at ∙ (ap (λ (ks : List ℕ). joined_record (get_or ks n 0) (records xs)) same ∙ true_top.sums k top) in
    added
    ∙ (ap (λ (rs : List CellValue). rs ++ r ∷ []) before
    ∙ (ap (λ (v : CellValue). first_records w n ++ v ∷ []) rec
    ∙ sym (map_more (cell_record w.bodies) (tops w) n 0 within)))

-- past the last key there are all
pub records-all : (w : World) (lists : List (List CellValue)) (xs : List Listed) (keys : List ℕ) (n : ℕ) → AreLists w lists → IsPermutation (all_listed lists) xs → AreTops xs keys → length keys ≤ n → first_records w n ≡ map (cell_record w.bodies) (tops w)
records-all w lists xs keys n l p t h =
    let true_top = merged_true w lists xs l p in
    ap (map (cell_record w.bodies)) (take_all n (tops w) (omega (arith, h, ap length (true_top.keys keys t))))
