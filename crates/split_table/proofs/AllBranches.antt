-- The branches of all ranks, in the order of their keys.
use Rattle.std.proofs.Common.{ℕ, zero, suc, ◌≡◌, ◌<◌, Bool, true, false, List, map, sym, refl, ap, ◌∙◌, subst, inl, inr, arith}
use Rattle.std.specs.Prelude.{Contains, ◌||◌, ◌⊎◌}
use Rattle.std.specs.List.Sorted.{IsPermutation}
use Rattle.std.proofs.lemmas.Bool.{cases_lt}
use Rattle.std.proofs.lemmas.List.{map-id}
use Rattle.std.proofs.lemmas.Simd.{map-map}
use Rattle.hot_units.specs.Values.{CellValue}
use Rattle.hot_units.proofs.Members.{filter_has, has_filter, map_has, has_map, map_same}
use Rattle.hot_units.proofs.Sorts.{Ascends, ascends_filter, ascends_same}
use Rattle.hot_model.specs.Trees.{cell_record}
use Rattle.hot_model.specs.Cells.{cells}
use Rattle.hot_model.proofs.Cells.{cells-are, cells_ascend}
use Rattle.rank_model.specs.World.{World, IsGood, bodies_in}
use Rattle.rank_model.specs.Branches.{IsBranch, first_rank, is_branch}
use Rattle.rank_model.specs.Needs.{is_listed}
use Rattle.rank_model.proofs.Owners.{first_of_own}
use Rattle.rank_model.proofs.Counts.{test_of_branch, branch_of_test}
use Rattle.branch_merge.specs.declared.listed.Listed.{Listed}
use Rattle.branch_merge.specs.Listing.{all_listed}
use Rattle.branch_merge.specs.Laws.{branch_lists, AreTrue}
use Rattle.branch_merge.proofs.Lists.{Differ}
use Rattle.branch_merge.proofs.Listings.{listed-keys, branch_rank, branch_listed, listed_branch}
use Rattle.branch_merge.proofs.Merging.{branches_differ}
use Rattle.split_table.specs.Table.{branch_of, branch_cells}
use Rattle.split_table.specs.Steps.{AreLists, AreByKey}
use Rattle.split_table.proofs.Keyed.{keys_of, differ_permuted, keys_ascend}

-- a branch of one of the first n ranks is found by the test, and nothing else
or_cases : (a b : Bool) → (a || b) ≡ true → (a ≡ true) ⊎ (b ≡ true)
or_cases true b e = inl refl
or_cases false b e = inr e

or_true : (a : Bool) → (a || true) ≡ true
or_true true = refl
or_true false = refl

rank_found : (w : World) (n q c : ℕ) → q < n → is_branch w q c ≡ true → is_listed w n c ≡ true
rank_found w zero q c h e = absurd (omega (arith, h))
rank_found w (suc n) q c h e = elim (cases_lt q n) [
  | inl l ↦ let f : is_listed w n c ≡ true = rank_found w n q c l e in rw f refl
  | inr l ↦
      let s : q ≡ n = omega (arith, h, l) in
      let f : is_branch w n c ≡ true = subst (λ (z : ℕ). is_branch w z c ≡ true) s e in
      ap (λ (t : Bool). is_listed w n c || t) f ∙ or_true (is_listed w n c)
]

found_rank : (w : World) (n c : ℕ) → is_listed w n c ≡ true → (q : ℕ) × (is_branch w q c ≡ true)
found_rank w zero c e = absurd cc
found_rank w (suc n) c e = elim (or_cases (is_listed w n c) (is_branch w n c) e) [
  | inl f ↦ found_rank w n c f
  | inr f ↦ (n, f)
]

-- the branches of all ranks are those that some rank has
pub branch_in_cells : (w : World) (q c : ℕ) → IsGood w → IsBranch w q c → Contains (branch_cells w) c
branch_in_cells w q c g b =
    filter_has (is_listed w w.ranks) (cells w.bodies) c ((cells-are w.bodies c).1 (b.cell, b.some))
    (rank_found w w.ranks q c (branch_rank w q c g b) (test_of_branch w q c b))

-- a cell among the branches of all ranks is a branch of some rank
pub cell_is_branch : (w : World) (c : ℕ) → Contains (branch_cells w) c → (q : ℕ) × IsBranch w q c
cell_is_branch w c m =
    let f = has_filter (is_listed w w.ranks) (cells w.bodies) c m in
    let i = (cells-are w.bodies c).0 f.0 in
    let r = found_rank w w.ranks c f.1 in
    (r.0, branch_of_test w r.0 c i.0 i.1 r.1)

-- the keys of the listed records are these cells
listed_cell : (w : World) (xs : List Listed) (k : ℕ) → IsGood w → AreTrue w xs → Contains (keys_of xs) k → Contains (branch_cells w) k
listed_cell w xs k g a m =
    let x = has_map (λ (y : Listed). y.rec.key) xs k m in
    let b = listed_branch w xs x.0 a x.1 in
    let e : k ≡ b.1 = x.2 ∙ ap (λ (y : Listed). y.rec.key) b.3 in
    subst (Contains (branch_cells w)) (sym e) (branch_in_cells w b.0 b.1 g b.2)

cell_listed : (w : World) (xs : List Listed) (k : ℕ) → IsGood w → AreTrue w xs → Contains (branch_cells w) k → Contains (keys_of xs) k
cell_listed w xs k g a m =
    let b = cell_is_branch w k m in
    map_has (λ (y : Listed). y.rec.key) xs (record { rank = b.0; rec = cell_record w.bodies k }) (branch_listed w xs b.0 k g a b.1)

-- and each of them is the record of its cell with the rank of its bodies
listed_is : (w : World) (xs : List Listed) (x : Listed) → AreTrue w xs → Contains xs x → x ≡ branch_of w x.rec.key
listed_is w xs x a m =
    let b = listed_branch w xs x a m in
    let key : x.rec.key ≡ b.1 = ap (λ (y : Listed). y.rec.key) b.3 in
    let rank : first_rank w (bodies_in w b.1) ≡ b.0 = first_of_own w b.0 (bodies_in w b.1) b.2.some b.2.own in
    let whole : branch_of w b.1 ≡ record { rank = b.0; rec = cell_record w.bodies b.1 } = ap (λ (q : ℕ). record { rank = q; rec = cell_record w.bodies b.1 }) rank in
    b.3 ∙ (sym whole ∙ ap (branch_of w) (sym key))

-- so the listed records by ascending key are the branches
pub branches-by_key : (w : World) (lists : List (List CellValue)) (old new : List Listed) → AreLists w lists → old ≡ all_listed lists → AreByKey old new → new ≡ map (branch_of w) (branch_cells w)
branches-by_key w lists old new l e o =
    let same : old ≡ all_listed (branch_lists w) = e ∙ ap all_listed l.lists_are in
    let true_list : AreTrue w new = subst (λ (xs : List Listed). IsPermutation xs new) same o.same in
    let differ : Differ (keys_of (all_listed (branch_lists w))) = subst Differ (sym (listed-keys w)) (branches_differ w l.good) in
    let up : Ascends (keys_of new) = keys_ascend new o.rising (differ_permuted (all_listed (branch_lists w)) new true_list differ) in
    let keys : keys_of new ≡ branch_cells w =
    ascends_same (keys_of new) (branch_cells w) up (ascends_filter (is_listed w w.ranks) (cells w.bodies) (cells_ascend w.bodies l.good.in_order))
    (λ k m. listed_cell w new k l.good true_list m) (λ k m. cell_listed w new k l.good true_list m) in
    sym (map-id new)
    ∙ (map_same (λ (x : Listed). x) (λ (x : Listed). branch_of w x.rec.key) new (λ x m. listed_is w new x true_list m)
    ∙ (sym (map-map (branch_of w) (λ (x : Listed). x.rec.key) new) ∙ ap (map (branch_of w)) keys))
