-- What stands in the branch lists of all ranks.
use Rattle.std.proofs.Common.{ℕ, ◌≡◌, ◌<◌, List, [], ◌∷◌, ◌++◌, length, get_or, map, flat_map, sym, refl, ap, ◌∙◌, subst, arith}
use Rattle.std.specs.Prelude.{Contains}
use Rattle.std.proofs.lemmas.List.{length-map, map-append, map-id}
use Rattle.std.proofs.lemmas.List.Elements.{All-contains}
use Rattle.std.proofs.lemmas.Simd.{map-map}
use Rattle.std.proofs.lemmas.List.Sorted.{Contains-permutation, IsPermutation-sym}
use Rattle.hot_units.specs.Values.{BodyValue, CellValue}
use Rattle.hot_units.specs.Numbers.{numbers_below}
use Rattle.hot_units.proofs.Members.{map_has, has_map, flat_has, has_flat, some_member, flat_same}
use Rattle.hot_units.proofs.Sorts.{below_has, has_below}
use Rattle.hot_model.specs.Trees.{cell_record}
use Rattle.hot_model.proofs.Parts.{has_inside}
use Rattle.rank_model.specs.World.{World, rank_of, bodies_in, IsGood}
use Rattle.rank_model.specs.Branches.{IsBranch, branches, branch_records, all_branches, all_records}
use Rattle.rank_model.proofs.Owners.{rank_in_own}
use Rattle.rank_model.proofs.Counts.{branches-are}
use Rattle.branch_merge.specs.declared.listed.Listed.{Listed}
use Rattle.branch_merge.specs.Listing.{of_rank, all_listed, records}
use Rattle.branch_merge.specs.Laws.{branch_lists, AreTrue}
use Rattle.branch_merge.proofs.Lists.{length-below, item-at}

-- what the list of rank q has of a branch k
abbrev pub listing : World → ℕ → ℕ → Listed
listing w q k = record { rank = q; rec = cell_record w.bodies k }

-- the listed records of rank q
abbrev listings : World → ℕ → List Listed
listings w q = of_rank q (branch_records w q)

-- there is one list for each rank
pub lists-length : (w : World) → length (branch_lists w) ≡ w.ranks
lists-length w = length-map (numbers_below w.ranks) (branch_records w) ∙ length-below w.ranks

-- the list at place q is that of rank q
listings-joined : (w : World) → all_listed (branch_lists w) ≡ flat_map (listings w) (numbers_below w.ranks)
listings-joined w =
    ap (λ (n : ℕ). flat_map (λ q. of_rank q (get_or (branch_lists w) q [])) (numbers_below n)) (lists-length w)
    ∙ flat_same (λ q. of_rank q (get_or (branch_lists w) q [])) (listings w) (numbers_below w.ranks)
    (λ q m. ap (of_rank q) (item-at (branch_records w) [] w.ranks q (has_below w.ranks q m)))

-- without their ranks they are the records of the branches of these ranks
records_of : (w : World) (qs : List ℕ) → records (flat_map (listings w) qs) ≡ map (cell_record w.bodies) (flat_map (branches w) qs)
records_of w [] = refl
records_of w (q ∷ qs) =
    let first : records (listings w q) ≡ branch_records w q = map-map (λ (x : Listed). x.rec) (λ (r : CellValue). record { rank = q; rec = r }) (branch_records w q) ∙ map-id (branch_records w q) in
    map-append (λ (x : Listed). x.rec) (listings w q) (flat_map (listings w) qs)
    ∙ (ap (λ (rs : List CellValue). rs ++ records (flat_map (listings w) qs)) first
    ∙ (ap (λ (rs : List CellValue). branch_records w q ++ rs) (records_of w qs)
    ∙ sym (map-append (cell_record w.bodies) (branches w q) (flat_map (branches w) qs))))

-- so all of them are the records of all branches
pub listed-records : (w : World) → records (all_listed (branch_lists w)) ≡ all_records w
listed-records w = ap records (listings-joined w) ∙ records_of w (numbers_below w.ranks)

-- and their keys are all branches
pub listed-keys : (w : World) → map (λ (x : Listed). x.rec.key) (all_listed (branch_lists w)) ≡ all_branches w
listed-keys w =
    sym (map-map (λ (r : CellValue). r.key) (λ (x : Listed). x.rec) (all_listed (branch_lists w)))
    ∙ (ap (map (λ (r : CellValue). r.key)) (listed-records w)
    ∙ (map-map (λ (r : CellValue). r.key) (cell_record w.bodies) (all_branches w) ∙ map-id (all_branches w)))

-- the rank of a branch is one of the world
pub branch_rank : (w : World) (q k : ℕ) → IsGood w → IsBranch w q k → q < w.ranks
branch_rank w q k g x =
    let m = some_member (bodies_in w k) x.some in
    let e : rank_of w m.0 ≡ q = rank_in_own w q k m.0 x.own m.1 in
    let l : rank_of w m.0 < w.ranks = All-contains (λ (b : BodyValue). rank_of w b < w.ranks) w.bodies m.0 g.ranked (has_inside w.bodies k m.0 m.1).0 in
    omega (arith, e, l)

-- each branch is listed
branch_stands : (w : World) (q k : ℕ) → IsGood w → IsBranch w q k → Contains (all_listed (branch_lists w)) (listing w q k)
branch_stands w q k g x =
    let here : Contains (branch_records w q) (cell_record w.bodies k) = map_has (cell_record w.bodies) (branches w q) k ((branches-are w q k).1 x) in
    let one : Contains (listings w q) (listing w q k) = map_has (λ (r : CellValue). record { rank = q; rec = r }) (branch_records w q) (cell_record w.bodies k) here in
    subst (λ (xs : List Listed). Contains xs (listing w q k)) (sym (listings-joined w))
    (flat_has (listings w) (numbers_below w.ranks) q (listing w q k) (below_has w.ranks q (branch_rank w q k g x)) one)

-- the record of a branch, with its rank
abbrev pub IsListing : World → Listed → Type 0
IsListing w x = (q : ℕ) × (k : ℕ) × IsBranch w q k × (x ≡ listing w q k)

-- nothing else is listed
stands_branch : (w : World) (x : Listed) → Contains (all_listed (branch_lists w)) x → IsListing w x
stands_branch w x h =
    let f = has_flat (listings w) (numbers_below w.ranks) x (subst (λ (xs : List Listed). Contains xs x) (listings-joined w) h) in
    let r = has_map (λ (r : CellValue). record { rank = f.0; rec = r }) (branch_records w f.0) x f.2 in
    let k = has_map (cell_record w.bodies) (branches w f.0) r.0 r.1 in
    (f.0, k.0, (branches-are w f.0 k.0).0 k.1, r.2 ∙ ap (λ (v : CellValue). record { rank = f.0; rec = v }) k.2)

-- each branch is listed, in whatever order
pub branch_listed : (w : World) (xs : List Listed) (q k : ℕ) → IsGood w → AreTrue w xs → IsBranch w q k → Contains xs (listing w q k)
branch_listed w xs q k g a x = Contains-permutation (all_listed (branch_lists w)) xs (listing w q k) a (branch_stands w q k g x)

-- and nothing else is
pub listed_branch : (w : World) (xs : List Listed) (x : Listed) → AreTrue w xs → Contains xs x → IsListing w x
listed_branch w xs x a h = stands_branch w x (Contains-permutation xs (all_listed (branch_lists w)) x (IsPermutation-sym (all_listed (branch_lists w)) xs a) h)
