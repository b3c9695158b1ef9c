-- What is merged from the true branch lists is the top of the tree over all bodies.
use Rattle.std.proofs.Common.{ℕ, ◌≡◌, ◌<◌, Bool, true, false, cond, not, List, [], ◌∷◌, ◌++◌, length, map, filter, flat_map, option_to_list, sym, refl, ap, ◌∙◌, subst, inl, inr, arith, Some, None}
use Rattle.std.specs.Prelude.{Contains, ◌↔◌, ◌⊎◌, if◌then◌else◌}
use Rattle.std.specs.List.Sorted.{IsPermutation}
use Rattle.std.proofs.lemmas.Bool.{true≢false, false_from_ne_true}
use Rattle.std.proofs.lemmas.List.Sorted.{IsPermutation-map}
use Rattle.hot_units.specs.Values.{CellValue}
use Rattle.hot_units.specs.Keys.{IsCell, covers, child, digits}
use Rattle.hot_units.proofs.Members.{head_has, tail_has, map_has, has_map, has_filter, any_has, has_any, have_digits, has_length, some_member}
use Rattle.hot_units.proofs.Sorts.{ascends_same}
use Rattle.hot_model.specs.Trees.{cell_record, is_empty, record_at}
use Rattle.hot_model.proofs.Fronts.{covers-self, child_cell}
use Rattle.hot_model.proofs.Orders.{same_cell}
use Rattle.hot_model.proofs.Walks.{some_length, full_length}
use Rattle.rank_model.specs.World.{World, bodies_in, IsGood}
use Rattle.rank_model.specs.Branches.{IsBranch, IsTop, IsOwner, branches, tops, branch_records, joined_record}
use Rattle.rank_model.specs.Needs.{IsAbove}
use Rattle.rank_model.specs.Answers.{child_records}
use Rattle.rank_model.proofs.Owners.{covered_has, top_is_high, child_of_top}
use Rattle.rank_model.proofs.Counts.{branches-are, tops-are, tops_ascend, tops-above, top-record}
use Rattle.branch_merge.specs.declared.listed.Listed.{Listed}
use Rattle.branch_merge.specs.Listing.{all_listed, records}
use Rattle.branch_merge.specs.Tops.{IsTopOf, IsOwnerIn, has_listed, children_of, AreTops}
use Rattle.branch_merge.specs.Laws.{branch_lists, AreTrue, MergedIsTrue}
use Rattle.branch_merge.proofs.Lists.{sum-kept, strict_ascends}
use Rattle.branch_merge.proofs.Listings.{listing, listed-records, branch_listed, listed_branch}

-- the cells above listed records are the top cells
true_tops : (w : World) (xs : List Listed) (c : ℕ) → IsGood w → AreTrue w xs → IsTopOf xs c ↔ IsTop w c
true_tops w xs c g a = (to, from)
  where
    to : IsTopOf xs c → IsTop w c
    to h =
        let b = listed_branch w xs h.1.0 a h.1.1 in
        (tops-above w c h.0).1 (b.0, b.1, b.2, subst (λ (x : Listed). IsAbove c x.rec.key) b.3 h.1.2)

    from : IsTop w c → IsTopOf xs c
    from t =
        let r = (tops-above w c t.cell).0 t in
        (t.cell, (listing w r.0 r.1, branch_listed w xs r.0 r.1 g a r.2, r.3))

-- a joined record does not depend on the order
joined-kept : (c : ℕ) (rs ss : List CellValue) → IsPermutation rs ss → joined_record c ss ≡ joined_record c rs
joined-kept c rs ss h =
    same_cell _ _ refl
    (sum-kept (λ r. r.count) (λ r. covers c r.key) rs ss h)
    (sum-kept (λ r. r.mass) (λ r. covers c r.key) rs ss h)
    (sum-kept (λ r. r.sx) (λ r. covers c r.key) rs ss h)
    (sum-kept (λ r. r.sy) (λ r. covers c r.key) rs ss h)
    (sum-kept (λ r. r.sz) (λ r. covers c r.key) rs ss h)
    (sum-kept (λ r. r.sxx) (λ r. covers c r.key) rs ss h)
    (sum-kept (λ r. r.syy) (λ r. covers c r.key) rs ss h)
    (sum-kept (λ r. r.szz) (λ r. covers c r.key) rs ss h)
    (sum-kept (λ r. r.sxy) (λ r. covers c r.key) rs ss h)
    (sum-kept (λ r. r.sxz) (λ r. covers c r.key) rs ss h)
    (sum-kept (λ r. r.syz) (λ r. covers c r.key) rs ss h)

-- the record of a top cell is joined from the listed ones
true_sums : (w : World) (xs : List Listed) (c : ℕ) → IsGood w → AreTrue w xs → IsTop w c → joined_record c (records xs) ≡ cell_record w.bodies c
true_sums w xs c g a t =
    joined-kept c (records (all_listed (branch_lists w))) (records xs) (IsPermutation-map (λ (x : Listed). x.rec) (all_listed (branch_lists w)) xs a)
    ∙ (ap (joined_record c) (listed-records w) ∙ top-record w c g t)

-- a cell with a listed record in it has bodies
listed_bodies : (w : World) (xs : List Listed) (c : ℕ) → AreTrue w xs → IsCell c → has_listed xs c ≡ true → 0 < length (bodies_in w c)
listed_bodies w xs c a i h =
    let x = any_has (λ (x : Listed). covers c x.rec.key) xs h in
    let b = listed_branch w xs x.0 a x.1 in
    let e : covers c b.1 ≡ true = subst (λ (z : Listed). covers c z.rec.key ≡ true) b.3 x.2 in
    let m = some_member (bodies_in w b.1) b.2.some in
    has_length (bodies_in w c) m.0 (covered_has w c b.1 m.0 i b.2.cell e m.1)

-- a branch or a top cell has a listed record in it
part_listed : (w : World) (xs : List Listed) (c : ℕ) → IsGood w → AreTrue w xs → ((q : ℕ) × IsBranch w q c) ⊎ IsTop w c → has_listed xs c ≡ true
part_listed w xs c g a (inl b) =
    let i = b.1.cell in
    has_any (λ (x : Listed). covers c x.rec.key) xs (listing w b.0 c) (branch_listed w xs b.0 c g a b.1) (covers-self c i.0 i.1 i.2)
part_listed w xs c g a (inr t) =
    let r = (tops-above w c t.cell).0 t in
    has_any (λ (x : Listed). covers c x.rec.key) xs (listing w r.0 r.1) (branch_listed w xs r.0 r.1 g a r.2) r.3.0

-- a child of a top cell is a cell, and, where it has bodies, a branch or a top cell
record IsPart (w : World) (c d : ℕ) : Type 0 where
  cell : IsCell (child c d)
  part : 0 < length (bodies_in w (child c d)) → ((q : ℕ) × IsBranch w q (child c d)) ⊎ IsTop w (child c d)

-- each of the eight children is such a one
part_is : (w : World) (c d : ℕ) → IsTop w c → d < 8 → IsPart w c d
part_is w c d t k =
    let i = t.cell in
    let high = top_is_high w c i.0 i.1 i.2 t in
    record {
      cell = child_cell c d i.0 (omega (arith, high)) i.2 k;
      part = child_of_top w c i.0 d (omega (arith, high)) i.2 k t;
    }

-- a child of a top cell has a listed record in it where it has bodies
child_listed : (w : World) (xs : List Listed) (c d : ℕ) → IsGood w → AreTrue w xs → IsTop w c → d < 8 → has_listed xs (child c d) ≡ not (is_empty (bodies_in w (child c d)))
child_listed w xs c d g a t k = by_test (is_empty (bodies_in w (child c d))) refl
  where
    by_test : (e : Bool) → is_empty (bodies_in w (child c d)) ≡ e → has_listed xs (child c d) ≡ not e
    by_test false f =
        let p = part_is w c d t k in
        part_listed w xs (child c d) g a (p.part (some_length (bodies_in w (child c d)) f))
    by_test true f =
        false_from_ne_true (has_listed xs (child c d))
        (λ h. (
        let s = listed_bodies w xs (child c d) a (part_is w c d t k).cell h in
        let e : is_empty (bodies_in w (child c d)) ≡ false = full_length (bodies_in w (child c d)) s in
        true≢false (sym f ∙ e)))

-- the children with listed records in them are those with bodies
kept_children : (w : World) (p : ℕ → Bool) (c : ℕ) (ds : List ℕ) → ((d : ℕ) → Contains ds d → p (child c d) ≡ not (is_empty (bodies_in w (child c d)))) → filter p (map (child c) ds) ≡ map (λ (r : CellValue). r.key) (flat_map (λ d. option_to_list (record_at w.bodies (child c d))) ds)
kept_children w p c [] h = refl
kept_children w p c (d ∷ ds) h =
    let rest = kept_children w p c ds (λ j m. h j (tail_has d ds j m)) in
    let here : p (child c d) ≡ not (is_empty (bodies_in w (child c d))) = h d (head_has d ds) in
    rw here (by_test (is_empty (bodies_in w (child c d))) rest)
  where
    later : List CellValue
    later = flat_map (λ d. option_to_list (record_at w.bodies (child c d))) ds

    by_test : (e : Bool) → filter p (map (child c) ds) ≡ map (λ (r : CellValue). r.key) later → cond (not e) (child c d ∷ filter p (map (child c) ds)) (filter p (map (child c) ds)) ≡ map (λ (r : CellValue). r.key) (option_to_list (if e then None else Some (cell_record w.bodies (child c d))) ++ later)
    by_test true r = r
    by_test false r = ap (λ (ks : List ℕ). child c d ∷ ks) r

-- so the children of a top cell are those that have bodies
true_children : (w : World) (xs : List Listed) (c : ℕ) → IsGood w → AreTrue w xs → IsTop w c → children_of xs c ≡ map (λ (r : CellValue). r.key) (child_records w c)
true_children w xs c g a t = kept_children w (has_listed xs) c digits (λ d m. child_listed w xs c d g a t (have_digits d m))

-- each of them is a top cell or a branch
true_parts : (w : World) (xs : List Listed) (c k : ℕ) → AreTrue w xs → IsTop w c → Contains (children_of xs c) k → IsTop w k ⊎ ((q : ℕ) × IsBranch w q k)
true_parts w xs c k a t h =
    let f = has_filter (has_listed xs) (map (child c) digits) k h in
    let d = has_map (child c) digits k f.0 in
    let p = part_is w c d.0 t (have_digits d.0 d.1) in
    let l : has_listed xs (child c d.0) ≡ true = subst (λ (z : ℕ). has_listed xs z ≡ true) d.2 f.1 in
    subst (λ (z : ℕ). IsTop w z ⊎ ((q : ℕ) × IsBranch w q z)) (sym d.2)
    (elim (p.part (listed_bodies w xs (child c d.0) a p.cell l)) [
      | inl b ↦ inr b
      | inr u ↦ inl u
    ])

-- the listed records of a rank are those of its list
true_branches : (w : World) (xs : List Listed) (q : ℕ) (r : CellValue) → IsGood w → AreTrue w xs → Contains xs (record { rank = q; rec = r }) ↔ Contains (branch_records w q) r
true_branches w xs q r g a = (to, from)
  where
    to : Contains xs (record { rank = q; rec = r }) → Contains (branch_records w q) r
    to h =
        let b = listed_branch w xs (record { rank = q; rec = r }) a h in
        let rank : q ≡ b.0 = ap (λ (x : Listed). x.rank) b.3 in
        let rec : r ≡ cell_record w.bodies b.1 = ap (λ (x : Listed). x.rec) b.3 in
        let x : IsBranch w q b.1 = subst (λ (z : ℕ). IsBranch w z b.1) (sym rank) b.2 in
        subst (Contains (branch_records w q)) (sym rec) (map_has (cell_record w.bodies) (branches w q) b.1 ((branches-are w q b.1).1 x))

    from : Contains (branch_records w q) r → Contains xs (record { rank = q; rec = r })
    from h =
        let k = has_map (cell_record w.bodies) (branches w q) r h in
        subst (λ (v : CellValue). Contains xs (record { rank = q; rec = v })) (sym k.2) (branch_listed w xs q k.0 g a ((branches-are w q k.0).0 k.1))

-- the listed owners are the owners
true_owners : (w : World) (xs : List Listed) (q c : ℕ) → IsGood w → AreTrue w xs → IsOwnerIn xs q c ↔ IsOwner w q c
true_owners w xs q c g a = (to, from)
  where
    to : IsOwnerIn xs q c → IsOwner w q c
    to h =
        let b = listed_branch w xs h.0 a h.1 in
        let rank : b.0 ≡ q = sym (ap (λ (x : Listed). x.rank) b.3) ∙ h.2 in
        (b.1, subst (λ (z : ℕ). IsBranch w z b.1) rank b.2, subst (λ (x : Listed). covers x.rec.key c ≡ true) b.3 h.3)

    from : IsOwner w q c → IsOwnerIn xs q c
    from o = (listing w q o.0, branch_listed w xs q o.0 g a o.1, refl, o.2)

-- the keys of all cells above listed records are the top cells, in their order
true_keys : (w : World) (xs : List Listed) (keys : List ℕ) → IsGood w → AreTrue w xs → AreTops xs keys → keys ≡ tops w
true_keys w xs keys g a t =
    ascends_same keys (tops w) (strict_ascends keys t.ascend) (tops_ascend w g)
    (λ c m. (tops-are w c).1 ((true_tops w xs c g a).0 ((t.all c).0 m)))
    (λ c m. (t.all c).1 ((true_tops w xs c g a).1 ((tops-are w c).0 m)))

-- so all that is merged is true
pub merged_is_true : MergedIsTrue
merged_is_true w xs g a = record {
  tops = (λ c. true_tops w xs c g a);
  sums = (λ c t. true_sums w xs c g a t);
  children = (λ c t. true_children w xs c g a t);
  parts = (λ c k t m. true_parts w xs c k a t m);
  branches = (λ q r. true_branches w xs q r g a);
  owners = (λ q c i. true_owners w xs q c g a);
  keys = (λ keys t. true_keys w xs keys g a t);
}
