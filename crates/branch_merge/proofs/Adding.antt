-- The record of a cell added up, and its children.
use Rattle.std.proofs.Common.{ℕ, ◌≡◌, ◌+◌, ◌<◌, ◌≤◌, ◌^◌, Bool, true, false, cond, List, [], ◌∷◌, ◌++◌, length, take, map, filter, get_or, sum_by, sym, refl, ap, ◌∙◌, subst, arith}
use Rattle.std.specs.Prelude.{Contains, ◌-◌, slice_range}
use Rattle.std.specs.List.{list_any}
use Rattle.std.proofs.lemmas.List.{take_more, map-append, append-nil, length-map, length-take, length-drop}
use Rattle.std.proofs.lemmas.List.Elements.{filter-append}
use Rattle.std.proofs.lemmas.List.Sums.{sum_by_more, sum_by_more_le, sum_by-cons, length-filter, count_by-le-length}
use Rattle.hot_units.specs.Limits.{max_all_mass}
use Rattle.hot_units.specs.Values.{CellValue}
use Rattle.hot_units.specs.Keys.{IsCell, covers, child, digits}
use Rattle.hot_units.proofs.Members.{filter_same, filter_has, has_filter, has_length, some_member, any_has, has_any, has_map, have_digits}
use Rattle.hot_model.proofs.Parts.{digits-at}
use Rattle.hot_model.proofs.Fronts.{covers-trans}
use Rattle.hot_model.proofs.Orders.{same_cell}
use Rattle.rank_model.specs.Branches.{joined_record}
use Rattle.moments.specs.Sums.{joined}
use Rattle.branch_merge.specs.declared.listed.Listed.{Listed}
use Rattle.branch_merge.specs.Listing.{records}
use Rattle.branch_merge.specs.Tops.{has_listed, children_of}
use Rattle.branch_merge.specs.Merged.{AreCells, AreBelow, AreLight, sums_of}

-- one more record added
pub sums_more : (c : ℕ) (xs : List Listed) (i : ℕ) (x : Listed) (r s : CellValue) → i < length xs → x ≡ get_or xs i x → r ≡ sums_of c (take i xs) → s ≡ joined r x.rec → s ≡ sums_of c (take (i + 1) xs)
sums_more c xs i x r s l at e f =
    let more : (g : Listed → ℕ) → sum_by g (take i xs) + g x ≡ sum_by g (take (i + 1) xs) = λ g. sym (sum_by_more g xs i x l ∙ ap (λ (y : Listed). sum_by g (take i xs) + g y) (sym at)) in
    f
    ∙ (ap (λ (q : CellValue). joined q x.rec) e
    ∙ same_cell _ _ refl (more (λ y. y.rec.count)) (more (λ y. y.rec.mass))
    (more (λ y. y.rec.sx)) (more (λ y. y.rec.sy)) (more (λ y. y.rec.sz)) (more (λ y. y.rec.sxx)) (more (λ y. y.rec.syy)) (more (λ y. y.rec.szz)) (more (λ y. y.rec.sxy)) (more (λ y. y.rec.sxz)) (more (λ y. y.rec.syz)))

-- it is within the limits
pub adds_few : (c : ℕ) (xs : List Listed) (i : ℕ) (x : Listed) (r : CellValue) → AreLight xs → i < length xs → x ≡ get_or xs i x → r ≡ sums_of c (take i xs) → r.count + x.rec.count < 2 ^ 32
adds_few c xs i x r h l at e =
    let n : r.count ≡ sum_by (λ (y : Listed). y.rec.count) (take i xs) = ap (λ (q : CellValue). q.count) e in
    let m : x.rec.count ≡ (get_or xs i x).rec.count = ap (λ (y : Listed). y.rec.count) at in
    omega (arith, n, m, sum_by_more_le (λ (y : Listed). y.rec.count) xs i x l, h.counted)

-- the mass too
pub adds_light : (c : ℕ) (xs : List Listed) (i : ℕ) (x : Listed) (r : CellValue) → AreLight xs → i < length xs → x ≡ get_or xs i x → r ≡ sums_of c (take i xs) → r.mass + x.rec.mass ≤ max_all_mass
adds_light c xs i x r h l at e =
    let n : r.mass ≡ sum_by (λ (y : Listed). y.rec.mass) (take i xs) = ap (λ (q : CellValue). q.mass) e in
    let m : x.rec.mass ≡ (get_or xs i x).rec.mass = ap (λ (y : Listed). y.rec.mass) at in
    omega (arith, n, m, sum_by_more_le (λ (y : Listed). y.rec.mass) xs i x l, h.light)

-- the record lies in the cell
pub adds_below : (c : ℕ) (xs : List Listed) (i : ℕ) (x : Listed) (r : CellValue) → AreBelow c xs → i < length xs → x ≡ get_or xs i x → r ≡ sums_of c (take i xs) → covers r.key x.rec.key ≡ true
adds_below c xs i x r h l at e =
    let n : r.key ≡ c = ap (λ (q : CellValue). q.key) e in
    let m : x.rec.key ≡ (get_or xs i x).rec.key = ap (λ (y : Listed). y.rec.key) at in
    rw (n, m) (h i x l).0

-- a part is within the limits of the whole
sum_part : (f : Listed → ℕ) (p : Listed → Bool) (xs : List Listed) → sum_by f (filter p xs) ≤ sum_by f xs
sum_part f p [] = omega arith
sum_part f p (x ∷ xs) = by_test (p x) (sum_part f p xs)
  where
    by_test : (t : Bool) → sum_by f (filter p xs) ≤ sum_by f xs → sum_by f (cond t (x ∷ filter p xs) (filter p xs)) ≤ sum_by f (x ∷ xs)
    by_test true h = omega (arith, h, sum_by-cons f x (filter p xs), sum_by-cons f x xs)
    by_test false h = omega (arith, h, sum_by-cons f x xs)

-- so a part of light records is light
pub light_part : (p : Listed → Bool) (xs : List Listed) → AreLight xs → AreLight (filter p xs)
light_part p xs h = record {
  counted = omega (arith, sum_part (λ x. x.rec.count) p xs, h.counted);
  light = omega (arith, sum_part (λ x. x.rec.mass) p xs, h.light);
}

-- the sums of the listed records in a cell are those of the records without ranks
sum_records : (f : CellValue → ℕ) (c : ℕ) (xs : List Listed) → sum_by (λ x. f x.rec) (filter (λ x. covers c x.rec.key) xs) ≡ sum_by f (filter (λ r. covers c r.key) (records xs))
sum_records f c [] = refl
sum_records f c (x ∷ xs) = by_test (covers c x.rec.key) (sum_records f c xs)
  where
    own : List Listed
    own = filter (λ y. covers c y.rec.key) xs

    bare : List CellValue
    bare = filter (λ r. covers c r.key) (records xs)

    by_test : (t : Bool) → sum_by (λ y. f y.rec) (filter (λ y. covers c y.rec.key) xs) ≡ sum_by f (filter (λ r. covers c r.key) (records xs)) → sum_by (λ y. f y.rec) (cond t (x ∷ filter (λ y. covers c y.rec.key) xs) (filter (λ y. covers c y.rec.key) xs)) ≡ sum_by f (cond t (x.rec ∷ filter (λ r. covers c r.key) (records xs)) (filter (λ r. covers c r.key) (records xs)))
    by_test true h = sum_by-cons (λ (y : Listed). f y.rec) x (filter (λ y. covers c y.rec.key) xs) ∙ (ap (λ (n : ℕ). f x.rec + n) h ∙ sym (sum_by-cons f x.rec (filter (λ r. covers c r.key) (records xs))))
    by_test false h = h

-- and so is the record that they make
pub sums_joined : (c : ℕ) (xs : List Listed) → sums_of c (filter (λ x. covers c x.rec.key) xs) ≡ joined_record c (records xs)
sums_joined c xs =
    same_cell _ _ refl (sum_records (λ r. r.count) c xs) (sum_records (λ r. r.mass) c xs)
    (sum_records (λ r. r.sx) c xs) (sum_records (λ r. r.sy) c xs) (sum_records (λ r. r.sz) c xs)
    (sum_records (λ r. r.sxx) c xs) (sum_records (λ r. r.syy) c xs) (sum_records (λ r. r.szz) c xs)
    (sum_records (λ r. r.sxy) c xs) (sum_records (λ r. r.sxz) c xs) (sum_records (λ r. r.syz) c xs)

-- some element passes a test exactly where the filter keeps one
pub some_kept : {X : Type 0} (p : X → Bool) (xs : List X) → 0 < length (filter p xs) → list_any p xs ≡ true
some_kept p xs h =
    let m = some_member (filter p xs) h in
    let k = has_filter p xs m.0 m.1 in
    has_any p xs m.0 k.0 k.1

-- where it keeps none, no element passes
pub none_kept : {X : Type 0} (p : X → Bool) (xs : List X) → length (filter p xs) ≡ 0 → list_any p xs ≡ false
none_kept p xs e = by_test (list_any p xs) refl
  where
    by_test : (t : Bool) → list_any p xs ≡ t → t ≡ false
    by_test true h =
        let m = any_has p xs h in
        let l = has_length (filter p xs) m.0 (filter_has p xs m.0 m.1 m.2) in
        absurd (omega (arith, l, e))
    by_test false h = refl

-- a test that only elements in a part pass
any_within : {X : Type 0} (p q : X → Bool) (xs : List X) → ((x : X) → Contains xs x → p x ≡ true → q x ≡ true) → list_any p (filter q xs) ≡ list_any p xs
any_within p q xs h = by_test (list_any p xs) refl
  where
    up : list_any p (filter q xs) ≡ true → list_any p xs ≡ true
    up e =
        let m = any_has p (filter q xs) e in
        has_any p xs m.0 (has_filter q xs m.0 m.1).0 m.2

    by_other : (t : Bool) → list_any p (filter q xs) ≡ t → list_any p xs ≡ false → t ≡ false
    by_other true e f = let g : true ≡ false = sym (up e) ∙ f in absurd cc
    by_other false e f = refl

    by_test : (t : Bool) → list_any p xs ≡ t → list_any p (filter q xs) ≡ t
    by_test true e =
        let m = any_has p xs e in
        has_any p (filter q xs) m.0 (filter_has q xs m.0 m.1 (h m.0 m.1 m.2)) m.2
    by_test false e = by_other (list_any p (filter q xs)) refl e

-- the children of a cell by the records in it alone
pub children_within : (c : ℕ) (xs : List Listed) → AreCells xs → IsCell c → ((d : ℕ) → d < 8 → IsCell (child c d)) → ((d : ℕ) → d < 8 → covers c (child c d) ≡ true) → children_of (filter (λ x. covers c x.rec.key) xs) c ≡ children_of xs c
children_within c xs cells i kids down =
    filter_same (has_listed (filter (λ x. covers c x.rec.key) xs)) (has_listed xs) (map (child c) digits)
    (λ k m. (let h = has_map (child c) digits k m in
    let d : h.0 < 8 = have_digits h.0 h.1 in
    let cell : IsCell k = subst IsCell (sym h.2) (kids h.0 d) in
    let above : covers c k ≡ true = subst (λ (n : ℕ). covers c n ≡ true) (sym h.2) (down h.0 d) in
    any_within (λ (x : Listed). covers k x.rec.key) (λ (x : Listed). covers c x.rec.key) xs
    (λ x n e. covers-trans c k x.rec.key i cell (member x n) above e)))
  where
    member : (x : Listed) → Contains xs x → IsCell x.rec.key
    member x n = subst (λ (y : Listed). IsCell y.rec.key) n.2 (cells n.0 x n.1)

-- one more child looked at
pub one_more_child : (p : ℕ → Bool) (c d : ℕ) → d < 8 → filter p (map (child c) (take (d + 1) digits)) ≡ filter p (map (child c) (take d digits)) ++ cond (p (child c d)) (child c d ∷ []) []
one_more_child p c d h =
    let e : take (d + 1) digits ≡ take d digits ++ d ∷ [] = take_more digits d 0 h ∙ ap (λ (k : ℕ). take d digits ++ k ∷ []) (digits-at d h) in
    ap (λ (ks : List ℕ). filter p (map (child c) ks)) e
    ∙ (ap (filter p) (map-append (child c) (take d digits) (d ∷ []))
    ∙ filter-append p (map (child c) (take d digits)) (child c d ∷ []))

-- a filter keeps at most all
pub filter_short : {X : Type 0} (p : X → Bool) (xs : List X) → length (filter p xs) ≤ length xs
filter_short p xs = omega (arith, length-filter p xs, count_by-le-length p xs)

-- how many stand in a range
pub range_long : {X : Type 0} (from to : ℕ) (xs : List X) → from ≤ to → to ≤ length xs → length (slice_range xs from to) ≡ to - from
range_long from to xs h k = simp (length-take, length-drop) (omega (arith, h, k))

-- a child with listed records is kept
pub child_kept : (xs : List Listed) (c d from to : ℕ) (old new : List ℕ) → d < 8 → filter (λ x. covers (child c d) x.rec.key) xs ≡ slice_range xs from to → from < to → to ≤ length xs → old ≡ filter (has_listed xs) (map (child c) (take d digits)) → new ≡ old ++ child c d ∷ [] → new ≡ filter (has_listed xs) (map (child c) (take (d + 1) digits))
child_kept xs c d from to old new h e l w f g =
    let long : length (filter (λ (x : Listed). covers (child c d) x.rec.key) xs) ≡ to - from = ap length e ∙ range_long from to xs (omega (arith, l)) w in
    let t : has_listed xs (child c d) ≡ true = some_kept (λ (x : Listed). covers (child c d) x.rec.key) xs (omega (arith, long, l)) in
    let more = one_more_child (has_listed xs) c d h in
    g ∙ (ap (λ (ks : List ℕ). ks ++ child c d ∷ []) f ∙ sym (rw t at more))

-- and one without them is not
pub child_left : (xs : List Listed) (c d from to : ℕ) (old new : List ℕ) → d < 8 → filter (λ x. covers (child c d) x.rec.key) xs ≡ slice_range xs from to → from ≤ to → to ≤ from → to ≤ length xs → old ≡ filter (has_listed xs) (map (child c) (take d digits)) → new ≡ old → new ≡ filter (has_listed xs) (map (child c) (take (d + 1) digits))
child_left xs c d from to old new h e l u w f g =
    let long : length (filter (λ (x : Listed). covers (child c d) x.rec.key) xs) ≡ to - from = ap length e ∙ range_long from to xs l w in
    let t : has_listed xs (child c d) ≡ false = none_kept (λ (x : Listed). covers (child c d) x.rec.key) xs (omega (arith, long, u)) in
    let more = one_more_child (has_listed xs) c d h in
    g ∙ (f ∙ (sym (append-nil (filter (has_listed xs) (map (child c) (take d digits)))) ∙ sym (rw t at more)))

-- there is room for eight
pub child_room : (p : ℕ → Bool) (c d : ℕ) (kept : List ℕ) → d < 8 → kept ≡ filter p (map (child c) (take d digits)) → length kept < 8
child_room p c d kept h e =
    let long : length kept ≡ length (filter p (map (child c) (take d digits))) = ap length e in
    omega (arith, h, long, filter_short p (map (child c) (take d digits)), length-map (take d digits) (child c), length-take d digits)
