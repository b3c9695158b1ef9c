-- Listed records of which none is in the cell of another.
use Rattle.std.proofs.Common.{ℕ, ◌≡◌, ◌<◌, true, List, filter, get_or, sym, ap, ◌∙◌, subst}
use Rattle.std.specs.Prelude.{Contains}
use Rattle.std.proofs.lemmas.List.{get_or_default}
use Rattle.std.proofs.lemmas.List.Elements.{All-filter}
use Rattle.std.proofs.lemmas.List.Kept.{IsNonDecreasingBy-filter}
use Rattle.hot_units.specs.Keys.{IsCell, covers, level}
use Rattle.hot_units.proofs.Members.{all_members, has_filter}
use Rattle.hot_model.proofs.Fronts.{covers-trans}
use Rattle.rank_model.specs.Needs.{IsAbove}
use Rattle.branch_merge.specs.declared.listed.Listed.{Listed}
use Rattle.branch_merge.specs.Listing.{AreApart}
use Rattle.branch_merge.specs.Tops.{IsTopOf}
use Rattle.branch_merge.specs.Merged.{first_of, AreCells, AreSorted, AreBelow, NoneAbove}
use Rattle.branch_merge.proofs.Cells.{covers_back, above_is_high, self_covers}

-- one that is in the cell of another is that one
pub apart_same : (xs : List Listed) → AreApart xs → (x y : Listed) → Contains xs x → Contains xs y → covers x.rec.key y.rec.key ≡ true → x ≡ y
apart_same xs a x y m n e =
    let at : get_or xs n.0 x ≡ y = get_or_default xs n.0 x y n.1 ∙ n.2 in
    let f : covers (get_or xs m.0 x).rec.key y.rec.key ≡ true = subst (λ (z : Listed). covers z.rec.key y.rec.key ≡ true) (sym m.2) e in
    let g : covers (get_or xs m.0 x).rec.key (get_or xs n.0 x).rec.key ≡ true = subst (λ (z : Listed). covers (get_or xs m.0 x).rec.key z.rec.key ≡ true) (sym at) f in
    let same : m.0 ≡ n.0 = a m.0 n.0 x m.1 n.1 g in
    sym m.2 ∙ (ap (λ (i : ℕ). get_or xs i x) same ∙ at)

-- the key of a listed record is a cell
pub cell_in : (xs : List Listed) → AreCells xs → (x : Listed) → Contains xs x → IsCell x.rec.key
cell_in xs cells x m = subst (λ (y : Listed). IsCell y.rec.key) m.2 (cells m.0 x m.1)

-- no listed record is, or is above, a cell above listed records
top_apart : (xs : List Listed) (c : ℕ) → AreCells xs → AreApart xs → IsTopOf xs c → (x : Listed) → Contains xs x → covers x.rec.key c ≡ true → ⊥
top_apart xs c cells a t x m e =
    let y = t.1.0 in
    let p = cell_in xs cells x m in
    let q = cell_in xs cells y t.1.1 in
    let same : x ≡ y = apart_same xs a x y m t.1.1 (covers-trans x.rec.key c y.rec.key p t.0 q e t.1.2.0) in
    let back : covers y.rec.key c ≡ true = subst (λ (z : Listed). covers z.rec.key c ≡ true) same e in
    t.1.2.1 (covers_back c y.rec.key t.0 q t.1.2.0 back)

-- a cell above listed records lies in none of them
pub top_outside : (xs : List Listed) (c : ℕ) → AreCells xs → AreApart xs → IsTopOf xs c → NoneAbove xs c
top_outside xs c cells a t x m up = top_apart xs c cells a t x m up.0

-- it is above each listed record in it
pub top_below : (xs : List Listed) (c : ℕ) → AreCells xs → AreApart xs → IsTopOf xs c → AreBelow c (filter (λ x. covers c x.rec.key) xs)
top_below xs c cells a t =
    all_members (λ (x : Listed). IsAbove c x.rec.key) (filter (λ x. covers c x.rec.key) xs)
    (λ x m. (let h = has_filter (λ (y : Listed). covers c y.rec.key) xs x m in
    (h.1, λ same. top_apart xs c cells a t x h.0 (subst (λ (n : ℕ). covers n c ≡ true) same (self_covers c t.0)))))

-- a cell above listed records is not of the last level
pub top_is_high : (xs : List Listed) (c : ℕ) → AreCells xs → IsTopOf xs c → level c < 21
top_is_high xs c cells t = above_is_high c t.1.0.rec.key t.0 (cell_in xs cells t.1.0 t.1.1) t.1.2

-- a part stands in order too
pub sorted_part : (c : ℕ) (xs : List Listed) → AreSorted xs → AreSorted (filter (λ x. covers c x.rec.key) xs)
sorted_part c xs s = record {
  cells = All-filter (λ (x : Listed). covers c x.rec.key) (λ (x : Listed). IsCell x.rec.key) xs s.cells;
  order = IsNonDecreasingBy-filter first_of (λ x. covers c x.rec.key) xs s.order;
}
