-- The one listed record that a cell is or lies in, and the top cell of a key.
use Rattle.std.proofs.Common.{ℕ, ◌≡◌, ◌+◌, ◌-◌, ◌<◌, ◌≤◌, true, false, Option, Some, None, List, [], ◌∷◌, ◌++◌, length, get_or, sym, ap, ◌∙◌, subst, inl, inr, arith}
use Rattle.std.specs.Prelude.{Contains, All, MatchOption}
use Rattle.std.specs.List.Sorted.{IsNonDecreasingBy}
use Rattle.std.proofs.lemmas.Bool.{cases_lt}
use Rattle.std.proofs.lemmas.List.{get_or_default, get_or_append_left, get_or_push}
use Rattle.std.proofs.lemmas.List.Elements.{Contains-get_or}
use Rattle.std.proofs.lemmas.List.Kept.{AllPairs-from_increasing}
use Rattle.hot_units.specs.Keys.{IsCell, covers}
use Rattle.morton_key.specs.Ranges.{first_key}
use Rattle.branch_merge.specs.declared.listed.Listed.{Listed}
use Rattle.branch_merge.specs.declared.top_cell.TopCell.{TopCell}
use Rattle.branch_merge.specs.Listing.{AreApart}
use Rattle.branch_merge.specs.Tops.{IsTopOf, IsTopCell}
use Rattle.branch_merge.specs.Merged.{first_of, key_of_top, AreSorted, AreTopCells, IsCountTo, IsHolder}
use Rattle.branch_merge.proofs.Cells.{covered_range, in_range, self_covers}
use Rattle.branch_merge.proofs.Apart.{apart_same, cell_in}
use Rattle.branch_merge.proofs.Runs.{refuted}

-- what a search among the fields says of the value
pub counted : (xs ys zs : List Listed) (first key to : ℕ) → ys ≡ xs → zs ≡ ys → first ≡ first_key key → IsCountTo zs first to → IsCountTo xs (first_key key) to
counted xs ys zs first key to e f g h =
    subst (λ (ws : List Listed). IsCountTo ws (first_key key) to) (f ∙ e) (subst (λ (k : ℕ). IsCountTo zs k to) g h)

-- no listed record holds a cell before the first of them
pub held_none : (xs : List Listed) (key to : ℕ) → AreSorted xs → IsCell key → IsCountTo xs (first_key key) to → to ≡ 0 → All (λ x. covers x.rec.key key ≡ false) xs
held_none xs key to s i f e k d h =
    refuted (covers (get_or xs k d).rec.key key)
    (λ t. (let r = covered_range (get_or xs k d).rec.key key (s.cells k d h) i t in
    let o = f.over k d (omega (arith, e)) h in
    omega (arith, r.0, o)))

-- only the last one that is not behind the cell may hold it
pub held_by : (xs : List Listed) (key to : ℕ) (x : Listed) → AreSorted xs → AreApart xs → IsCell key → IsCountTo xs (first_key key) to → 1 ≤ to → x ≡ get_or xs (to - 1) x → (y : Listed) → Contains xs y → covers y.rec.key key ≡ true → y ≡ x
held_by xs key to x s a i f h at y m e =
    let last : to - 1 < length xs = omega (arith, h, f.within) in
    let mx : Contains xs x = (to - 1, last, sym at) in
    let p : IsCell y.rec.key = cell_in xs s.cells y m in
    let q : IsCell x.rec.key = cell_in xs s.cells x mx in
    let r = covered_range y.rec.key key p i e in
    let fy : first_of (get_or xs m.0 y) ≡ first_of y = ap first_of m.2 in
    let fx : first_of (get_or xs (to - 1) y) ≡ first_of x = ap first_of (get_or_default xs (to - 1) y x last ∙ sym at) in
    let before : m.0 < to = elim (cases_lt m.0 to) [
      | inl l ↦ l
      | inr l ↦ absurd (let o = f.over m.0 y l m.1 in omega (arith, o, fy, r.0))
    ] in
    let up : first_of (get_or xs m.0 y) ≤ first_of (get_or xs (to - 1) y) = s.order m.0 (to - 1) y (omega (arith, before)) last in
    let under : first_of (get_or xs (to - 1) y) ≤ first_key key = f.under (to - 1) y (omega (arith, h)) in
    elim (in_range y.rec.key x.rec.key p q (omega (arith, up, fy, fx)) (omega (arith, under, fx, r.1))) [
      | inl c ↦ apart_same xs a y x m mx c
      | inr c ↦ sym (apart_same xs a x y mx m c.0)
    ]

-- the last record that does not begin behind a cell holds it, where it covers it
pub holder_is : (xs : List Listed) (key to : ℕ) (x : Listed) → AreSorted xs → AreApart xs → IsCell key → IsCountTo xs (first_key key) to → 1 ≤ to → x ≡ get_or xs (to - 1) x → covers x.rec.key key ≡ true → IsHolder xs key x
holder_is xs key to x s a i f h at e = record {
  listed = (to - 1, omega (arith, h, f.within), sym at);
  covered = e;
  only = held_by xs key to x s a i f h at;
}

-- and else none does
pub holder_none : (xs : List Listed) (key to : ℕ) (x : Listed) → AreSorted xs → AreApart xs → IsCell key → IsCountTo xs (first_key key) to → 1 ≤ to → x ≡ get_or xs (to - 1) x → covers x.rec.key key ≡ false → All (λ y. covers y.rec.key key ≡ false) xs
holder_none xs key to x s a i f h at e k d l =
    refuted (covers (get_or xs k d).rec.key key)
    (λ t. (let same : get_or xs k d ≡ x = held_by xs key to x s a i f h at (get_or xs k d) (Contains-get_or xs k d l) t in
    let g : covers x.rec.key key ≡ true = subst (λ (z : Listed). covers z.rec.key key ≡ true) same t in
    let w : false ≡ true = sym e ∙ g in
    absurd cc))

-- a cell that is held is listed only as the one that holds it
pub unlisted : (xs : List Listed) (key : ℕ) (x : Listed) → IsCell key → IsHolder xs key x → (x.rec.key ≡ key → ⊥) → All (λ y. y.rec.key ≡ key → ⊥) xs
unlisted xs key x i h ne k d l e =
    let own : covers (get_or xs k d).rec.key key ≡ true = subst (λ (n : ℕ). covers n key ≡ true) (sym e) (self_covers key i) in
    ne (ap (λ (y : Listed). y.rec.key) (sym (h.only (get_or xs k d) (Contains-get_or xs k d l) own)) ∙ e)

-- and one that is not held is not listed
pub unheld : (xs : List Listed) (key : ℕ) → IsCell key → All (λ y. covers y.rec.key key ≡ false) xs → All (λ y. y.rec.key ≡ key → ⊥) xs
unheld xs key i h k d l e =
    let own : covers (get_or xs k d).rec.key key ≡ true = subst (λ (n : ℕ). covers n key ≡ true) (sym e) (self_covers key i) in
    let no : false ≡ true = sym (h k d l) ∙ own in
    absurd cc

-- one more top cell made
pub made_more : (xs : List Listed) (keys : List ℕ) (old new : List TopCell) (n : ℕ) (top : TopCell) → length old ≡ n → ((i : ℕ) (d : TopCell) → i < n → IsTopCell xs (get_or keys i 0) (get_or old i d)) → IsTopCell xs (get_or keys n 0) top → new ≡ old ++ top ∷ [] → (i : ℕ) (d : TopCell) → i < n + 1 → IsTopCell xs (get_or keys i 0) (get_or new i d)
made_more xs keys old new n top e f t g i d h =
    elim (cases_lt i n) [
      | inl l ↦
          let at : get_or old i d ≡ get_or new i d = sym (ap (λ (cs : List TopCell). get_or cs i d) g ∙ get_or_append_left old (top ∷ []) d i (omega (arith, e, l))) in
          subst (IsTopCell xs (get_or keys i 0)) at (f i d l)
      | inr l ↦
          let here : i ≡ n = omega (arith, h, l) in
          let at : top ≡ get_or new i d = sym (ap (λ (cs : List TopCell). get_or cs i d) g ∙ get_or_push old top d i (e ∙ sym here)) in
          subst (IsTopCell xs (get_or keys i 0)) at (subst (λ (j : ℕ). IsTopCell xs (get_or keys j 0) top) (sym here) t)
    ]

-- the keys of the top cells
pub key_at : (xs : List Listed) (cells : List TopCell) (h : AreTopCells xs cells) (i : ℕ) (d : TopCell) → i < length h.keys → key_of_top (get_or cells i d) ≡ get_or h.keys i 0
key_at xs cells h i d l = ap (λ r. r.key) (h.each i d l).rec

-- the keys of the top cells ascend
pub keys_ascend : (xs : List Listed) (cells : List TopCell) → AreTopCells xs cells → IsNonDecreasingBy key_of_top cells
keys_ascend xs cells h i j d le l =
    let lj : j < length h.keys = omega (arith, l, h.size) in
    let li : i < length h.keys = omega (arith, le, lj) in
    let ki = key_at xs cells h i d li in
    let kj = key_at xs cells h j d lj in
    elim (cases_lt i j) [
      | inl less ↦ let p : get_or h.keys i 0 < get_or h.keys j 0 = AllPairs-from_increasing h.keys h.tops.ascend i j 0 less lj in omega (arith, p, ki, kj)
      | inr same ↦
          let e : i ≡ j = omega (arith, le, same) in
          let f : key_of_top (get_or cells i d) ≡ key_of_top (get_or cells j d) = ap (λ (k : ℕ). key_of_top (get_or cells k d)) e in
          omega (arith, f)
    ]

-- a top cell that was found, and one that was not
pub found_top : (xs : List Listed) (cells : List TopCell) (key : ℕ) (cell : TopCell) → AreTopCells xs cells → key_of_top cell ≡ key → Contains cells cell → IsTopOf xs key × IsTopCell xs key cell
found_top xs cells key cell h e m =
    let l : m.0 < length h.keys = omega (arith, m.1, h.size) in
    let at : get_or h.keys m.0 0 ≡ key = sym (key_at xs cells h m.0 cell l) ∙ (ap key_of_top m.2 ∙ e) in
    let made : IsTopCell xs (get_or h.keys m.0 0) cell = subst (IsTopCell xs (get_or h.keys m.0 0)) m.2 (h.each m.0 cell l) in
    (subst (IsTopOf xs) at ((h.tops.all (get_or h.keys m.0 0)).0 (Contains-get_or h.keys m.0 0 l)), subst (λ (k : ℕ). IsTopCell xs k cell) at made)

nowhere : TopCell
nowhere = record { rec = record { key = 0; count = 0; mass = 0; sx = 0; sy = 0; sz = 0; sxx = 0; syy = 0; szz = 0; sxy = 0; sxz = 0; syz = 0 }; children = record { items = [] } }

-- a key that no top cell has is none of theirs
pub no_top : (xs : List Listed) (cells : List TopCell) (key : ℕ) → AreTopCells xs cells → All (λ c. key_of_top c ≡ key → ⊥) cells → IsTopOf xs key → ⊥
no_top xs cells key h none t =
    let m = (h.tops.all key).1 t in
    none m.0 nowhere (omega (arith, m.1, h.size)) (key_at xs cells h m.0 nowhere m.1 ∙ (get_or_default h.keys m.0 0 key m.1 ∙ m.2))

-- clauses on an `Option`, one by one
pub match_both : {A : Type 0} (o : Option A) {P R : Type 0} {Q S : A → Type 0} → (P → R) → ((x : A) → Q x → S x) → MatchOption o P Q → MatchOption o R S
match_both None f g m = f m
match_both (Some x) f g m = g x m
