-- Records apart stay apart in another order.
use Rattle.std.proofs.Common.{ℕ, ◌≡◌, ◌<◌, true, List, length, get_or, sym, ap, ◌∙◌, subst, inl, inr, refl, arith}
use Rattle.std.specs.List.{swap}
use Rattle.std.specs.List.Sorted.{IsPermutation}
use Rattle.std.proofs.lemmas.Bool.{cases_eq}
use Rattle.std.proofs.lemmas.List.Edits.{swapped_from_swap, length-swap}
use Rattle.std.proofs.lemmas.List.Sorted.{IsPermutation-keeps, sum_by-IsPermutation}
use Rattle.hot_units.specs.Values.{CellValue}
use Rattle.hot_units.specs.Keys.{covers}
use Rattle.branch_merge.specs.declared.listed.Listed.{Listed}
use Rattle.branch_merge.specs.Listing.{AreApart, CanMerge, all_listed}
use Rattle.branch_merge.specs.Merged.{AreLight}

-- where an element stood before the swap of two
data Source (a b i s : ℕ) : Type 0 where
  first : i ≡ a → s ≡ b → Source a b i s
  second : (i ≡ a → ⊥) → i ≡ b → s ≡ a → Source a b i s
  other : (i ≡ a → ⊥) → (i ≡ b → ⊥) → s ≡ i → Source a b i s

same_source : (a b i j s t : ℕ) → Source a b i s → Source a b j t → s ≡ t → i ≡ j
same_source a b i j s t (first e f) (first g h) m = e ∙ sym g
same_source a b i j s t (first e f) (second g h k) m = absurd (g (omega (arith, e, f, h, k, m)))
same_source a b i j s t (first e f) (other g h k) m = absurd (h (omega (arith, f, k, m)))
same_source a b i j s t (second n e f) (first g h) m = absurd (n (omega (arith, e, f, g, h, m)))
same_source a b i j s t (second n e f) (second g h k) m = e ∙ sym h
same_source a b i j s t (second n e f) (other g h k) m = absurd (g (omega (arith, f, k, m)))
same_source a b i j s t (other n o f) (first g h) m = absurd (o (omega (arith, f, h, m)))
same_source a b i j s t (other n o f) (second g h k) m = absurd (n (omega (arith, f, k, m)))
same_source a b i j s t (other n o f) (other g h k) m = omega (arith, f, k, m)

source : (xs : List Listed) (a b i : ℕ) (d : Listed) → a < length xs → b < length xs → i < length xs → (s : ℕ) × (s < length xs) × Source a b i s × (get_or (swap xs a b) i d ≡ get_or xs s d)
source xs a b i d p q l =
    let w = swapped_from_swap xs (swap xs a b) a b d p q refl in
    elim (cases_eq i a) [
      | inl e ↦ (b, q, first e refl, ap (λ (n : ℕ). get_or (swap xs a b) n d) e ∙ w.0)
      | inr n ↦ elim (cases_eq i b) [
        | inl e ↦ (a, p, second n e refl, ap (λ (n : ℕ). get_or (swap xs a b) n d) e ∙ w.1)
        | inr o ↦ (i, l, other n o refl, w.2 i n o)
      ]
    ]

apart_swap : (xs : List Listed) (a b : ℕ) → a < length xs → b < length xs → length (swap xs a b) ≡ length xs → AreApart xs → AreApart (swap xs a b)
apart_swap xs a b p q n h i j d li lj e =
    let s = source xs a b i d p q (omega (arith, li, n)) in
    let t = source xs a b j d p q (omega (arith, lj, n)) in
    let f : covers (get_or xs s.0 d).rec.key (get_or (swap xs a b) j d).rec.key ≡ true = subst (λ (x : Listed). covers x.rec.key (get_or (swap xs a b) j d).rec.key ≡ true) s.3 e in
    let g : covers (get_or xs s.0 d).rec.key (get_or xs t.0 d).rec.key ≡ true = subst (λ (x : Listed). covers (get_or xs s.0 d).rec.key x.rec.key ≡ true) t.3 f in
    same_source a b i j s.0 t.0 s.2 t.2 (h s.0 t.0 d s.1 t.1 g)

-- records stay apart in any order
pub apart_moved : (xs ys : List Listed) → IsPermutation xs ys → AreApart xs → AreApart ys
apart_moved xs ys p h = IsPermutation-keeps xs AreApart h (λ l i j li lj a. apart_swap l i j li lj (length-swap l i j) a) ys p

-- and within the limits
pub light_moved : (lists : List (List CellValue)) (ys : List Listed) → CanMerge lists → IsPermutation (all_listed lists) ys → AreLight ys
light_moved lists ys h p = record {
  counted = omega (arith, sum_by-IsPermutation (λ x. x.rec.count) (all_listed lists) ys p, h.counted);
  light = omega (arith, sum_by-IsPermutation (λ x. x.rec.mass) (all_listed lists) ys p, h.light);
}

-- the listed records through the steps of a merge
pub same_records : (all gathered sorted seen : List Listed) → gathered ≡ all → IsPermutation gathered sorted → seen ≡ sorted → IsPermutation all seen
same_records all gathered sorted seen e p f =
    subst (λ (ys : List Listed). IsPermutation all ys) (sym f) (subst (λ (xs : List Listed). IsPermutation xs sorted) e p)
