-- The cells in play.
use Rattle.std.proofs.Common.{ℕ, ◌≡◌, ◌+◌, ◌<◌, Bool, true, eqb, List, [], ◌∷◌, ◌++◌, length, map, filter, take, get_or, Contains, ◌↔◌, refl, ap, sym, ◌∙◌, subst, inl, inr, arith, append_assoc}
use Rattle.std.specs.Prelude.{◌⊎◌, ◌||◌}
use Rattle.std.specs.List.{list_any, dedup}
use Rattle.std.specs.List.Sorted.{IsStrictlyIncreasing, IsPermutation, IsSorted}
use Rattle.std.specs.Ordering.{nat_cmp}
use Rattle.std.proofs.lemmas.Bool.{eq-eqb, eqb-true, or_cases, or_left, or_right}
use Rattle.std.proofs.lemmas.List.{map-append, take_more}
use Rattle.std.proofs.lemmas.List.Elements.{Contains-append_left, Contains-append_right, Contains-append_cases}
use Rattle.std.proofs.lemmas.List.Kept.{Contains-dedup_nat, Contains-from_dedup}
use Rattle.std.proofs.lemmas.List.Sorted.{IsPermutation-sym, Contains-permutation}
use Rattle.std.proofs.lemmas.Map.Keys.{IsStrictlyIncreasing-dedup}
use Rattle.hot_units.specs.Values.{BodyValue, CellValue}
use Rattle.hot_units.proofs.Members.{filter_has, has_filter, any_has, has_any}
use Rattle.hot_units.proofs.Sorts.{ascends_filter, ascends_strict, ascends_same}
use Rattle.hot_model.specs.Trees.{opened}
use Rattle.hot_model.specs.Cells.{cells}
use Rattle.hot_model.proofs.Cells.{cells-are, cells_ascend}
use Rattle.rank_model.specs.World.{World, IsGood}
use Rattle.rank_model.specs.Needs.{is_opened, is_listed, met_cells}
use Rattle.rank_model.proofs.Demands.{opened_sound}
use Rattle.branch_merge.specs.declared.listed.Listed.{Listed}
use Rattle.branch_merge.proofs.Lists.{strict_ascends}
use Rattle.rank_set.specs.Efforts.{IsOpenedBy}
use Rattle.run_report.specs.Report.{AreInPlay}

-- the keys of branches
abbrev pub branch_keys : List Listed → List ℕ
branch_keys branches = map (λ (b : Listed). b.rec.key) branches

-- a cell that some body opens
opened_test : (opens : BodyValue → CellValue → Bool) (w : World) (k : ℕ) → (is_opened opens w k ≡ true) ↔ IsOpenedBy opens w w.bodies k
opened_test opens w k = (
  (λ h.
      let b = any_has (λ (x : BodyValue). list_any (eqb k) (opened (opens x) w.leaf w.bodies)) w.bodies h in
      let c = any_has (eqb k) (opened (opens b.0) w.leaf w.bodies) b.2 in
      (b.0, b.1, subst (λ (x : ℕ). Contains (opened (opens b.0) w.leaf w.bodies) x) (sym (eqb-true _ _ c.2)) c.1)),
  (λ h. has_any (λ (x : BodyValue). list_any (eqb k) (opened (opens x) w.leaf w.bodies)) w.bodies h.0 h.1 (has_any (eqb k) (opened (opens h.0) w.leaf w.bodies) k h.2 (eq-eqb _ _ refl))),
)

-- the cells in play are those that some body opens, and the branches
pub met_are : (opens : BodyValue → CellValue → Bool) (w : World) (k : ℕ) → Contains (met_cells opens w) k ↔ (IsOpenedBy opens w w.bodies k ⊎ Contains (filter (is_listed w w.ranks) (cells w.bodies)) k)
met_are opens w k = (
  (λ h.
      let f = has_filter (λ c. is_opened opens w c || is_listed w w.ranks c) (cells w.bodies) k h in
      elim (or_cases (is_opened opens w k) (is_listed w w.ranks k) f.1) [
        | inl o ↦ inl ((opened_test opens w k).0 o)
        | inr l ↦ inr (filter_has (is_listed w w.ranks) (cells w.bodies) k f.0 l)
      ]),
  (λ h. elim h [
    | inl o ↦
        let c = opened_sound (opens o.0) w 21 1 k (omega arith) (omega arith, omega arith) o.2 in
        filter_has (λ c. is_opened opens w c || is_listed w w.ranks c) (cells w.bodies) k ((cells-are w.bodies k).1 (c.0, c.1)) (or_left (is_opened opens w k) (is_listed w w.ranks k) ((opened_test opens w k).1 o))
    | inr l ↦
        let f = has_filter (is_listed w w.ranks) (cells w.bodies) k l in
        filter_has (λ c. is_opened opens w c || is_listed w w.ranks c) (cells w.bodies) k f.0 (or_right (is_opened opens w k) (is_listed w w.ranks k) f.1)
  ]),
)

-- in a good world the keys of the cells in play ascend strictly
pub met_ascend : (opens : BodyValue → CellValue → Bool) (w : World) → IsGood w → IsStrictlyIncreasing (met_cells opens w)
met_ascend opens w g = ascends_strict (met_cells opens w) (ascends_filter (λ c. is_opened opens w c || is_listed w w.ranks c) (cells w.bodies) (cells_ascend w.bodies g.in_order))

-- the keys of the branches, one more
pub keys-more : (opened keys : List ℕ) (branches : List Listed) (i key : ℕ) (b : Listed) → i < length branches → b ≡ get_or branches i b → key ≡ b.rec.key
    → keys ≡ opened ++ branch_keys (take i branches) → keys ++ key ∷ [] ≡ opened ++ branch_keys (take (i + 1) branches)
keys-more opened keys branches i key b h at k e =
    let one : branch_keys (take (i + 1) branches) ≡ branch_keys (take i branches) ++ key ∷ [] =
    ap branch_keys (take_more branches i b h) ∙ map-append (λ (x : Listed). x.rec.key) (take i branches) (get_or branches i b ∷ [])
    ∙ ap (λ (x : Listed). branch_keys (take i branches) ++ x.rec.key ∷ []) (sym at) ∙ ap (λ (n : ℕ). branch_keys (take i branches) ++ n ∷ []) (sym k) in
    ap (λ (l : List ℕ). l ++ key ∷ []) e ∙ append_assoc opened (branch_keys (take i branches)) (key ∷ []) ∙ ap (λ (l : List ℕ). opened ++ l) (sym one)

-- what is left of the keys, sorted and each once, is as long as each list of the cells in play
pub count_is : (opened keys sorted each all : List ℕ) (branches : List Listed) → keys ≡ opened ++ branch_keys branches → IsPermutation keys sorted → IsSorted nat_cmp sorted → each ≡ dedup eqb sorted
    → AreInPlay opened branches all → length each ≡ length all
count_is opened keys sorted each all branches k p o e a =
    ap (λ (l : List ℕ). length l) (e ∙ ascends_same (dedup eqb sorted) all (strict_ascends (dedup eqb sorted) (IsStrictlyIncreasing-dedup sorted o)) (strict_ascends all a.ascend)
    (λ c h. (a.all c).1 (Contains-append_cases opened (branch_keys branches) c (subst (λ (l : List ℕ). Contains l c) k (Contains-permutation sorted keys c (IsPermutation-sym keys sorted p) (Contains-from_dedup eqb sorted c h)))))
    (λ c h. Contains-dedup_nat sorted c (Contains-permutation keys sorted c p (subst (λ (l : List ℕ). Contains l c) (sym k) (elim ((a.all c).0 h) [
      | inl m ↦ Contains-append_left opened (branch_keys branches) c m
      | inr m ↦ Contains-append_right opened (branch_keys branches) c m
    ])))))
