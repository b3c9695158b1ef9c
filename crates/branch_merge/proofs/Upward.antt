-- The keys above listed records.
use Rattle.std.proofs.Common.{ℕ, ◌≡◌, ◌+◌, ◌<◌, ◌≤◌, true, eqb, List, [], ◌∷◌, ◌++◌, length, take, get_or, sym, ap, ◌∙◌, subst, inl, inr, arith}
use Rattle.std.specs.Prelude.{Contains, ◌⊎◌}
use Rattle.std.specs.List.{dedup}
use Rattle.std.specs.List.Sorted.{IsPermutation, IsSorted}
use Rattle.std.specs.Ordering.{nat_cmp}
use Rattle.std.proofs.lemmas.List.{take_more}
use Rattle.std.proofs.lemmas.List.Elements.{Contains-append_left, Contains-push, Contains-push_cases}
use Rattle.std.proofs.lemmas.List.Kept.{Contains-dedup_nat, Contains-from_dedup}
use Rattle.std.proofs.lemmas.List.Sorted.{IsPermutation-sym, Contains-permutation}
use Rattle.std.proofs.lemmas.Map.Keys.{IsStrictlyIncreasing-dedup}
use Rattle.hot_units.specs.Keys.{IsCell, level, covers, parent}
use Rattle.hot_model.proofs.Fronts.{covers-trans}
use Rattle.rank_model.specs.Needs.{IsAbove}
use Rattle.branch_merge.specs.declared.listed.Listed.{Listed}
use Rattle.branch_merge.specs.Tops.{IsTopOf, AreTops}
use Rattle.branch_merge.specs.Merged.{IsProper, HasAbove, Gains}
use Rattle.branch_merge.proofs.Cells.{self_covers, step_up, further, none_above_root, parent_covers}

-- what is known on the way up from a cell
pub record Climbs (old keys : List ℕ) (cell below : ℕ) : Type 0 where
  pub cell_below : IsCell below
  pub covering : covers below cell ≡ true
  pub low : level below ≤ level cell
  pub kept : (c : ℕ) → Contains old c → Contains keys c
  pub gained : (c : ℕ) → Contains keys c → Contains old c ⊎ IsProper c cell
  pub every : (c : ℕ) → IsProper c cell → IsProper c below ⊎ Contains keys c

-- the way up begins at the cell
pub climbs_start : (keys : List ℕ) (cell : ℕ) → IsCell cell → Climbs keys keys cell cell
climbs_start keys cell i = record {
  cell_below = i;
  covering = self_covers cell i;
  low = omega arith;
  kept = λ c m. m;
  gained = λ c m. inl m;
  every = λ c p. inl p;
}

-- one step up, with the parent's key added
pub climbs_more : (old keys new : List ℕ) (cell below above : ℕ) → IsCell cell → Climbs old keys cell below → IsCell above → above ≡ parent below → level below ≡ level above + 1 → new ≡ keys ++ above ∷ [] → Climbs old new cell above
climbs_more old keys new cell below above i h p e l n =
    let cov : covers above cell ≡ true = covers-trans above below cell p h.cell_below i (parent_covers below above h.cell_below e l) h.covering in
    let proper : IsProper above cell = (p, (cov, λ same. (let q : level above ≡ level cell = ap level same in omega (arith, q, l, h.low)))) in
    record {
      cell_below = p;
      covering = cov;
      low = omega (arith, l, h.low);
      kept = λ c m. subst (λ (ks : List ℕ). Contains ks c) (sym n) (Contains-append_left keys (above ∷ []) c (h.kept c m));
      gained = λ c m. elim (Contains-push_cases keys above c (subst (λ (ks : List ℕ). Contains ks c) n m)) [
        | inl was ↦ h.gained c was
        | inr same ↦ inr (subst (λ (k : ℕ). IsProper k cell) same proper)
      ];
      every = λ c m. elim (h.every c m) [
        | inl up ↦ elim (step_up c below above h.cell_below e l up) [
          | inl same ↦ inr (subst (λ (ks : List ℕ). Contains ks c) (sym n) (subst (λ (k : ℕ). Contains (keys ++ above ∷ []) k) (sym same) (Contains-push keys above)))
          | inr more ↦ inl more
        ]
        | inr has ↦ inr (subst (λ (ks : List ℕ). Contains ks c) (sym n) (Contains-append_left keys (above ∷ []) c has))
      ];
    }

-- at the root all cells above are there
pub climbs_end : (old keys : List ℕ) (cell below : ℕ) → Climbs old keys cell below → below ≡ 1 → Gains old keys cell
climbs_end old keys cell below h e = record {
  kept = h.kept;
  gained = h.gained;
  every = λ c m. elim (h.every c m) [
    | inl up ↦ absurd (none_above_root c (subst (λ (k : ℕ). IsProper c k) e up))
    | inr has ↦ has
  ];
}

-- or an end at a cell that is above one whose upper cells are there
pub climbs_stop : (old keys : List ℕ) (cell below above before : ℕ) → Climbs old keys cell below → IsCell above → above ≡ parent below → level below ≡ level above + 1 → IsCell before → HasAbove old before → (above ≡ before → ⊥) → covers above before ≡ true → Gains old keys cell
climbs_stop old keys cell below above before h p e l q known ne cov = record {
  kept = h.kept;
  gained = h.gained;
  every = λ c m. elim (h.every c m) [
    | inl up ↦ elim (step_up c below above h.cell_below e l up) [
      | inl same ↦ h.kept c (known c (subst (λ (k : ℕ). IsProper k before) (sym same) (p, (cov, ne))))
      | inr more ↦ h.kept c (known c (further c above before more p q cov))
    ]
    | inr has ↦ has
  ];
}

-- the keys above the first so many listed records
pub record HasTops (xs : List Listed) (keys : List ℕ) : Type 0 where
  pub into : (c : ℕ) → Contains keys c → IsTopOf xs c
  pub from : (c : ℕ) → IsTopOf xs c → Contains keys c

-- one more listed record
pub tops_more : (xs : List Listed) (i : ℕ) (x : Listed) (old new : List ℕ) → i < length xs → x ≡ get_or xs i x → HasTops (take i xs) old → Gains old new x.rec.key → HasTops (take (i + 1) xs) new
tops_more xs i x old new l at h g =
    let e : take (i + 1) xs ≡ take i xs ++ x ∷ [] = take_more xs i x l ∙ ap (λ (y : Listed). take i xs ++ y ∷ []) (sym at) in
    record {
      into = λ c m. elim (g.gained c m) [
        | inl was ↦
            let t = h.into c was in
            (t.0, (t.1.0, subst (λ (ys : List Listed). Contains ys t.1.0) (sym e) (Contains-append_left (take i xs) (x ∷ []) t.1.0 t.1.1), t.1.2))
        | inr up ↦ (up.0, (x, subst (λ (ys : List Listed). Contains ys x) (sym e) (Contains-push (take i xs) x), up.1))
      ];
      from = λ c t. elim (Contains-push_cases (take i xs) x t.1.0 (subst (λ (ys : List Listed). Contains ys t.1.0) e t.1.1)) [
        | inl was ↦ g.kept c (h.from c (t.0, (t.1.0, was, t.1.2)))
        | inr same ↦ g.every c (t.0, subst (λ (y : Listed). IsAbove c y.rec.key) (sym same) t.1.2)
      ];
    }

-- sorted, and each once
pub tops_sorted : (xs : List Listed) (keys sorted each : List ℕ) → HasTops xs keys → IsPermutation keys sorted → IsSorted nat_cmp sorted → each ≡ dedup eqb sorted → AreTops xs each
tops_sorted xs keys sorted each h p o e =
    let same : AreTops xs (dedup eqb sorted) = record {
      ascend = IsStrictlyIncreasing-dedup sorted o;
      all = λ c. (
        λ m. h.into c (Contains-permutation sorted keys c (IsPermutation-sym keys sorted p) (Contains-from_dedup eqb sorted c m)),
        λ t. Contains-dedup_nat sorted c (Contains-permutation keys sorted c p (h.from c t)),
      );
    } in
    subst (AreTops xs) (sym e) same
