-- The true branch lists can be merged.
use Rattle.std.proofs.Common.{ℕ, ◌≡◌, ◌≤◌, true, length, get_or, map, sym, ◌∙◌, subst, arith}
use Rattle.std.specs.Prelude.{Contains}
use Rattle.std.proofs.lemmas.List.{get_or-map, length-map}
use Rattle.std.proofs.lemmas.List.Elements.{Contains-get_or}
use Rattle.std.proofs.lemmas.List.Sorted.{IsPermutation-refl}
use Rattle.hot_units.specs.Numbers.{numbers_below}
use Rattle.hot_units.specs.Keys.{covers}
use Rattle.hot_units.proofs.Members.{all_members, some_member}
use Rattle.hot_units.proofs.Sorts.{below_ascends}
use Rattle.hot_model.proofs.Parts.{has_inside}
use Rattle.hot_model.proofs.Fronts.{covers-self, covers-contains}
use Rattle.rank_model.specs.World.{World, bodies_in, IsGood}
use Rattle.rank_model.specs.Branches.{IsBranch, branches, all_branches}
use Rattle.rank_model.proofs.Owners.{one_branch}
use Rattle.rank_model.proofs.Counts.{branches-are, branches_ascend}
use Rattle.branch_merge.specs.declared.listed.Listed.{Listed}
use Rattle.branch_merge.specs.Listing.{all_listed, AreApart}
use Rattle.branch_merge.specs.Laws.{branch_lists, TrueListsMerge}
use Rattle.branch_merge.proofs.Lists.{Differ, differ_ascends, differ_flat, same_place}
use Rattle.branch_merge.proofs.Listings.{lists-length, listed-keys, listed_branch}
use Rattle.branch_merge.proofs.Shares.{listed-count, listed-mass}

-- a branch that lies in a branch is that branch
branch_in_branch : (w : World) (p q k c : ℕ) → IsBranch w p k → IsBranch w q c → covers k c ≡ true → (k ≡ c) × (p ≡ q)
branch_in_branch w p q k c x y e =
    let m = some_member (bodies_in w c) y.some in
    let r = has_inside w.bodies c m.0 m.1 in
    one_branch w p q k c m.0 x y r.0 (covers-contains k c m.0 x.cell y.cell e r.1) r.1

-- no cell is a branch of two ranks
rank_of_branch : (w : World) (p q k : ℕ) → IsBranch w p k → IsBranch w q k → p ≡ q
rank_of_branch w p q k x y = let i = x.cell in (branch_in_branch w p q k k x y (covers-self k i.0 i.1 i.2)).1

-- so no cell stands twice among all branches
pub branches_differ : (w : World) → IsGood w → Differ (all_branches w)
branches_differ w g =
    differ_flat (branches w) (numbers_below w.ranks) (below_ascends w.ranks)
    (λ q. differ_ascends (branches w q) (branches_ascend w q g))
    (λ p q k m n. rank_of_branch w p q k ((branches-are w p k).0 m) ((branches-are w q k).0 n))

-- what is listed is the record of a branch
listed_key : (w : World) (x : Listed) → Contains (all_listed (branch_lists w)) x → (q : ℕ) × IsBranch w q x.rec.key
listed_key w x h =
    let b = listed_branch w (all_listed (branch_lists w)) x (IsPermutation-refl (all_listed (branch_lists w))) h in
    (b.0, subst (λ (z : Listed). IsBranch w b.0 z.rec.key) (sym b.3) b.2)

-- of two listed records none lies in the cell of the other
lists_apart : (w : World) → IsGood w → AreApart (all_listed (branch_lists w))
lists_apart w g i j d p q e =
    let xs = all_listed (branch_lists w) in
    let key : Listed → ℕ = λ x. x.rec.key in
    let x = listed_key w (get_or xs i d) (Contains-get_or xs i d p) in
    let y = listed_key w (get_or xs j d) (Contains-get_or xs j d q) in
    let same : (get_or xs i d).rec.key ≡ (get_or xs j d).rec.key = (branch_in_branch w x.0 y.0 (get_or xs i d).rec.key (get_or xs j d).rec.key x.1 y.1 e).0 in
    let keys : map key xs ≡ all_branches w = listed-keys w in
    let long : length (map key xs) ≡ length xs = length-map xs key in
    let differ : Differ (map key xs) = subst Differ (sym keys) (branches_differ w g) in
    same_place (map key xs) i j 0 differ (omega (arith, long, p)) (omega (arith, long, q))
    (get_or-map key xs i d 0 p ∙ (same ∙ sym (get_or-map key xs j d 0 q)))

-- a listed record has a body
listed_some : (w : World) (x : Listed) → Contains (all_listed (branch_lists w)) x → 1 ≤ x.rec.count
listed_some w x h =
    let b = listed_branch w (all_listed (branch_lists w)) x (IsPermutation-refl (all_listed (branch_lists w))) h in
    subst (λ (z : Listed). 1 ≤ z.rec.count) (sym b.3) (let s = b.2.some in omega (arith, s))

-- so they can be merged
pub true_lists_merge : TrueListsMerge
true_lists_merge w g r = record {
  ranks = (let n = lists-length w in omega (arith, n, r));
  some = all_members (λ (x : Listed). 1 ≤ x.rec.count) (all_listed (branch_lists w)) (listed_some w);
  apart = lists_apart w g;
  counted = (let n = listed-count w g in let f = g.few in omega (arith, n, f));
  light = (let m = listed-mass w g in let l = g.light in omega (arith, m, l));
}
