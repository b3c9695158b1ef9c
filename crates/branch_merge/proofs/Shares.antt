-- Each body lies in one branch, so that what is summed over all branches is summed over all bodies.
use Rattle.std.proofs.Common.{ℕ, ◌≡◌, ◌+◌, ◌<◌, Bool, true, false, cond, eqb, List, [], ◌∷◌, length, sum_by, sym, refl, ap, ◌∙◌, subst, arith}
use Rattle.std.specs.Prelude.{Contains}
use Rattle.std.proofs.lemmas.Bool.{true≢false, false_from_ne_true, eq-eqb, eqb-true}
use Rattle.std.proofs.lemmas.List.Elements.{All-contains}
use Rattle.std.proofs.lemmas.List.Sums.{sum_by-cons}
use Rattle.hot_units.specs.Values.{BodyValue, CellValue}
use Rattle.hot_units.specs.Numbers.{numbers_below}
use Rattle.hot_units.specs.Keys.{contains}
use Rattle.hot_units.specs.Bodies.{mass_of, mass_of_body}
use Rattle.hot_units.proofs.Members.{head_has, tail_has}
use Rattle.hot_units.proofs.Sorts.{sum_none, sum_one, sum_same, sum_both, sum_flat, sum_map, below_has, below_ascends}
use Rattle.hot_model.specs.Trees.{inside, cell_record}
use Rattle.hot_model.proofs.Parts.{inside_has, sum_by-filter-cons}
use Rattle.rank_model.specs.World.{World, rank_of, bodies_in, IsGood}
use Rattle.rank_model.specs.Branches.{IsBranch, branches, all_branches}
use Rattle.rank_model.proofs.Owners.{rank_in_own, branch_of, one_branch}
use Rattle.rank_model.proofs.Counts.{branches-are, branches_ascend}
use Rattle.branch_merge.specs.declared.listed.Listed.{Listed}
use Rattle.branch_merge.specs.Listing.{all_listed}
use Rattle.branch_merge.specs.Laws.{branch_lists}
use Rattle.branch_merge.proofs.Listings.{listed-records}

-- over the branches of one rank a body counts once where the rank is its own
rank_share : (w : World) (q v : ℕ) (b : BodyValue) → IsGood w → Contains w.bodies b → sum_by (λ k. cond (contains k b) v 0) (branches w q) ≡ cond (eqb q (rank_of w b)) v 0
rank_share w q v b g h = by_test (eqb q (rank_of w b)) refl
  where
    by_test : (t : Bool) → eqb q (rank_of w b) ≡ t → sum_by (λ k. cond (contains k b) v 0) (branches w q) ≡ cond t v 0
    by_test true e =
        let r = branch_of w b h in
        let x : IsBranch w q r.0 = subst (λ (z : ℕ). IsBranch w z r.0) (sym (eqb-true _ _ e)) r.1 in
        sum_one (λ k. contains k b) v (branches w q) r.0 (branches_ascend w q g) ((branches-are w q r.0).1 x) r.2
        (λ j m d. (one_branch w q q j r.0 b ((branches-are w q j).0 m) x h d r.2).0)
    by_test false e =
        sum_none (λ k. contains k b) v (branches w q)
        (λ k m. false_from_ne_true (contains k b) (λ n. (
        let y : rank_of w b ≡ q = rank_in_own w q k b ((branches-are w q k).0 m).own (inside_has w.bodies k b h n) in
        let t : eqb q (rank_of w b) ≡ true = eq-eqb _ _ (sym y) in
        true≢false (sym t ∙ e))))

-- over all branches it counts once
body_share : (w : World) (v : ℕ) (b : BodyValue) → IsGood w → Contains w.bodies b → sum_by (λ k. cond (contains k b) v 0) (all_branches w) ≡ v
body_share w v b g h =
    let below : rank_of w b < w.ranks = All-contains (λ (x : BodyValue). rank_of w x < w.ranks) w.bodies b g.ranked h in
    sum_flat (λ k. cond (contains k b) v 0) (branches w) (numbers_below w.ranks)
    ∙ (sum_same (λ q. sum_by (λ k. cond (contains k b) v 0) (branches w q)) (λ q. cond (eqb q (rank_of w b)) v 0) (numbers_below w.ranks) (λ q m. rank_share w q v b g h)
    ∙ sum_one (λ q. eqb q (rank_of w b)) v (numbers_below w.ranks) (rank_of w b) (below_ascends w.ranks) (below_has w.ranks (rank_of w b) below) (eq-eqb _ _ refl) (λ j m e. eqb-true _ _ e))

-- nothing, summed
sum-nothing : (ks : List ℕ) → sum_by (λ k. 0) ks ≡ 0
sum-nothing ks = sum_none (λ k. false) 0 ks (λ k m. refl)

-- whatever is summed over bodies is summed over the branches that they lie in
bodies_share : (w : World) (f : BodyValue → ℕ) → IsGood w → (xs : List BodyValue) → ((b : BodyValue) → Contains xs b → Contains w.bodies b) → sum_by (λ k. sum_by f (inside xs k)) (all_branches w) ≡ sum_by f xs
bodies_share w f g [] h = sum-nothing (all_branches w)
bodies_share w f g (x ∷ xs) h =
    let ks = all_branches w in
    let step : sum_by (λ k. sum_by f (inside (x ∷ xs) k)) ks ≡ sum_by (λ k. cond (contains k x) (f x) 0 + sum_by f (inside xs k)) ks =
    sum_same (λ k. sum_by f (inside (x ∷ xs) k)) (λ k. cond (contains k x) (f x) 0 + sum_by f (inside xs k)) ks (λ k m. sum_by-filter-cons (contains k) f x xs) in
    omega (
      arith,
      step,
      sum_both (λ k. cond (contains k x) (f x) 0) (λ k. sum_by f (inside xs k)) ks,
      body_share w (f x) x g (h x (head_has x xs)),
      bodies_share w f g xs (λ b m. h b (tail_has x xs b m)),
      sum_by-cons f x xs,
    )

-- the same over the listed records
records_share : (w : World) (p : CellValue → ℕ) (f : BodyValue → ℕ) → ((k : ℕ) → p (cell_record w.bodies k) ≡ sum_by f (bodies_in w k)) → IsGood w → sum_by (λ x. p x.rec) (all_listed (branch_lists w)) ≡ sum_by f w.bodies
records_share w p f e g =
    sym (sum_map p (λ (x : Listed). x.rec) (all_listed (branch_lists w)))
    ∙ (ap (sum_by p) (listed-records w)
    ∙ (sum_map p (cell_record w.bodies) (all_branches w)
    ∙ (sum_same (λ k. p (cell_record w.bodies k)) (λ k. sum_by f (bodies_in w k)) (all_branches w) (λ k m. e k)
    ∙ bodies_share w f g w.bodies (λ b m. m))))

-- a list is as long as the sum of its ones
length-ones : (xs : List BodyValue) → length xs ≡ sum_by (λ b. 1) xs
length-ones [] = refl
length-ones (x ∷ xs) = omega (arith, length-ones xs, sum_by-cons (λ (b : BodyValue). 1) x xs)

-- the listed records count all bodies
pub listed-count : (w : World) → IsGood w → sum_by (λ x. x.rec.count) (all_listed (branch_lists w)) ≡ length w.bodies
listed-count w g = records_share w (λ r. r.count) (λ b. 1) (λ k. length-ones (bodies_in w k)) g ∙ sym (length-ones w.bodies)

-- and have their mass
pub listed-mass : (w : World) → IsGood w → sum_by (λ x. x.rec.mass) (all_listed (branch_lists w)) ≡ mass_of w.bodies
listed-mass w g = records_share w (λ r. r.mass) mass_of_body (λ k. refl) g
