-- Terms may be added in any order.
use Rattle.std.proofs.Common.{ℕ, ◌≡◌, Bool, true, false, cond, eqb, List, [], ◌∷◌, ◌++◌, map, flat_map, sym, refl, ap, ◌∙◌}
use Rattle.std.proofs.lemmas.List.Concat.{flat_map-append}
use Rattle.std.proofs.lemmas.Bool.{eq-eqb, ne_eqb}
use Rattle.std.specs.Prelude.{◌≢◌}
use Rattle.hot_units.specs.Values.{CellValue}
use Rattle.hot_model.specs.Trees.{Term, added}
use Rattle.hot_model.proofs.Walks.{added-append}
use Rattle.rank_model.specs.Pairs.{MaySwap, PairValue, rests_at, pair_with}

-- one term may be added last
pub added-last : {A : Type 0} (add : A → Term → A) → MaySwap add → (a : A) (t : Term) (ts : List Term) → added add (add a t) ts ≡ add (added add a ts) t
added-last add m a t [] = refl
added-last {A = A} add m a t (u ∷ us) = ap (λ (x : A). added add x us) (m.swaps a t u) ∙ added-last add m (add a u) t us

-- two lists of terms may change places
pub added-exchange : {A : Type 0} (add : A → Term → A) → MaySwap add → (a : A) (ss ts : List Term) → added add (added add a ss) ts ≡ added add (added add a ts) ss
added-exchange add m a [] ts = refl
added-exchange {A = A} add m a (s ∷ ss) ts =
    added-exchange add m (add a s) ss ts ∙ ap (λ (x : A). added add x ss) (added-last add m a s ts)

-- terms in the middle may be added first
pub added-middle : {A : Type 0} (add : A → Term → A) → MaySwap add → (a : A) (xs ts ys : List Term) → added add a (xs ++ (ts ++ ys)) ≡ added add (added add a ts) (xs ++ ys)
added-middle {A = A} add m a xs ts ys =
    added-append add a xs (ts ++ ys)
    ∙ (added-append add (added add a xs) ts ys
    ∙ (ap (λ (x : A). added add x ys) (added-exchange add m a xs ts)
    ∙ sym (added-append add (added add a ts) xs ys)))

-- what rests of two lists of pairs
pub rests-append : {X : Type 0} (rest : PairValue → List X) (i : ℕ) (ps qs : List PairValue) → rests_at rest i (ps ++ qs) ≡ rests_at rest i ps ++ rests_at rest i qs
rests-append rest i ps qs = flat_map-append (λ p. cond (eqb p.body i) (rest p) []) ps qs

-- of pairs of one body all rests, and of other ones nothing
pub rests-mine : {X : Type 0} (rest : PairValue → List X) (i : ℕ) (whole : Bool) (rs : List CellValue) → rests_at rest i (map (pair_with i whole) rs) ≡ flat_map (λ r. rest (pair_with i whole r)) rs
rests-mine rest i whole [] = refl
rests-mine {X = X} rest i whole (r ∷ rs) =
    let t : eqb i i ≡ true = eq-eqb _ _ refl in
    rw t (ap (λ (ys : List X). rest (pair_with i whole r) ++ ys) (rests-mine rest i whole rs))

-- of the pairs of another body nothing rests
pub rests-other : {X : Type 0} (rest : PairValue → List X) (i j : ℕ) (whole : Bool) (rs : List CellValue) → j ≢ i → rests_at rest i (map (pair_with j whole) rs) ≡ []
rests-other rest i j whole [] n = refl
rests-other rest i j whole (r ∷ rs) n =
    let t : eqb j i ≡ false = ne_eqb _ _ n in
    rw t (rests-other rest i j whole rs n)
