-- Lists by rank, and the pieces of a set.
use Rattle.std.proofs.Common.{ℕ, zero, suc, ◌≡◌, ◌+◌, ◌-◌, ◌<◌, ◌≤◌, ltb, List, [], ◌∷◌, ◌++◌, length, map, take, drop, get_or, sym, refl, ap, subst, ◌∙◌, inl, inr, arith, add-one, length-append}
use Rattle.std.specs.Prelude.{slice_range}
use Rattle.std.proofs.lemmas.Bool.{cases_lt}
use Rattle.std.proofs.lemmas.List.{map-append, length-map, ext_get_or, get_or-map, get_or_append_left, get_or_at, drop-take}
use Rattle.std.proofs.lemmas.List.Sums.{count_by-le-length}
use Rattle.hot_units.specs.Values.{BodyValue}
use Rattle.hot_units.specs.Numbers.{greatest, least, numbers_below}
use Rattle.hot_units.specs.Keys.{key_of_body}
use Rattle.rank_model.specs.World.{rank_of, piece, left_of, right_of}
use Rattle.key_order.specs.Ordered.{OrderedValue, IsOrderedSet}
use Rattle.work_split.specs.Values.{PiecesValue}
use Rattle.work_split.specs.Splits.{world_of, start, weight_of, pieces_of, IsRun, AreCounts, AreWeights}
use Rattle.work_split.proofs.Cuts.{lower-next, front-lower, middle-lower, back-lower, ranks_climb}

-- there are n numbers below n
pub length-below : (n : ℕ) → length (numbers_below n) ≡ n
unfolding numbers_below
length-below zero = refl
length-below (suc n) = length-append (numbers_below n) (n ∷ []) ∙ omega (arith, length-below n)

below-at : (n q : ℕ) → q < n → get_or (numbers_below n) q 0 ≡ q
unfolding numbers_below
below-at zero q h = absurd (omega (arith, h))
below-at (suc n) q h = elim (cases_lt q n) [
  | inl p ↦ get_or_append_left (numbers_below n) (n ∷ []) 0 q (omega (arith, p, length-below n)) ∙ below-at n q p
  | inr p ↦ get_or_at (numbers_below n) n [] 0 q (omega (arith, p, h, length-below n)) ∙ omega (arith, p, h)
]

-- what is made of each rank, by the rank
pub of-rank : (f : ℕ → ℕ) (n q : ℕ) → q < n → get_or (map f (numbers_below n)) q 0 ≡ f q
of-rank f n q h = get_or-map f (numbers_below n) q 0 0 (omega (arith, h, length-below n)) ∙ ap f (below-at n q h)

-- a list made of n ranks has length n
pub length-of-ranks : (f : ℕ → ℕ) (n : ℕ) → length (map f (numbers_below n)) ≡ n
length-of-ranks f n = length-map (numbers_below n) f ∙ length-below n

-- a list made of one rank more has the new rank's at its end
pub next-rank : (f : ℕ → ℕ) (n : ℕ) → map f (numbers_below (suc n)) ≡ map f (numbers_below n) ++ f n ∷ []
unfolding numbers_below
next-rank f n = map-append f (numbers_below n) (n ∷ [])

-- a list made of one rank has that of rank 0 alone
pub none-yet : (f : ℕ → ℕ) → map f (numbers_below 1) ≡ f 0 ∷ []
unfolding numbers_below
none-yet f = refl

all-ranks : (f : ℕ → ℕ) (n : ℕ) (xs : List ℕ) → length xs ≡ n → ((q : ℕ) → get_or xs q 0 ≡ f q) → xs ≡ map f (numbers_below n)
all-ranks f n xs h g =
    ext_get_or 0 xs (map f (numbers_below n)) (h ∙ sym (length-of-ranks f n)) (λ q l. g q ∙ sym (of-rank f n q (omega (arith, l, h))))

-- the weights of all ranks
pub weights-all : (set : OrderedValue) (ranks : ℕ) (bodies : List BodyValue) (weights sums : List ℕ) → bodies ≡ set.bodies → weights ≡ set.weights → AreWeights bodies weights ranks bodies sums → sums ≡ map (weight_of set ranks) (numbers_below ranks)
weights-all set ranks bodies weights sums e f h =
    let a = subst (λ (xs : List BodyValue). AreWeights xs weights ranks xs sums) e h in
    let b = subst (λ (ws : List ℕ). AreWeights set.bodies ws ranks set.bodies sums) f a in
    all-ranks (weight_of set ranks) ranks sums b.each (λ q. b.sums_are q)

-- the next start
pub next-start : (set : OrderedValue) (ranks : ℕ) (bodies : List BodyValue) (weights counts : List ℕ) (q at n : ℕ) → bodies ≡ set.bodies → weights ≡ set.weights → AreCounts bodies weights ranks bodies counts → n ≡ get_or counts q 0 → at ≡ start (world_of set ranks) q → at + n ≡ start (world_of set ranks) (suc q)
next-start set ranks bodies weights counts q at n e f h at_is start_is =
    let a = subst (λ (xs : List BodyValue). AreCounts xs weights ranks xs counts) e h in
    let b = subst (λ (ws : List ℕ). AreCounts set.bodies ws ranks set.bodies counts) f a in
    omega (arith, b.counts_are q, at_is, start_is, lower-next (λ b. rank_of (world_of set ranks) b) q set.bodies)

-- no piece starts behind the end of the list
pub start-within : (set : OrderedValue) (ranks q : ℕ) → start (world_of set ranks) q ≤ length set.bodies
start-within set ranks q = count_by-le-length (λ b. ltb (rank_of (world_of set ranks) b) q) set.bodies

-- a range, both ways
range-is : (from to : ℕ) (xs : List BodyValue) → from ≤ to → drop from (take to xs) ≡ slice_range xs from to
range-is from to xs h =
    let e : from + (to - from) ≡ to = omega (arith, h) in
    ap (λ (n : ℕ). drop from (take n xs)) (sym e) ∙ drop-take from (to - from) xs

-- a piece is the run between two starts
pub run_of : (set : OrderedValue) (ranks q from to : ℕ) → IsOrderedSet set → from ≡ start (world_of set ranks) q → to ≡ start (world_of set ranks) (suc q) → IsRun set.bodies (piece (world_of set ranks) q) from to
run_of set ranks q from to h e f =
    let ascends : from ≤ to = omega (arith, e, f, lower-next (λ b. rank_of (world_of set ranks) b) q set.bodies) in
    record {
      bodies_are =
          sym (range-is from to set.bodies ascends) ∙ (subst (λ (i : ℕ). drop i (take to set.bodies) ≡ piece (world_of set ranks) q) (sym e)
          (subst (λ (j : ℕ). drop (start (world_of set ranks) q) (take j set.bodies) ≡ piece (world_of set ranks) q) (sym f)
          (sym (middle-lower (λ b. rank_of (world_of set ranks) b) q set.bodies (ranks_climb set.bodies set.weights ranks h.in_order)))));
      ascending = ascends;
      within = omega (arith, f, start-within set ranks (suc q));
    }

-- pieces with these starts and these weights
abbrev pub of_lists : List ℕ → List ℕ → PiecesValue
of_lists xs ys = record { starts = xs; weights = ys }

-- the starts and the weights of all ranks make the pieces of the set
pub pieces-are : (set : OrderedValue) (ranks : ℕ) (starts weights : List ℕ) → starts ≡ map (start (world_of set ranks)) (numbers_below (suc ranks)) → weights ≡ map (weight_of set ranks) (numbers_below ranks) → of_lists starts weights ≡ pieces_of set ranks
pieces-are set ranks starts weights e f =
    ap (λ (xs : List ℕ). of_lists xs weights) e ∙ ap (λ (ys : List ℕ). of_lists (map (start (world_of set ranks)) (numbers_below (suc ranks))) ys) f

-- what the two starts of a rank say
pub starts-say : (set : OrderedValue) (p : PiecesValue) (ranks q : ℕ) → p ≡ pieces_of set ranks → q < ranks → (get_or p.starts q 0 ≡ start (world_of set ranks) q) × (get_or p.starts (q + 1) 0 ≡ start (world_of set ranks) (suc q))
starts-say set p ranks q e h = (
  ap (λ (z : PiecesValue). get_or z.starts q 0) e ∙ of-rank (start (world_of set ranks)) (suc ranks) q (omega (arith, h)),
  ap (λ (z : PiecesValue). get_or z.starts (q + 1) 0) e ∙ (of-rank (start (world_of set ranks)) (suc ranks) (q + 1) (omega (arith, h)) ∙ ap (start (world_of set ranks)) (add-one q)),
)

-- the weight that the pieces keep of a rank is that of its bodies
pub weight-says : (set : OrderedValue) (p : PiecesValue) (ranks q : ℕ) → p ≡ pieces_of set ranks → q < ranks → get_or p.weights q 0 ≡ weight_of set ranks q
weight-says set p ranks q e h = ap (λ (z : PiecesValue). get_or z.weights q 0) e ∙ of-rank (weight_of set ranks) ranks q h

-- the neighbours of a rank, by its two starts
pub left-front : (set : OrderedValue) (ranks q from : ℕ) → IsOrderedSet set → from ≡ start (world_of set ranks) q → greatest (map key_of_body (take from set.bodies)) ≡ left_of (world_of set ranks) q
left-front set ranks q from h e =
    ap (λ (xs : List BodyValue). greatest (map key_of_body xs))
    (ap (λ (i : ℕ). take i set.bodies) e ∙ sym (front-lower (λ b. rank_of (world_of set ranks) b) q set.bodies (ranks_climb set.bodies set.weights ranks h.in_order)))

-- the least key from a rank's end on is its right neighbour
pub right-back : (set : OrderedValue) (ranks q to : ℕ) → IsOrderedSet set → to ≡ start (world_of set ranks) (suc q) → least (map key_of_body (drop to set.bodies)) ≡ right_of (world_of set ranks) q
right-back set ranks q to h e =
    ap (λ (xs : List BodyValue). least (map key_of_body xs))
    (ap (λ (i : ℕ). drop i set.bodies) e ∙ sym (back-lower (λ b. rank_of (world_of set ranks) b) q set.bodies (ranks_climb set.bodies set.weights ranks h.in_order)))
