use Rattle.std.proofs.Common.{ℕ, suc, ◌≡◌, ◌+◌, List, [], ◌∷◌, ◌++◌, length, map, sym, ap, ◌∙◌, arith, get_or, add-one}
use Rattle.hot_units.specs.Numbers.{numbers_below}
use Rattle.rank_model.specs.World.{rank_of}
use Rattle.work_split.specs.Splits.{world_of, start}
use Rattle.work_split.proofs.Cuts.{lower-none}
use Rattle.work_split.proofs.Lists.{next-start, start-within, none-yet, next-rank, length-of-ranks, weights-all, pieces-are}
use Rattle.work_split.proofs.pieces.split.Goals as goal

-- at first there is the start of rank 0, which is 0
pub loop-count-init : goal.loop-count-init
loop-count-init c =
    let none : start (world_of c.args.set.now c.args.ranks) 0 ≡ 0 = lower-none (λ b. rank_of (world_of c.args.set.now c.args.ranks) b) c.args.set.now.bodies in
    record {
      at = sym none;
      starts =
          c.in_ok-push.ensures.items
          ∙ (ap (λ (xs : List ℕ). xs ++ 0 ∷ []) c.in_ok-starts.ensures.items
          ∙ (ap (λ (n : ℕ). n ∷ []) (sym none) ∙ sym (none-yet (start (world_of c.args.set.now c.args.ranks)))));
    }

-- the start of a rank and its count together fit
pub overflow_add-at : goal.overflow_add-at
overflow_add-at c =
    let q = c.loop-count.count-index in
    let next = next-start c.args.set.now c.args.ranks c.bodies-bodies.result.now c.weights.result.now c.in_ok-shares.shares.counts.items q c.loop-count.at _
    c.bodies-bodies.ensures.value c.weights.ensures.value c.in_ok-shares.ensures.counts (ap (λ (xs : List ℕ). get_or xs q 0) c.deref-count-items.ensures.value) c.loop-count.invariant.at in
    omega (arith, next, start-within c.args.set.now c.args.ranks (suc q), c.bodies-bodies.ensures.facts.few)

-- each rank's count added gives the start of the next
pub loop-count-preserved : goal.loop-count-preserved
loop-count-preserved c =
    let q = c.loop-count.count-index in
    let f = start (world_of c.args.set.now c.args.ranks) in
    let n = get_or c.deref-count-items.result.now q 0 in
    let next : c.loop-count.at + n ≡ start (world_of c.args.set.now c.args.ranks) (q + 1) =
    next-start c.args.set.now c.args.ranks c.bodies-bodies.result.now c.weights.result.now c.in_ok-shares.shares.counts.items q c.loop-count.at n
    c.bodies-bodies.ensures.value c.weights.ensures.value c.in_ok-shares.ensures.counts (ap (λ (xs : List ℕ). get_or xs q 0) c.deref-count-items.ensures.value) c.loop-count.invariant.at
    ∙ ap f (sym (add-one q)) in
    record {
      at = next;
      starts =
          c.in_ok-push-2.ensures.items
          ∙ (ap (λ (xs : List ℕ). xs ++ (c.loop-count.at + n) ∷ []) c.loop-count.invariant.starts
          ∙ (ap (λ (k : ℕ). map f (numbers_below k) ++ (c.loop-count.at + n) ∷ []) (sym (add-one q))
          ∙ (ap (λ (v : ℕ). map f (numbers_below (q + 1)) ++ v ∷ []) next ∙ sym (next-rank f (q + 1)))));
    }

-- there is one start more than there are weights
pub invariant_of-result : goal.invariant_of-result
invariant_of-result c =
    let f = start (world_of c.args.set.now c.args.ranks) in
    let all : c.loop-count.count-index ≡ c.args.ranks = omega (arith, c.in_ok-shares.ensures.counts.each, ap (λ (xs : List ℕ). length xs) c.deref-count-items.ensures.value) in
    ap (λ (xs : List ℕ). length xs) c.loop-count.invariant.starts
    ∙ (length-of-ranks f (suc c.loop-count.count-index) ∙ omega (arith, all, c.in_ok-shares.ensures.weights.each))

-- starts and weights are those of the set split over the ranks
pub returns-clause-pieces : goal.returns-clause-pieces
returns-clause-pieces c =
    let f = start (world_of c.args.set.now c.args.ranks) in
    let all : c.loop-count.count-index ≡ c.args.ranks = omega (arith, c.in_ok-shares.ensures.counts.each, ap (λ (xs : List ℕ). length xs) c.deref-count-items.ensures.value) in
    pieces-are c.args.set.now c.args.ranks c.loop-count.starts.items c.in_ok-shares.shares.weights.items
    (c.loop-count.invariant.starts ∙ ap (λ (k : ℕ). map f (numbers_below (suc k))) all)
    (weights-all c.args.set.now c.args.ranks c.bodies-bodies.result.now c.weights.result.now c.in_ok-shares.shares.weights.items c.bodies-bodies.ensures.value c.weights.ensures.value c.in_ok-shares.ensures.weights)
