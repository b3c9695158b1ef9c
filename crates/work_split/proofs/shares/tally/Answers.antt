use Rattle.std.proofs.Common.{ℕ, ◌≡◌, ◌<◌, ◌≤◌, ◌+◌, length, sym, ap, subst, ◌∙◌, arith, get_or, replicate, take, drop, sum_by, rules}
use Rattle.std.proofs.lemmas.List.{get_or_default}
use Rattle.std.specs.Prelude.{All}
use Rattle.hot_units.specs.Keys.{key_of_body}
use Rattle.hot_model.proofs.Ranges.{NoneBelow}
use Rattle.rank_model.specs.Split.{weight_in, counted, split_rank}
use Rattle.work_split.proofs.Passes.{rank-first, ahead-first, counts-first, sums-first, count-within, sum-within, counts-next, sums-next, take-short, weight-is, before-next, rank-next, whole-is, ahead-next, passed-next}
use Rattle.work_split.proofs.shares.tally.Goals as goal
use Rattle.work_split.proofs.shares.tally.Goals.{then-b-key, else-b-key, then-all-eq0, else-all-eq0}

-- before the first body counts and weights are those of no bodies
pub loop-b-init : goal.loop-b-init
loop-b-init c =
    let counts_are : c.in_ok-counts.counts.items ≡ replicate c.args.ranks 0 = c.in_ok-counts.ensures.items_if_clones_equal (λ y h. search rules) in
    let sums_are : c.in_ok-sums.sums.items ≡ replicate c.args.ranks 0 = c.in_ok-sums.ensures.items_if_clones_equal (λ y h. search rules) in
    record {
      before = omega arith;
      within = omega arith;
      rank = rank-first (weight_in c.args.weights.now) c.args.bodies.now c.args.ranks;
      inside = omega (arith, c.requires.one);
      passed = λ k d h. absurd (omega (arith, h));
      ahead = ahead-first c.args.bodies.now;
      counts = counts-first c.args.bodies.now c.args.weights.now c.args.ranks c.in_ok-counts.counts.items counts_are;
      sums = sums-first c.args.bodies.now c.args.weights.now c.args.ranks c.in_ok-sums.sums.items sums_are;
    }

-- a rank's count with one body more fits
pub overflow_add-index_mut : goal.overflow_add-index_mut
overflow_add-index_mut c =
    let i = c.loop-b.b-index in
    let rank = c.if-b-key.rank in
    let inside : c.if-b-key.rank < c.args.ranks = elim c.if-b-key.branch [ then-b-key w ↦ omega (arith, w.rank_at-rank.ensures.within) | else-b-key w ↦ omega (arith, c.loop-b.invariant.inside) ] in
    let room : c.if-b-key.rank < length c.loop-b.counts.items = omega (arith, inside, c.loop-b.invariant.counts.each) in
    let now = c.index_mut.ensures.value ∙ get_or_default c.loop-b.counts.items rank c.index_mut.result.now 0 room in
    let few = count-within c.args.bodies.now c.args.weights.now c.args.ranks rank (take i c.args.bodies.now) c.loop-b.counts.items c.loop-b.invariant.counts in
    omega (arith, now, few, take-short i c.args.bodies.now, c.requires.few)

-- a rank's weight with that of one body more fits
pub overflow_add-index_mut-in-loop-b : goal.overflow_add-index_mut-in-loop-b
overflow_add-index_mut-in-loop-b c =
    let i = c.loop-b.b-index in
    let rank = c.if-b-key.rank in
    let inside : c.if-b-key.rank < c.args.ranks = elim c.if-b-key.branch [ then-b-key w ↦ omega (arith, w.rank_at-rank.ensures.within) | else-b-key w ↦ omega (arith, c.loop-b.invariant.inside) ] in
    let room : c.if-b-key.rank < length c.loop-b.sums.items = omega (arith, inside, c.loop-b.invariant.sums.each) in
    let now = c.index_mut-in-loop-b.ensures.value ∙ get_or_default c.loop-b.sums.items rank c.index_mut-in-loop-b.result.now 0 room in
    let light = sum-within c.args.bodies.now c.args.weights.now c.args.ranks rank (take i c.args.bodies.now) c.loop-b.sums.items c.loop-b.invariant.sums in
    omega (arith, now, light, c.loop-b.invariant.before, c.loop-b.invariant.within, c.loop-b-test.true, c.requires.few, c.counted-weight.ensures.within)

-- each body is counted for its rank, and its weight is added there
pub loop-b-preserved : goal.loop-b-preserved
loop-b-preserved c =
    let i = c.loop-b.b-index in
    let bodies = c.args.bodies.now in
    let weights = c.args.weights.now in
    let weight = weight_in c.args.weights.now in
    let x = c.b-item.result in
    let rank = c.if-b-key.rank in
    let here : i < length c.args.bodies.now = c.loop-b-test.true in
    let key : c.b.inside.key ≡ key_of_body c.b-item.result = c.b.invariant.5 ∙ ap key_of_body c.b.view_is in
    let whole : c.if-all-eq0.whole ≡ sum_by (counted (weight_in c.args.weights.now) c.args.bodies.now) c.args.bodies.now =
    whole-is weight bodies c.total-all.result c.if-all-eq0.whole c.total-all.ensures.value
    (λ z. elim c.if-all-eq0.branch [ then-all-eq0 w ↦ omega (arith, w.whole-is) | else-all-eq0 w ↦ absurd (w.if-all-eq0.false z) ])
    (λ n. elim c.if-all-eq0.branch [ then-all-eq0 w ↦ absurd (n w.if-all-eq0.true) | else-all-eq0 w ↦ w.whole-is ]) in
    let key_is : c.if-b-key.key ≡ key_of_body c.b-item.result = elim c.if-b-key.branch [ then-b-key w ↦ w.key-is ∙ key | else-b-key w ↦ w.key-is ∙ (sym w.if-b-key.false ∙ key) ] in
    let rank_is : c.if-b-key.rank ≡ split_rank (weight_in c.args.weights.now) c.args.bodies.now c.args.ranks c.if-b-key.key =
    elim c.if-b-key.branch [
      | then-b-key w ↦
          rank-next weight bodies c.args.ranks c.if-all-eq0.whole c.loop-b.before rank c.loop-b.key c.if-b-key.key i x c.requires.order here c.b-item.is (sym key_is)
          (λ e. w.if-b-key.true (sym w.key-is ∙ e)) c.loop-b.invariant.ahead c.loop-b.invariant.passed whole c.loop-b.invariant.before (w.rank-is ∙ w.rank_at-rank.ensures.value)
      | else-b-key w ↦ w.rank-is ∙ (c.loop-b.invariant.rank ∙ ap (λ (k : ℕ). split_rank (weight_in c.args.weights.now) c.args.bodies.now c.args.ranks k) (sym w.key-is))
    ] in
    let inside : c.if-b-key.rank < c.args.ranks = elim c.if-b-key.branch [ then-b-key w ↦ omega (arith, w.rank_at-rank.ensures.within) | else-b-key w ↦ omega (arith, c.loop-b.invariant.inside) ] in
    let of_body = rank_is ∙ ap (λ (k : ℕ). split_rank (weight_in c.args.weights.now) c.args.bodies.now c.args.ranks k) key_is in
    let adds = weight-is weight bodies c.total-all.result x c.counted-weight.result c.total-all.ensures.value c.counted-weight.ensures.value in
    let room : c.if-b-key.rank < length c.loop-b.counts.items = omega (arith, inside, c.loop-b.invariant.counts.each) in
    let space : c.if-b-key.rank < length c.loop-b.sums.items = omega (arith, inside, c.loop-b.invariant.sums.each) in
    let count : c.index_mut.result.now ≡ get_or c.loop-b.counts.items c.if-b-key.rank 0 = c.index_mut.ensures.value ∙ get_or_default c.loop-b.counts.items rank c.index_mut.result.now 0 room in
    let sum : c.index_mut-in-loop-b.result.now ≡ get_or c.loop-b.sums.items c.if-b-key.rank 0 = c.index_mut-in-loop-b.ensures.value ∙ get_or_default c.loop-b.sums.items rank c.index_mut-in-loop-b.result.now 0 space in
    record {
      before = before-next weight bodies i c.loop-b.before c.counted-weight.result x here c.b-item.is adds c.loop-b.invariant.before;
      within = omega (arith, c.loop-b.invariant.within, c.counted-weight.ensures.within);
      rank = rank_is;
      inside = inside;
      passed = subst (λ (k : ℕ). All (λ b. key_of_body b ≤ k) (take (i + 1) bodies)) (sym key_is) (passed-next c.loop-b.key i bodies x c.loop-b.invariant.ahead here c.b-item.is c.loop-b.invariant.passed);
      ahead = subst (λ (k : ℕ). NoneBelow k (drop (i + 1) bodies)) (sym key_is) (ahead-next i bodies x c.requires.order here c.b-item.is);
      counts = counts-next bodies weights c.args.ranks i x c.loop-b.counts.items rank _ here c.b-item.is of_body inside (ap (λ (n : ℕ). n + 1) count) c.loop-b.invariant.counts;
      sums = sums-next bodies weights c.args.ranks i x c.loop-b.sums.items rank _ here c.b-item.is of_body inside (ap (λ (n : ℕ). n + c.counted-weight.result) sum ∙ ap (λ (n : ℕ). get_or c.loop-b.sums.items c.if-b-key.rank 0 + n) adds) c.loop-b.invariant.sums;
    }
