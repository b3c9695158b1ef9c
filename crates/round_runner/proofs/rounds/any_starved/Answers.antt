use Rattle.std.proofs.Common.{◌≡◌, ℕ, Some, ap, arith, sym, subst, ◌∙◌, inl, inr, slice_get}
use Rattle.protocol.proofs.Places.{get_at, get_one, get_within}
use Rattle.protocol.proofs.Weights.{same_or_not}
use Rattle.rank_core.specs.Seats.{seat_of}
use Rattle.round_runner.proofs.rounds.any_starved.Goals as goal

-- where a starved rank is met, there is one
pub returns-then-starved-clause-some : goal.returns-then-starved-clause-some
returns-then-starved-clause-some g c = λ e. (
  c.loop-rank.rank-index,
  c.rank-item.result,
  get_at c.args.ranks.now c.loop-rank.rank-index c.rank-item.result c.loop-rank-test.true ∙ ap (λ x. Some x) (sym c.rank-item.is),
  sym c.starved.ensures.value ∙ c.if-starved.true,
)

-- with one more rank that is not starved, none so far is
pub loop-rank-preserved : goal.loop-rank-preserved
loop-rank-preserved g c = λ q r lt gr.
    let here = get_at c.args.ranks.now c.loop-rank.rank-index c.rank-item.result c.loop-rank-test.true ∙ ap (λ x. Some x) (sym c.rank-item.is) in
    elim (same_or_not q c.loop-rank.rank-index) [
      | inl e ↦ ap (λ x. (seat_of x).starved) (get_one c.args.ranks.now c.loop-rank.rank-index r c.rank-item.result (subst (λ (i : ℕ). slice_get c.args.ranks.now i ≡ Some r) e gr) here) ∙ (sym c.starved.ensures.value ∙ c.if-starved.false)
      | inr ne ↦ c.loop-rank.invariant q r (omega arith) gr
    ]

-- where none was met, none is starved
pub returns-clause-none : goal.returns-clause-none
returns-clause-none g c = λ e q r gr. c.loop-rank.invariant q r (let lt = get_within c.args.ranks.now q r gr in omega arith) gr
