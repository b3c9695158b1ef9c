use Rattle.std.proofs.Common.{ℕ, ◌≡◌, ◌<◌, Some}
use Rattle.std.specs.Prelude.{All, Contains, slice_get}
use Rattle.defer_walk.specs.Waiting.{Takes}
use Rattle.defer_walk.proofs.stages.take_woken.Given as goal

abbrev pub invariant-loop-key : goal.invariant-loop-key
invariant-loop-key l = record {
  slots : l.asks.slots ≡ l.fn.asks.slots;
  from : All (λ h. Contains l.woken h.key) l.waits.items;
  taken : Takes l.waits.items l.fn.asks.pairs l.asks.pairs;
  none : (j k : ℕ) → j < l.key-index → slice_get l.woken j ≡ Some k → All (λ p. p.key ≡ k → ⊥) l.asks.pairs;
}
