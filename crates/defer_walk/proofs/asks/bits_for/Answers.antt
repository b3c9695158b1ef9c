use Rattle.std.proofs.Common.{◌≡◌, ◌<◌, ◌-◌, ◌^◌, ℕ, arith, subst, inl, inr}
use Rattle.defer_walk.proofs.asks.bits_for.Goals as goal

pub returns-clause-fewest : goal.returns-clause-fewest
returns-clause-fewest c =
    elim c.loop-bits.invariant [
      | inl e ↦ absurd (omega (arith, e, c.loop-bits.auto.bits-end))
      | inr l ↦ inr (let end : c.loop-bits.bits ≡ 24 = omega (arith, c.loop-bits.auto.bits-end) in subst (λ (n : ℕ). 2 ^ (n - 1) < c.args.bodies) end l)
    ]
