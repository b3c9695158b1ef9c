use Rattle.std.proofs.Common.{ℤ, ◌^◌, ap, ◌∙◌}
use Rattle.hot_units.proofs.Signed.{stored}
use Rattle.hot_model.specs.Second.{trunc}
use Rattle.fixed_kernel.proofs.Signs.{five-stored, five-small}
use Rattle.fixed_kernel.proofs.quads.fivefold.Goals as goal

pub returns-clause-value : goal.returns-clause-value
returns-clause-value c =
    stored c.trunc.result _ (record { sfits = c.trunc.type_inv })
    (c.trunc.ensures.value ∙ ap (λ (z : ℤ). trunc z (2 ^ 21)) (five-stored c.args.g c.args.n c.ranges.g c.ranges.n c.requires.g_in c.requires.n_in))

pub returns-clause-within : goal.returns-clause-within
returns-clause-within c = rw (returns-clause-value c) (five-small c.args.g c.args.n c.requires.g_in c.requires.n_in)
