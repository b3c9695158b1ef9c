use Rattle.std.proofs.Common.{refl, subst}
use Rattle.hot_units.specs.Values.{CellValue, vector_at}
use Rattle.hot_model.specs.Facts.{IsCellRecord}
use Rattle.hot_model.proofs.Second.{spread-fits, tensor-fits, turned-fits}
use Rattle.fixed_kernel.proofs.Bending.{quadrupole-short}
use Rattle.fixed_kernel.proofs.quads.quad_over.Goals as goal

pub traceless-requires : goal.traceless-requires
traceless-requires c =
    let f = subst (λ (v : CellValue). IsCellRecord v) c.c.view_is c.c.invariant.0 in
    record { small = rw c.spread.ensures.value (spread-fits c.args.c.now f c.requires.not_empty) }

pub scaled-requires-clause-small : goal.scaled-requires-clause-small
scaled-requires-clause-small c =
    let f = subst (λ (v : CellValue). IsCellRecord v) c.c.view_is c.c.invariant.0 in
    rw (c.traceless.ensures.value, c.spread.ensures.value) (tensor-fits c.args.c.now f c.requires.not_empty)

pub times-requires-clause-small : goal.times-requires-clause-small
times-requires-clause-small c =
    let f = subst (λ (v : CellValue). IsCellRecord v) c.c.view_is c.c.invariant.0 in
    rw (c.scaled.ensures.value, c.traceless.ensures.value, c.spread.ensures.value) (quadrupole-short c.args.c.now c.args.r2 f c.requires.not_empty c.requires.beyond)

pub bent-requires-clause-t_in : goal.bent-requires-clause-t_in
bent-requires-clause-t_in c =
    let f = subst (λ (v : CellValue). IsCellRecord v) c.c.view_is c.c.invariant.0 in
    rw (c.times.ensures.value, c.scaled.ensures.value, c.traceless.ensures.value, c.spread.ensures.value) (turned-fits c.args.c.now c.args.r2 (vector_at c.args.n) f c.requires.not_empty c.requires.beyond c.requires.n_in)

pub returns : goal.returns
returns c = record {
  value = rw (c.bent.ensures.value, c.times.ensures.value, c.scaled.ensures.value, c.traceless.ensures.value, c.spread.ensures.value) refl;
}
