use Rattle.std.proofs.Common.{ap, subst, ◌∙◌}
use Rattle.hot_units.specs.Values.{CellValue, point_at}
use Rattle.hot_units.specs.Keys.{side}
use Rattle.hot_model.specs.Facts.{IsCellRecord}
use Rattle.hot_model.specs.Kernel.{square}
use Rattle.fixed_kernel.proofs.Bending.{none-near, beyond-apart, beyond-side, heads-small, far-value, value-small}
use Rattle.fixed_kernel.proofs.quads.quad_softened.Goals as goal

pub returns-then-apart-squared_side-clause-value : goal.returns-then-apart-squared_side-clause-value
returns-then-apart-squared_side-clause-value c =
    none-near c.args.eps (point_at c.args.p) c.args.c.now c.args.at c.args.apart c.squared_side.result
    (record {
      facts = subst (λ (v : CellValue). IsCellRecord v) c.c.view_is c.c.invariant.0;
      some = c.requires.not_empty;
      centred = c.requires.centred;
      apart_is = c.requires.apart_is;
      side_is = c.squared_side.ensures.value ∙ ap (λ (v : CellValue). square (side v.key)) c.c.view_is;
    })
    c.if-apart-squared_side.true

pub direction-requires-clause-beyond : goal.direction-requires-clause-beyond
direction-requires-clause-beyond c = beyond-apart c.args.eps c.args.r2 (point_at c.args.p) c.args.at c.requires.softened

pub quad_over-requires-clause-beyond : goal.quad_over-requires-clause-beyond
quad_over-requires-clause-beyond c =
    (beyond-side c.args.eps c.args.r2 (point_at c.args.p) c.args.c.now c.args.at c.args.apart c.squared_side.result
    (record {
      facts = subst (λ (v : CellValue). IsCellRecord v) c.c.view_is c.c.invariant.0;
      some = c.requires.not_empty;
      centred = c.requires.centred;
      apart_is = c.requires.apart_is;
      side_is = c.squared_side.ensures.value ∙ ap (λ (v : CellValue). square (side v.key)) c.c.view_is;
    })
    c.if-apart-squared_side.false c.requires.softened).0

pub quad_over-requires-clause-far : goal.quad_over-requires-clause-far
quad_over-requires-clause-far c =
    (beyond-side c.args.eps c.args.r2 (point_at c.args.p) c.args.c.now c.args.at c.args.apart c.squared_side.result
    (record {
      facts = subst (λ (v : CellValue). IsCellRecord v) c.c.view_is c.c.invariant.0;
      some = c.requires.not_empty;
      centred = c.requires.centred;
      apart_is = c.requires.apart_is;
      side_is = c.squared_side.ensures.value ∙ ap (λ (v : CellValue). square (side v.key)) c.c.view_is;
    })
    c.if-apart-squared_side.false c.requires.softened).1

pub quad_over-requires-clause-n_in : goal.quad_over-requires-clause-n_in
quad_over-requires-clause-n_in c =
    heads-small c.args.eps c.args.r2 (point_at c.args.p) c.args.at c.direction.result c.requires.softened c.direction.ensures.value

pub returns-clause-value : goal.returns-clause-value
returns-clause-value c =
    far-value c.args.eps c.args.r2 (point_at c.args.p) c.args.c.now c.args.at c.direction.result c.quad_over.result c.args.apart c.squared_side.result
    (record {
      facts = subst (λ (v : CellValue). IsCellRecord v) c.c.view_is c.c.invariant.0;
      some = c.requires.not_empty;
      centred = c.requires.centred;
      apart_is = c.requires.apart_is;
      side_is = c.squared_side.ensures.value ∙ ap (λ (v : CellValue). square (side v.key)) c.c.view_is;
    })
    c.if-apart-squared_side.false c.requires.softened c.direction.ensures.value c.quad_over.ensures.value

pub returns-clause-within : goal.returns-clause-within
returns-clause-within c =
    value-small c.args.eps (point_at c.args.p) c.args.c.now c.quad_over.result
    (subst (λ (v : CellValue). IsCellRecord v) c.c.view_is c.c.invariant.0) c.requires.not_empty (returns-clause-value c)
