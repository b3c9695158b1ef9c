use Rattle.std.proofs.Common.{◌∙◌, ap, sym, rules}
use mir.Syntax.{w128}
use mir.Val.{SFits}
use Rattle.hot_units.specs.Values.{coordinates, CellValue, cell_of}
use Rattle.hot_units.proofs.Signed.{stored}
use Rattle.hot_model.specs.Kernel.{centre}
use Rattle.hot_model.specs.Second.{spread}
use Rattle.hot_model.proofs.Corners.{sxx-in-cube, syy-in-cube, szz-in-cube, sxy-in-cube, sxz-in-cube, syz-in-cube}
use Rattle.fixed_kernel.proofs.Signs.{spread-is, centre-at-x, centre-at-y, centre-at-z, some-mass}
use Rattle.fixed_kernel.proofs.products.spread.Goals as goal

pub spread_along-requires-clause-q_in : goal.spread_along-requires-clause-q_in
spread_along-requires-clause-q_in c =
    let i = c.c.inside in
    sxx-in-cube (cell_of i.key i.count i.mass i.sx i.sy i.sz i.sxx i.syy i.szz i.sxy i.sxz i.syz) c.c.invariant.0

pub spread_along-requires-2-clause-q_in : goal.spread_along-requires-2-clause-q_in
spread_along-requires-2-clause-q_in c =
    let i = c.c.inside in
    syy-in-cube (cell_of i.key i.count i.mass i.sx i.sy i.sz i.sxx i.syy i.szz i.sxy i.sxz i.syz) c.c.invariant.0

pub spread_along-requires-3-clause-q_in : goal.spread_along-requires-3-clause-q_in
spread_along-requires-3-clause-q_in c =
    let i = c.c.inside in
    szz-in-cube (cell_of i.key i.count i.mass i.sx i.sy i.sz i.sxx i.syy i.szz i.sxy i.sxz i.syz) c.c.invariant.0

pub spread_along-requires-4-clause-q_in : goal.spread_along-requires-4-clause-q_in
spread_along-requires-4-clause-q_in c =
    let i = c.c.inside in
    sxy-in-cube (cell_of i.key i.count i.mass i.sx i.sy i.sz i.sxx i.syy i.szz i.sxy i.sxz i.syz) c.c.invariant.0

pub spread_along-requires-5-clause-q_in : goal.spread_along-requires-5-clause-q_in
spread_along-requires-5-clause-q_in c =
    let i = c.c.inside in
    sxz-in-cube (cell_of i.key i.count i.mass i.sx i.sy i.sz i.sxx i.syy i.szz i.sxy i.sxz i.syz) c.c.invariant.0

pub spread_along-requires-6-clause-q_in : goal.spread_along-requires-6-clause-q_in
spread_along-requires-6-clause-q_in c =
    let i = c.c.inside in
    syz-in-cube (cell_of i.key i.count i.mass i.sx i.sy i.sz i.sxx i.syy i.szz i.sxy i.sxz i.syz) c.c.invariant.0

pub returns : goal.returns
returns c =
    let i = c.c.inside in
    let r = cell_of i.key i.count i.mass i.sx i.sy i.sz i.sxx i.syy i.szz i.sxy i.sxz i.syz in
    let f : SFits w128 c.spread_along.result = search rules in
    let g : SFits w128 c.spread_along-2.result = search rules in
    let h : SFits w128 c.spread_along-3.result = search rules in
    let k : SFits w128 c.spread_along-4.result = search rules in
    let l : SFits w128 c.spread_along-5.result = search rules in
    let m : SFits w128 c.spread_along-6.result = search rules in
    record {
      value =
          spread-is r c.centre.result _
          (c.centre.ensures.value ∙ ap (λ (v : CellValue). coordinates (centre v)) (sym c.c.view_is))
          (stored c.spread_along.result _ f c.spread_along.ensures.value)
          (stored c.spread_along-2.result _ g c.spread_along-2.ensures.value)
          (stored c.spread_along-3.result _ h c.spread_along-3.ensures.value)
          (stored c.spread_along-4.result _ k c.spread_along-4.ensures.value)
          (stored c.spread_along-5.result _ l c.spread_along-5.ensures.value)
          (stored c.spread_along-6.result _ m c.spread_along-6.ensures.value)
          ∙ ap spread c.c.view_is;
    }

pub spread_along-requires-clause-some : goal.spread_along-requires-clause-some
spread_along-requires-clause-some c =
    let i = c.c.inside in
    some-mass (cell_of i.key i.count i.mass i.sx i.sy i.sz i.sxx i.syy i.szz i.sxy i.sxz i.syz) c.args.c.now c.c.view_is c.c.invariant.0 c.requires.not_empty

pub spread_along-requires-clause-centred : goal.spread_along-requires-clause-centred
spread_along-requires-clause-centred c =
    let i = c.c.inside in
    centre-at-x (cell_of i.key i.count i.mass i.sx i.sy i.sz i.sxx i.syy i.szz i.sxy i.sxz i.syz) c.centre.result
    (c.centre.ensures.value ∙ ap (λ (v : CellValue). coordinates (centre v)) (sym c.c.view_is))

pub spread_along-requires-2-clause-some : goal.spread_along-requires-2-clause-some
spread_along-requires-2-clause-some c =
    let i = c.c.inside in
    some-mass (cell_of i.key i.count i.mass i.sx i.sy i.sz i.sxx i.syy i.szz i.sxy i.sxz i.syz) c.args.c.now c.c.view_is c.c.invariant.0 c.requires.not_empty

pub spread_along-requires-2-clause-centred : goal.spread_along-requires-2-clause-centred
spread_along-requires-2-clause-centred c =
    let i = c.c.inside in
    centre-at-y (cell_of i.key i.count i.mass i.sx i.sy i.sz i.sxx i.syy i.szz i.sxy i.sxz i.syz) c.centre.result
    (c.centre.ensures.value ∙ ap (λ (v : CellValue). coordinates (centre v)) (sym c.c.view_is))

pub spread_along-requires-3-clause-some : goal.spread_along-requires-3-clause-some
spread_along-requires-3-clause-some c =
    let i = c.c.inside in
    some-mass (cell_of i.key i.count i.mass i.sx i.sy i.sz i.sxx i.syy i.szz i.sxy i.sxz i.syz) c.args.c.now c.c.view_is c.c.invariant.0 c.requires.not_empty

pub spread_along-requires-3-clause-centred : goal.spread_along-requires-3-clause-centred
spread_along-requires-3-clause-centred c =
    let i = c.c.inside in
    centre-at-z (cell_of i.key i.count i.mass i.sx i.sy i.sz i.sxx i.syy i.szz i.sxy i.sxz i.syz) c.centre.result
    (c.centre.ensures.value ∙ ap (λ (v : CellValue). coordinates (centre v)) (sym c.c.view_is))

pub spread_along-requires-4-clause-some : goal.spread_along-requires-4-clause-some
spread_along-requires-4-clause-some c =
    let i = c.c.inside in
    some-mass (cell_of i.key i.count i.mass i.sx i.sy i.sz i.sxx i.syy i.szz i.sxy i.sxz i.syz) c.args.c.now c.c.view_is c.c.invariant.0 c.requires.not_empty

pub spread_along-requires-4-clause-centred : goal.spread_along-requires-4-clause-centred
spread_along-requires-4-clause-centred c =
    let i = c.c.inside in
    centre-at-x (cell_of i.key i.count i.mass i.sx i.sy i.sz i.sxx i.syy i.szz i.sxy i.sxz i.syz) c.centre.result
    (c.centre.ensures.value ∙ ap (λ (v : CellValue). coordinates (centre v)) (sym c.c.view_is))

pub spread_along-requires-5-clause-some : goal.spread_along-requires-5-clause-some
spread_along-requires-5-clause-some c =
    let i = c.c.inside in
    some-mass (cell_of i.key i.count i.mass i.sx i.sy i.sz i.sxx i.syy i.szz i.sxy i.sxz i.syz) c.args.c.now c.c.view_is c.c.invariant.0 c.requires.not_empty

pub spread_along-requires-5-clause-centred : goal.spread_along-requires-5-clause-centred
spread_along-requires-5-clause-centred c =
    let i = c.c.inside in
    centre-at-x (cell_of i.key i.count i.mass i.sx i.sy i.sz i.sxx i.syy i.szz i.sxy i.sxz i.syz) c.centre.result
    (c.centre.ensures.value ∙ ap (λ (v : CellValue). coordinates (centre v)) (sym c.c.view_is))

pub spread_along-requires-6-clause-some : goal.spread_along-requires-6-clause-some
spread_along-requires-6-clause-some c =
    let i = c.c.inside in
    some-mass (cell_of i.key i.count i.mass i.sx i.sy i.sz i.sxx i.syy i.szz i.sxy i.sxz i.syz) c.args.c.now c.c.view_is c.c.invariant.0 c.requires.not_empty

pub spread_along-requires-6-clause-centred : goal.spread_along-requires-6-clause-centred
spread_along-requires-6-clause-centred c =
    let i = c.c.inside in
    centre-at-y (cell_of i.key i.count i.mass i.sx i.sy i.sz i.sxx i.syy i.szz i.sxy i.sxz i.syz) c.centre.result
    (c.centre.ensures.value ∙ ap (λ (v : CellValue). coordinates (centre v)) (sym c.c.view_is))
