use Rattle.std.proofs.Common.{ℕ, ◌≡◌, ◌≤◌, ◌+◌, true, ap, ◌∙◌, arith}
use Rattle.hot_units.specs.Limits.{max_all_mass}
use Rattle.hot_units.specs.Values.{CellValue, cell_of}
use Rattle.hot_units.specs.Keys.{covers}
use Rattle.hot_model.proofs.Corners.{sxx-in-cube, syy-in-cube, szz-in-cube, sxy-in-cube, sxz-in-cube, syz-in-cube}
use Rattle.moments.proofs.Joins.{fits-two, joined-facts, sx-small, sy-small, sz-small}
use Rattle.moments.proofs.sums.add.Goals as goal

pub overflow_add-to-inside-3 : goal.overflow_add-to-inside-3
overflow_add-to-inside-3 c =
    let i = c.to.inside in
    let j = c.from.inside in
    fits-two i.sx j.sx (sx-small (cell_of i.key i.count i.mass i.sx i.sy i.sz i.sxx i.syy i.szz i.sxy i.sxz i.syz) c.to.invariant.0) (sx-small (cell_of j.key j.count j.mass j.sx j.sy j.sz j.sxx j.syy j.szz j.sxy j.sxz j.syz) c.from.invariant.0)

pub overflow_add-to-inside-4 : goal.overflow_add-to-inside-4
overflow_add-to-inside-4 c =
    let i = c.to.inside in
    let j = c.from.inside in
    fits-two i.sy j.sy (sy-small (cell_of i.key i.count i.mass i.sx i.sy i.sz i.sxx i.syy i.szz i.sxy i.sxz i.syz) c.to.invariant.0) (sy-small (cell_of j.key j.count j.mass j.sx j.sy j.sz j.sxx j.syy j.szz j.sxy j.sxz j.syz) c.from.invariant.0)

pub overflow_add-to-inside-5 : goal.overflow_add-to-inside-5
overflow_add-to-inside-5 c =
    let i = c.to.inside in
    let j = c.from.inside in
    fits-two i.sz j.sz (sz-small (cell_of i.key i.count i.mass i.sx i.sy i.sz i.sxx i.syy i.szz i.sxy i.sxz i.syz) c.to.invariant.0) (sz-small (cell_of j.key j.count j.mass j.sx j.sy j.sz j.sxx j.syy j.szz j.sxy j.sxz j.syz) c.from.invariant.0)

pub overflow_add-to-inside-6 : goal.overflow_add-to-inside-6
overflow_add-to-inside-6 c =
    let i = c.to.inside in
    let j = c.from.inside in
    fits-two i.sxx j.sxx (sxx-in-cube (cell_of i.key i.count i.mass i.sx i.sy i.sz i.sxx i.syy i.szz i.sxy i.sxz i.syz) c.to.invariant.0) (sxx-in-cube (cell_of j.key j.count j.mass j.sx j.sy j.sz j.sxx j.syy j.szz j.sxy j.sxz j.syz) c.from.invariant.0)

pub overflow_add-to-inside-7 : goal.overflow_add-to-inside-7
overflow_add-to-inside-7 c =
    let i = c.to.inside in
    let j = c.from.inside in
    fits-two i.syy j.syy (syy-in-cube (cell_of i.key i.count i.mass i.sx i.sy i.sz i.sxx i.syy i.szz i.sxy i.sxz i.syz) c.to.invariant.0) (syy-in-cube (cell_of j.key j.count j.mass j.sx j.sy j.sz j.sxx j.syy j.szz j.sxy j.sxz j.syz) c.from.invariant.0)

pub overflow_add-to-inside-8 : goal.overflow_add-to-inside-8
overflow_add-to-inside-8 c =
    let i = c.to.inside in
    let j = c.from.inside in
    fits-two i.szz j.szz (szz-in-cube (cell_of i.key i.count i.mass i.sx i.sy i.sz i.sxx i.syy i.szz i.sxy i.sxz i.syz) c.to.invariant.0) (szz-in-cube (cell_of j.key j.count j.mass j.sx j.sy j.sz j.sxx j.syy j.szz j.sxy j.sxz j.syz) c.from.invariant.0)

pub overflow_add-to-inside-9 : goal.overflow_add-to-inside-9
overflow_add-to-inside-9 c =
    let i = c.to.inside in
    let j = c.from.inside in
    fits-two i.sxy j.sxy (sxy-in-cube (cell_of i.key i.count i.mass i.sx i.sy i.sz i.sxx i.syy i.szz i.sxy i.sxz i.syz) c.to.invariant.0) (sxy-in-cube (cell_of j.key j.count j.mass j.sx j.sy j.sz j.sxx j.syy j.szz j.sxy j.sxz j.syz) c.from.invariant.0)

pub overflow_add-to-inside-10 : goal.overflow_add-to-inside-10
overflow_add-to-inside-10 c =
    let i = c.to.inside in
    let j = c.from.inside in
    fits-two i.sxz j.sxz (sxz-in-cube (cell_of i.key i.count i.mass i.sx i.sy i.sz i.sxx i.syy i.szz i.sxy i.sxz i.syz) c.to.invariant.0) (sxz-in-cube (cell_of j.key j.count j.mass j.sx j.sy j.sz j.sxx j.syy j.szz j.sxy j.sxz j.syz) c.from.invariant.0)

pub overflow_add-to-inside-11 : goal.overflow_add-to-inside-11
overflow_add-to-inside-11 c =
    let i = c.to.inside in
    let j = c.from.inside in
    fits-two i.syz j.syz (syz-in-cube (cell_of i.key i.count i.mass i.sx i.sy i.sz i.sxx i.syy i.szz i.sxy i.sxz i.syz) c.to.invariant.0) (syz-in-cube (cell_of j.key j.count j.mass j.sx j.sy j.sz j.sxx j.syy j.szz j.sxy j.sxz j.syz) c.from.invariant.0)

pub new-requires : goal.new-requires
new-requires c =
    let i = c.to.inside in
    let j = c.from.inside in
    let a = cell_of i.key i.count i.mass i.sx i.sy i.sz i.sxx i.syy i.szz i.sxy i.sxz i.syz in
    let b = cell_of j.key j.count j.mass j.sx j.sy j.sz j.sxx j.syy j.szz j.sxy j.sxz j.syz in
    let e : covers a.key b.key ≡ true =
    ap (λ (v : CellValue). covers v.key b.key) c.to.view_is ∙ (ap (λ (v : CellValue). covers c.args.to.now.key v.key) c.from.view_is ∙ c.requires.contained) in
    let m = ap (λ (v : CellValue). v.mass) c.to.view_is in
    let n = ap (λ (v : CellValue). v.mass) c.from.view_is in
    let light : a.mass + b.mass ≤ max_all_mass = omega (arith, m, n, c.requires.light) in
    record { facts = joined-facts a b c.to.invariant.0 c.from.invariant.0 e light }
