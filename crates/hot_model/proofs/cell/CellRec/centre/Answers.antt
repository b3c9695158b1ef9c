use Rattle.std.proofs.Common.{◌≡◌, ◌<◌, ◌^◌, ◌/◌, arith, subst}
use Rattle.hot_units.specs.Values.{CellValue, cell_of}
use Rattle.hot_units.specs.Keys.{IsInBox}
use Rattle.hot_model.proofs.Corners.{centre-in-box, sx-in-cube, sy-in-cube, sz-in-cube}
use Rattle.hot_model.proofs.Centres.{part-in}
use Rattle.hot_model.proofs.cell.CellRec.centre.Goals as goal

-- the centre is a place in the cube
pub returns-clause-within : goal.returns-clause-within
returns-clause-within c =
    let i = c.self.inside in
    let r : CellValue = cell_of i.key i.count i.mass i.sx i.sy i.sz i.sxx i.syy i.szz i.sxy i.sxz i.syz in
    let x : i.sx / i.mass < 2 ^ 29 = part-in i.sx i.mass (sx-in-cube r c.self.invariant.0) in
    let y : i.sy / i.mass < 2 ^ 29 = part-in i.sy i.mass (sy-in-cube r c.self.invariant.0) in
    let z : i.sz / i.mass < 2 ^ 29 = part-in i.sz i.mass (sz-in-cube r c.self.invariant.0) in
    let xe : i.mx ≡ i.sx / i.mass = c.self.invariant.1 in
    let ye : i.my ≡ i.sy / i.mass = c.self.invariant.2 in
    let ze : i.mz ≡ i.sz / i.mass = c.self.invariant.3 in
    (omega (arith, x, xe), omega (arith, y, ye), omega (arith, z, ze))

-- the centre of a record with bodies is in the box of its cell
pub returns-clause-in_cell : goal.returns-clause-in_cell
returns-clause-in_cell c =
    let i = c.self.inside in
    subst (λ (v : CellValue). 0 < v.count → IsInBox v.key (record { x = i.mx; y = i.my; z = i.mz })) c.self.view_is
    (centre-in-box (cell_of i.key i.count i.mass i.sx i.sy i.sz i.sxx i.syy i.szz i.sxy i.sxz i.syz) i.mx i.my i.mz c.self.invariant.0 c.self.invariant.1 c.self.invariant.2 c.self.invariant.3)
