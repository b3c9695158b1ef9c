use Rattle.sdf_header.proofs.Wider.{some_row}
use Rattle.sdf_header.proofs.verdict.layout_of.Goals as goal

pub invariant_of-result : goal.invariant_of-result
invariant_of-result c = record {
  some_bytes = some_row c.in-Some.table.columns.width c.in_ok-x.x c.in_ok-x.ensures.x_inside;
  narrow = c.in-Some.table.columns.narrow;
  x_fits = c.in_ok-x.ensures.x_inside;
  y_fits = c.in_ok-x.ensures.y_inside;
  z_fits = c.in_ok-x.ensures.z_inside;
  mass_fits = c.in_ok-mass.ensures.inside;
  ident_fits = c.in_ok-ident.ensures.inside;
  work_fits = c.in_ok-work.ensures.inside;
  vx_fits = c.whole_column.ensures.inside;
  vy_fits = c.whole_column-2.ensures.inside;
  vz_fits = c.whole_column-3.ensures.inside;
}

pub returns-clause-facts : goal.returns-clause-facts
returns-clause-facts c = invariant_of-result c
