use Rattle.hot_units.specs.Values.{cell_by}
use Rattle.hot_model.proofs.Corners.{sx-in-cube, sy-in-cube, sz-in-cube}
use Rattle.hot_model.proofs.cell.CellRec.new.Goals as goal

-- along x the sum is at most the mass times 2^29 - 1
pub part-requires : goal.part-requires
part-requires c = sx-in-cube (cell_by c.args.key c.args.count c.args.mass c.args.sums c.args.products) c.requires.facts

-- the same along y
pub part-requires-2 : goal.part-requires-2
part-requires-2 c = sy-in-cube (cell_by c.args.key c.args.count c.args.mass c.args.sums c.args.products) c.requires.facts

-- the same along z
pub part-requires-3 : goal.part-requires-3
part-requires-3 c = sz-in-cube (cell_by c.args.key c.args.count c.args.mass c.args.sums c.args.products) c.requires.facts
