use Rattle.cell_mail.proofs.Checks.{is_cell-same}
use Rattle.cell_mail.proofs.limits.is_cell.Goals as goal

pub returns : goal.returns
returns c = is_cell-same c.is_cell.result c.args.key c.is_cell.ensures.value
