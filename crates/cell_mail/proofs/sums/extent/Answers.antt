use Rattle.std.proofs.Common.{◌-◌, ◌≤◌, arith}
use Rattle.cell_mail.proofs.Checks.{extent-small}
use Rattle.cell_mail.proofs.sums.extent.Goals as goal

pub returns-clause-within : goal.returns-clause-within
returns-clause-within c = extent-small (29 - c.level.result) (omega arith)
