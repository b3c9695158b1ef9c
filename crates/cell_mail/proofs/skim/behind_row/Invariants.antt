use Rattle.std.proofs.Common.{◌≡◌, ◌-◌, None}
use Rattle.cell_mail.specs.Skimming.{row_past}
use Rattle.cell_mail.proofs.skim.behind_row.Given as goal

abbrev pub invariant-loop : goal.invariant-loop
invariant-loop g l = row_past (g.T.Row.stands l.cell) g.T.Entry.at (l.count - l.counter) l.last l.rest ≡ row_past (g.T.Row.stands l.cell) g.T.Entry.at l.count None l.bytes
