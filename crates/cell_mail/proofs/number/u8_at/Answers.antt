use Rattle.std.proofs.Common.{get_or, arith}
use Rattle.cell_mail.proofs.Numbers.{number-read, not-empty}
use Rattle.cell_mail.proofs.number.u8_at.Goals as goal

pub returns : goal.returns
returns c = number-read 1 (get_or c.args.bytes.now 0 0) c.args.bytes.now (not-empty c.args.bytes.now (c.if-is_empty.ensures)) (omega arith)
