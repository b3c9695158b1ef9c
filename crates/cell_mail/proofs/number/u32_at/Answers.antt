use Rattle.cell_mail.proofs.Numbers.{number-read}
use Rattle.cell_mail.proofs.number.u32_at.Goals as goal

pub returns : goal.returns
returns c = number-read 4 c.read_u32.result c.args.bytes.now c.if-bytes-lt-COUNT_SIZE.false c.read_u32.ensures
