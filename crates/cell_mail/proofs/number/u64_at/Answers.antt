use Rattle.cell_mail.proofs.Numbers.{number-read}
use Rattle.cell_mail.proofs.number.u64_at.Goals as goal

pub returns : goal.returns
returns c = number-read 8 c.read_u64.result c.args.bytes.now c.if-bytes-lt-KEY_SIZE.false c.read_u64.ensures
