use Rattle.cell_mail.proofs.Numbers.{number-read}
use Rattle.cell_mail.proofs.number.u128_at.Goals as goal

pub returns : goal.returns
returns c = number-read 16 c.read_u128.result c.args.bytes.now c.if-bytes-lt-SUM_SIZE.false c.read_u128.ensures
