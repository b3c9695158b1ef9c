use Rattle.std.proofs.Common.{◌∙◌, ap, take}
use Rattle.cell_mail.specs.Spelling.{number}
use Rattle.cell_mail.proofs.Numbers.{appended, little-number}
use Rattle.cell_mail.proofs.number.put_count.Goals as goal

pub returns : goal.returns
returns c =
    appended c.extend_from_slice.result c.args.out.now.items c.extend_from_slice.new.self.items (take 4 c.write_u64.new.buf) (number 4 c.args.n) c.extend_from_slice.ensures.items
    (ap (take 4) c.write_u64.ensures ∙ little-number 4 c.args.n)
