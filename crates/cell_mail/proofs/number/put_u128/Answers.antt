use Rattle.std.proofs.Common.{◌∙◌}
use Rattle.cell_mail.specs.Spelling.{number}
use Rattle.cell_mail.proofs.Numbers.{appended, little-number}
use Rattle.cell_mail.proofs.number.put_u128.Goals as goal

pub returns : goal.returns
returns c =
    appended c.extend_from_slice.result c.args.out.now.items c.extend_from_slice.new.self.items c.write_u128.new.buf (number 16 c.args.n) c.extend_from_slice.ensures.items
    (c.write_u128.ensures ∙ little-number 16 c.args.n)
