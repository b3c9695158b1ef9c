use Rattle.state_file.proofs.Writing.{header-added}
use Rattle.state_file.proofs.text.header.Goals as goal

pub returns : goal.returns
returns c = record { text = header-added c.args.unsigned c.args.count _ _ _ _ _ _ c.new-block.ensures.empty c.push.ensures.bytes c.line_of.ensures.value c.push-2.ensures.bytes c.add.ensures.text c.push-3.ensures.bytes }
