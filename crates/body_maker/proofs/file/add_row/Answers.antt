use Rattle.body_maker.proofs.Lines.{three_added}
use Rattle.body_maker.proofs.file.add_row.Goals as goal

-- the block has gained the row of the place, x, y and z
pub returns : goal.returns
returns c = record { row = three_added _ _ _ _ _ _ _ _ _ _ c.push.ensures.bytes c.push-2.ensures.bytes c.push-3.ensures.bytes c.to_le_bytes.ensures c.to_le_bytes-2.ensures c.to_le_bytes-3.ensures }
