use Rattle.hot_io.proofs.Gains.{tells_of}
use Rattle.hot_io.proofs.writers.write_text.Goals as goal

pub returns : goal.returns
returns g c = record { gain = tells_of _ _ _ _ c.write_pieces.result _ c.write_pieces.ensures.cause c.write_pieces.ensures.bytes }
