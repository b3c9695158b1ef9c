use Rattle.std.proofs.Common.{refl}
use Rattle.body_file.proofs.Headers.{nothing_open}
use Rattle.body_file.proofs.reader.BodyReader.new.Goals as goal

-- a new reader was given no bytes
pub returns : goal.returns
returns c = (c.in_ok-new.ensures.empty, refl, nothing_open)
