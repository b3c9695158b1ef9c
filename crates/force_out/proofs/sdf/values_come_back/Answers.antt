use Rattle.force_out.proofs.Halves.{one-parting}
use Rattle.force_out.proofs.SdfReading.{all-told}
use Rattle.force_out.proofs.sdf.values_come_back.Goals as goal

-- each value has one parting in halves, and each row of the file tells of its body
pub returns : goal.returns
returns c = record { halves = one-parting; bodies = all-told }
