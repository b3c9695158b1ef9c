use Rattle.std.proofs.Common.{arith}
use Rattle.cell_mail.proofs.Skims.{skimmed-cells}
use Rattle.cell_mail.proofs.reading.whole.Goals as goal

pub are_good-requires : goal.are_good-requires
are_good-requires c = λ k.
    rw c.as_slice.ensures.items (skimmed-cells c.args.bytes.now c.in_ok-kind.kind c.in_ok-kind.keys c.in_ok-kind.rest.now (λ i. omega (arith, c.type_inv.bytes i)) c.in_ok-kind.ensures k)
