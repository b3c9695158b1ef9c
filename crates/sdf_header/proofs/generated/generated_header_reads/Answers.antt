use Rattle.sdf_header.proofs.MadeHeader.{generated_reads}
use Rattle.sdf_header.proofs.generated.generated_header_reads.Goals as goal

pub returns : goal.returns
returns c = record { law = generated_reads c.args._count c.requires }
