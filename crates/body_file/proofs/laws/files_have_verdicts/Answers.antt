use Rattle.body_file.proofs.Verdicts.{have_verdicts}
use Rattle.body_file.proofs.laws.files_have_verdicts.Goals as goal

-- the law of files: some without a fault have bodies
pub returns : goal.returns
returns c = record { verdict = have_verdicts }
