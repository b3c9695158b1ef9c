use Rattle.cell_mail.proofs.LetterLaws.{one_content}
use Rattle.cell_mail.proofs.laws.one_content.Goals as goal

pub returns : goal.returns
returns c = record { law = one_content }
