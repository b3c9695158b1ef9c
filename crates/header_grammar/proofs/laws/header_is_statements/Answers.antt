use Rattle.header_grammar.proofs.Judgement.{layouts, reasons}
use Rattle.header_grammar.proofs.laws.header_is_statements.Goals as goal

pub returns : goal.returns
returns c = record { layout = λ bytes. layouts bytes; fault = λ bytes. reasons bytes }
