use Rattle.std.proofs.Common.{◌∙◌, sym}
use Rattle.std.proofs.lemmas.List.{map-id}
use Rattle.cell_mail.proofs.Apart.{good_branches}
use Rattle.cell_mail.proofs.reading.are_good_branches.Goals as goal

pub returns : goal.returns
returns c = good_branches c.args.keys.now c.are_apart.result c.requires (rw map-id at (sym c.rise.ensures ∙ c.if-not-rise.false)) c.are_apart.ensures
