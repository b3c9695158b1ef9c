use Rattle.cell_mail.proofs.reading.are_good.Goals as goal

pub are_good_branches-requires : goal.are_good_branches-requires
are_good_branches-requires c = c.requires c.in-Branches.is
