use Rattle.std.proofs.Common.{◌∙◌}
use Rattle.rank_tests.specs.Worlds.{three}
use Rattle.rank_tests.proofs.Rows.{here_row}
use Rattle.rank_tests.proofs.row.rank_of_64.Goals as goal

pub new-requires-clause-fits : goal.new-requires-clause-fits
new-requires-clause-fits g c κs within = (three, here_row c.args.q _ _ _ (c.deref.ensures.value ∙ c.bodies_of-own.ensures.value) c.left.ensures.value c.right.ensures.value)

pub returns-clause-stands : goal.returns-clause-stands
returns-clause-stands g c =
    let stands = rw c.expect.ensures at c.new.ensures.stands in
    stands three (here_row c.args.q _ _ _ (c.deref.ensures.value ∙ c.bodies_of-own.ensures.value) c.left.ensures.value c.right.ensures.value)
