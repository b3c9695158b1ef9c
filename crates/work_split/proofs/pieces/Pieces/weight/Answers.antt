use Rattle.std.proofs.Common.{◌≡◌, ◌∙◌, get_or, arith}
use Rattle.std.proofs.lemmas.Grind.{common_steps}
use Rattle.work_split.specs.Splits.{ranks_of}
use Rattle.work_split.proofs.Lists.{weight-says}
use Rattle.work_split.proofs.pieces.Pieces.weight.Goals as goal

-- the weight is that of the rank's bodies
pub returns-clause-piece : goal.returns-clause-piece
returns-clause-piece c = λ set e.
    let at : c.index.result.now ≡ get_or c.args.self.now.weights c.args.q 0 = grind (arith, common_steps) in
    at ∙ weight-says set c.args.self.now (ranks_of c.args.self.now) c.args.q e c.requires.rank
