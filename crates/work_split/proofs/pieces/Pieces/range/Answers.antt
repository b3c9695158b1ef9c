use Rattle.std.proofs.Common.{◌≡◌, ◌+◌, ◌∙◌, get_or, arith}
use Rattle.std.proofs.lemmas.Grind.{common_steps}
use Rattle.work_split.specs.Splits.{ranks_of}
use Rattle.work_split.proofs.Lists.{starts-say, run_of}
use Rattle.work_split.proofs.pieces.Pieces.range.Goals as goal

-- between the two places stand the bodies of the rank, and no others
pub returns-clause-piece : goal.returns-clause-piece
returns-clause-piece c = λ set h e.
    let ranks = ranks_of c.args.self.now in
    let say = starts-say set c.args.self.now ranks c.args.q e c.requires.rank in
    let from : c.index.result.now ≡ get_or c.args.self.now.starts c.args.q 0 = grind (arith, common_steps) in
    let to : c.index-2.result.now ≡ get_or c.args.self.now.starts (c.args.q + 1) 0 = grind (arith, common_steps) in
    run_of set ranks c.args.q c.index.result.now c.index-2.result.now h (from ∙ say.0) (to ∙ say.1)
