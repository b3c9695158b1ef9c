use Rattle.std.proofs.Common.{◌≤◌, bit_or, arith}
use Rattle.std.proofs.lemmas.Bool.{leb-true}
use Rattle.fixed_kernel.proofs.Fast.{all-small, small-fits}
use Rattle.fixed_kernel.proofs.pulls.may_try.Goals as goal

pub returns-then-all-lt-ALWAYS_TRIED : goal.returns-then-all-lt-ALWAYS_TRIED
returns-then-all-lt-ALWAYS_TRIED c =
    λ _. all-small c.args.by c.args.x c.args.y c.args.z 268435455 (omega arith) (small-fits c.args.by c.requires.by_in) (omega arith)

pub returns : goal.returns
returns c = λ t.
    let e : bit_or (bit_or c.args.x c.args.y) c.args.z ≤ c.most.result = leb-true _ _ t in
    all-small c.args.by c.args.x c.args.y c.args.z c.most.result e c.most.ensures.fits c.most.ensures.within
