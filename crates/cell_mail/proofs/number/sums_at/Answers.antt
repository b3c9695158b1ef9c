use Rattle.std.proofs.Common.{ℕ, ◌≡◌, ◌<◌, ◌≤◌, ◌+◌, ◌∷◌, [], ◌++◌, List, take, length, Some, arith, ap, ◌∙◌}
use Rattle.std.proofs.lemmas.Result.{err_from_is_err_and}
use Rattle.std.proofs.lemmas.List.{take_more_set, take_all, length-set}
use Rattle.cell_mail.specs.Reading.{number_at, many}
use Rattle.cell_mail.proofs.Loop.{goes_on, ends, is_done}
use Rattle.cell_mail.proofs.number.sums_at.Goals as goal

pub returns-in_err-sum : goal.returns-in_err-sum
returns-in_err-sum c =
    let p = err_from_is_err_and c.from_residual.result c.from_residual.ensures.1 in
    rw (p.1, p.2) (ends (number_at 16) c.in_err-sum.field-0.0 (take c.loop-i.i c.loop-i.sums) 9 c.loop-i.i c.loop-i.rest.now (many (number_at 16) 9 c.args.bytes.now) c.loop-i-test.true c.in_err-sum.ensures c.loop-i.invariant.so_far)

pub loop-i-preserved : goal.loop-i-preserved
loop-i-preserved c =
    let n = c.in_ok-sum.sum in
    let sized = c.loop-i.invariant.sized in
    let inside : c.loop-i.i < length c.loop-i.sums = omega (arith, sized, c.loop-i-test.true) in
    record {
      sized = length-set c.loop-i.sums c.loop-i.i n ∙ sized;
      so_far =
          rw (take_more_set c.loop-i.sums c.loop-i.i n inside)
          (goes_on (number_at 16) (take c.loop-i.i c.loop-i.sums) 9 c.loop-i.i c.loop-i.rest.now n c.in_ok-sum.after.now (many (number_at 16) 9 c.args.bytes.now) c.loop-i-test.true c.in_ok-sum.ensures c.loop-i.invariant.so_far);
    }

pub returns : goal.returns
returns c =
    let all : take c.loop-i.i c.loop-i.sums ≡ c.loop-i.sums = take_all c.loop-i.i c.loop-i.sums (omega (arith, c.loop-i.invariant.sized, c.loop-i-test.false)) in
    is_done (number_at 16) (take c.loop-i.i c.loop-i.sums) 9 c.loop-i.i c.loop-i.rest.now (many (number_at 16) 9 c.args.bytes.now) c.loop-i-test.false c.loop-i.invariant.so_far
    ∙ ap (λ (l : List ℕ). Some (l, c.loop-i.rest.now)) all
