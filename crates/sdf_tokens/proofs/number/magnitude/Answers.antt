use Rattle.std.proofs.Common.{◌≤◌, ◌^◌, ◌+◌, take, sym, arith}
use Rattle.std.specs.Str.Parse.{digits_value}
use Rattle.std.proofs.lemmas.List.{take_all}
use Rattle.sdf_tokens.proofs.Numbers.{too_large, fits, step}
use Rattle.sdf_tokens.proofs.number.magnitude.Goals as goal

pub returns-then-value-from : goal.returns-then-value-from
returns-then-value-from c =
    let e = step c.args.radix c.args.digits.now c.loop-digit.digit-index c.loop-digit.value c.from.result c.from-in-loop-digit.result c.loop-digit-test.true c.loop-digit.invariant.1 (cc) (cc) in
    let over : 2 ^ 64 ≤ digits_value c.args.radix (take (c.loop-digit.digit-index + 1) c.args.digits.now) = omega arith in
    sym (too_large c.args.radix c.args.digits.now (c.loop-digit.digit-index + 1) c.requires over)

pub loop-digit-preserved : goal.loop-digit-preserved
loop-digit-preserved c =
    let e = step c.args.radix c.args.digits.now c.loop-digit.digit-index c.loop-digit.value c.from.result c.from-in-loop-digit.result c.loop-digit-test.true c.loop-digit.invariant.1 (cc) (cc) in
    (omega arith, e)

pub returns : goal.returns
returns c =
    let whole = take_all c.loop-digit.digit-index c.args.digits.now c.loop-digit-test.false in
    sym (fits c.args.radix c.args.digits.now c.loop-digit.value c.loop-digit.invariant.0 (rw whole at c.loop-digit.invariant.1))
