use Rattle.std.proofs.Common.{◌≡◌, ◌<◌, ◌≤ℤ◌, ◌-ℤ◌, ◌^◌, arith}
use Rattle.std.specs.Prelude.{unsigned_abs}
use Rattle.std.proofs.lemmas.Int.{ints}
use Rattle.body_set.proofs.Coordinates.{near_is_inside, scaled_small, scaled_is, one_shifted}
use Rattle.body_set.proofs.row.fine.Goals as goal

-- a coordinate near enough to the corner is in the cube, and has these fine units
pub returns-then-above-bits-clause-inside : goal.returns-then-above-bits-clause-inside
returns-then-above-bits-clause-inside c =
    let from_corner : c.args.corner ≤ℤ c.args.at = omega (arith, ints) in
    let distance : c.abs_diff-above.result ≡ unsigned_abs (c.args.at -ℤ c.args.corner) = omega (arith, ints) in
    let near : c.abs_diff-above.result < 2 ^ c.args.bits = one_shifted c.args.bits c.abs_diff-above.result c.requires.high c.if-above-bits.true in (
      near_is_inside c.args.bits c.args.corner c.args.at c.abs_diff-above.result from_corner distance near,
      scaled_is c.args.bits c.args.corner c.args.at c.abs_diff-above.result c.requires.high distance near,
    )

-- its fine units are below 2^29
pub returns-then-above-bits-clause-within : goal.returns-then-above-bits-clause-within
returns-then-above-bits-clause-within c =
    let near : c.abs_diff-above.result < 2 ^ c.args.bits = one_shifted c.args.bits c.abs_diff-above.result c.requires.high c.if-above-bits.true in
    scaled_small c.args.bits c.abs_diff-above.result c.requires.high near
