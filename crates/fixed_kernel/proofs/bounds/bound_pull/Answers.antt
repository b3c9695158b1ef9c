use Rattle.std.proofs.Common.{arith}
use Rattle.fixed_kernel.proofs.Certain.{is-certain}
use Rattle.fixed_kernel.proofs.bounds.bound_pull.Goals as goal

pub returns : goal.returns
returns c =
    is-certain c.args.soft c.args.mass c.room_for_fours-half.result c.room_for_twos-lead.result c.hint_inverse_root-hint.result
    c.high_half-square.result c.high_half-near.result c.high_half.result c.high_half-low.result
    c.room_for_fours-half.ensures.within c.room_for_twos-lead.ensures.within (omega arith) (omega arith)
    c.room_for_fours-half.ensures.above c.room_for_fours-half.ensures.fits c.room_for_twos-lead.ensures.fits
    c.high_half-square.ensures c.high_half-near.ensures c.high_half.ensures c.high_half-low.ensures
    (omega arith) (omega arith)
