use Rattle.std.proofs.Common.{◌≡◌, ◌<◌, pos, length, get_or, arith, rules}
use mir.Syntax.{w128}
use mir.Val.{of_z, to_z}
use Rattle.std.proofs.lemmas.List.{get_or_default}
use Rattle.std.proofs.lemmas.Result.{err_from_is_err_and}
use Rattle.well_out.proofs.Lines.{line_passes, cut_in_lines}
use Rattle.well_out.proofs.text.put_bodies.Goals as goal

-- where the lines before a body are cut, so are the lines of all bodies
pub returns-in_err-make_room-clause-text : goal.returns-in_err-make_room-clause-text
returns-in_err-make_room-clause-text g c =
    let p = err_from_is_err_and c.from_residual.result c.from_residual.ensures.1 in
    rw p.1 (cut_in_lines c.args.idents.now c.args.wells.now c.loop-i.i _ _ _ _ _ c.loop-i.invariant.so_far c.in_err-make_room.ensures.text)

-- with the next line the lines of one body more are on their way
pub loop-i-preserved : goal.loop-i-preserved
loop-i-preserved g c = record {
  unfailed = search rules;
  so_far =
      let i = c.loop-i.i in
      let within : i < length c.args.idents.now = omega arith in
      let read : to_z w128 (of_z w128 (get_or c.args.idents.now i (pos 0))) ≡ get_or c.args.idents.now i (pos 0) = search rules in
      let well = get_or c.args.wells.now i 0 in
      line_passes c.args.idents.now c.args.wells.now i _ well _ _ _ _ _ _ _ within c.loop-i-test.true read (get_or_default _ _ _ _ c.loop-i-test.true)
      c.loop-i.invariant.so_far c.in_ok-make_room.ensures.text c.add_body.ensures.text;
}
