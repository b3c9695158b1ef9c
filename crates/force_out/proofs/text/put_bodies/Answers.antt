use Rattle.std.proofs.Common.{◌≡◌, ◌<◌, pos, length, get_or, arith, rules}
use mir.Syntax.{w128}
use mir.Val.{of_z, to_z}
use Rattle.std.proofs.lemmas.Result.{err_from_is_err_and}
use Rattle.force_out.specs.ForcesText.{body_line}
use Rattle.force_out.proofs.Lines.{text_passes, cut_in_texts}
use Rattle.force_out.proofs.text.put_bodies.Goals as goal

-- where the lines before a body are cut, so are the lines of all bodies
pub returns-in_err-make_room-clause-text : goal.returns-in_err-make_room-clause-text
returns-in_err-make_room-clause-text g c =
    let p = err_from_is_err_and c.from_residual.result c.from_residual.ensures.1 in
    rw p.1 (cut_in_texts body_line c.args.idents.now c.args.forces.now c.loop-i.i _ _ _ _ _ c.loop-i.invariant.so_far c.in_err-make_room.ensures.text)

-- with the next line the lines of one body more are on their way
pub loop-i-preserved : goal.loop-i-preserved
loop-i-preserved g c = record {
  unfailed = search rules;
  so_far =
      let i = c.loop-i.i in
      let within : i < length c.args.idents.now = omega arith in
      let read : to_z w128 (of_z w128 (get_or c.args.idents.now i (pos 0))) ≡ get_or c.args.idents.now i (pos 0) = search rules in
      text_passes body_line c.args.idents.now c.args.forces.now i _ c.index-forces-i.result _ _ _ _ _ _ _ within c.loop-i-test.true read c.index-forces-i.is
      c.loop-i.invariant.so_far c.in_ok-make_room.ensures.text c.add_body.ensures.text;
}
