use Rattle.std.proofs.Common.{◌≡◌, ◌<◌, pos, length, get_or, arith, rules}
use mir.Syntax.{w128}
use mir.Val.{of_z, to_z}
use Rattle.std.proofs.lemmas.Result.{err_from_is_err_and}
use Rattle.near_out.proofs.Lines.{line_passes, cut_in_line}
use Rattle.near_out.proofs.text.put_bodies.Goals as goal

-- where the line of a body is cut, so are the lines of all bodies
pub returns-in_err-put_body-clause-text : goal.returns-in_err-put_body-clause-text
returns-in_err-put_body-clause-text g c =
    let p = err_from_is_err_and c.from_residual.result c.from_residual.ensures.1 in
    let i = c.loop-i.i in
    let within : i < length c.args.idents.now = omega arith in
    let read : to_z w128 (of_z w128 (get_or c.args.idents.now i (pos 0))) ≡ get_or c.args.idents.now i (pos 0) = search rules in
    rw p.1 (cut_in_line (λ v. v.items) c.args.idents.now c.args.lists.now i _ c.index-lists-i.result _ _ _ _ _ within c.loop-i-test.true read c.index-lists-i.is
    c.loop-i.invariant.so_far (rw c.as_slice.ensures.value at c.in_err-put_body.ensures.text))

-- with the next line the lines of one body more are on their way
pub loop-i-preserved : goal.loop-i-preserved
loop-i-preserved g c = record {
  unfailed = search rules;
  so_far =
      let i = c.loop-i.i in
      let within : i < length c.args.idents.now = omega arith in
      let read : to_z w128 (of_z w128 (get_or c.args.idents.now i (pos 0))) ≡ get_or c.args.idents.now i (pos 0) = search rules in
      line_passes (λ v. v.items) c.args.idents.now c.args.lists.now i _ c.index-lists-i.result _ _ _ _ _ _ within c.loop-i-test.true read c.index-lists-i.is
      c.loop-i.invariant.so_far (rw c.as_slice.ensures.value at c.in_ok-put_body.ensures.text);
}
