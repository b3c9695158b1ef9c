use Rattle.std.proofs.Common.{get_or, codes, ◌∙◌, append_assoc, rules}
use Rattle.std.proofs.lemmas.List.{get_or_default}
use Rattle.std.proofs.lemmas.Result.{err_from_is_err_and}
use Rattle.hot_io.proofs.Blocks.{line_passes, cut_in_lines}
use Rattle.near_out.specs.NearText.{row_word}
use Rattle.near_out.proofs.text.put_rows.Goals as goal

-- where the rows before one are cut, so are all of them
pub returns-in_err-make_room-clause-text : goal.returns-in_err-make_room-clause-text
returns-in_err-make_room-clause-text g c =
    let p = err_from_is_err_and c.from_residual.result c.from_residual.ensures.1 in
    rw p.1 (cut_in_lines row_word c.args.rows.now c.loop-row.row-index _ _ _ _ _ c.loop-row.invariant.so_far c.in_err-make_room.ensures.text)

-- with the next row one more is on its way
pub loop-row-preserved : goal.loop-row-preserved
loop-row-preserved g c =
    let row = get_or c.args.rows.now c.loop-row.row-index 0 in
    record {
      unfailed = search rules;
      so_far =
          line_passes row_word c.args.rows.now c.loop-row.row-index row _ _ _ _ _ _ _ c.loop-row-test.true (get_or_default _ _ _ _ c.loop-row-test.true)
          c.loop-row.invariant.so_far c.in_ok-make_room.ensures.text (c.add.ensures.text ∙ append_assoc _ (codes " ") _);
    }
