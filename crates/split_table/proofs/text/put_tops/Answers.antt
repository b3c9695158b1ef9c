use Rattle.std.proofs.Common.{rules}
use Rattle.std.proofs.lemmas.Result.{err_from_is_err_and}
use Rattle.hot_io.proofs.Blocks.{line_passes, cut_in_lines}
use Rattle.split_table.specs.Text.{top_line}
use Rattle.split_table.proofs.text.put_tops.Goals as goal

-- where the lines before a top cell are cut, so are the lines of all of them
pub returns-in_err-make_room-clause-text : goal.returns-in_err-make_room-clause-text
returns-in_err-make_room-clause-text g c =
    let p = err_from_is_err_and c.from_residual.result c.from_residual.ensures.1 in
    rw p.1 (cut_in_lines top_line c.args.tops.now c.loop-rec.rec-index _ _ _ _ _ c.loop-rec.invariant.so_far c.in_err-make_room.ensures.text)

-- with the next line the lines of one top cell more are on their way
pub loop-rec-preserved : goal.loop-rec-preserved
loop-rec-preserved g c =
    record {
      unfailed = search rules;
      so_far =
          line_passes top_line c.args.tops.now c.loop-rec.rec-index _ _ _ _ _ _ _ _ c.loop-rec-test.true c.rec-item.is
          c.loop-rec.invariant.so_far c.in_ok-make_room.ensures.text c.add_top.ensures.text;
    }
