use Rattle.std.proofs.Common.{get_or, rules}
use Rattle.std.proofs.lemmas.List.{get_or_default}
use Rattle.std.proofs.lemmas.Result.{err_from_is_err_and}
use Rattle.hot_io.proofs.Blocks.{line_passes, cut_in_lines}
use Rattle.split_table.specs.declared.share.Share.{Share}
use Rattle.split_table.specs.Text.{share_line}
use Rattle.split_table.proofs.text.put_shares.Goals as goal

-- where the lines before a rank are cut, so are the lines of all of them
pub returns-in_err-make_room-clause-text : goal.returns-in_err-make_room-clause-text
returns-in_err-make_room-clause-text g c =
    let p = err_from_is_err_and c.from_residual.result c.from_residual.ensures.1 in
    rw p.1 (cut_in_lines share_line c.args.shares.now c.loop-share.share-index _ _ _ _ _ c.loop-share.invariant.so_far c.in_err-make_room.ensures.text)

-- with the next line the lines of one rank more are on their way
pub loop-share-preserved : goal.loop-share-preserved
loop-share-preserved g c =
    let none : Share = record { rank = 0; bodies = 0; weight = 0; branches = 0 } in
    let share = get_or c.args.shares.now c.loop-share.share-index none in
    record {
      unfailed = search rules;
      so_far =
          line_passes share_line c.args.shares.now c.loop-share.share-index share _ _ _ _ _ _ _ c.loop-share-test.true (get_or_default _ _ _ _ c.loop-share-test.true)
          c.loop-share.invariant.so_far c.in_ok-make_room.ensures.text c.add_share.ensures.text;
    }
