use Rattle.std.proofs.Common.{get_or, rules}
use Rattle.std.proofs.lemmas.List.{get_or_default}
use Rattle.std.proofs.lemmas.Result.{err_from_is_err_and}
use Rattle.hot_io.proofs.Blocks.{line_passes, cut_in_lines}
use Rattle.rank_set.specs.declared.found.Effort.{Effort}
use Rattle.run_report.specs.Text.{rank_line}
use Rattle.run_report.proofs.text.put_efforts.Goals as goal

-- where the lines before a rank are cut, so are the lines of all of them
pub returns-in_err-make_room-clause-text : goal.returns-in_err-make_room-clause-text
returns-in_err-make_room-clause-text g c =
    let p = err_from_is_err_and c.from_residual.result c.from_residual.ensures.1 in
    rw p.1 (cut_in_lines rank_line c.args.efforts.now c.loop-effort.effort-index _ _ _ _ _ c.loop-effort.invariant.so_far c.in_err-make_room.ensures.text)

-- with the next line the lines of one rank more are on their way
pub loop-effort-preserved : goal.loop-effort-preserved
loop-effort-preserved g c =
    let none : Effort = record { rank = 0; bodies = 0; opened = 0; asks = 0 } in
    let effort = get_or c.args.efforts.now c.loop-effort.effort-index none in
    record {
      unfailed = search rules;
      so_far =
          line_passes rank_line c.args.efforts.now c.loop-effort.effort-index effort _ _ _ _ _ _ _ c.loop-effort-test.true (get_or_default _ _ _ _ c.loop-effort-test.true)
          c.loop-effort.invariant.so_far c.in_ok-make_room.ensures.text c.add_effort.ensures.text;
    }
