use Rattle.std.proofs.Common.{rules}
use Rattle.std.proofs.lemmas.Result.{err_from_is_err_and}
use Rattle.hot_io.proofs.Blocks.{line_passes, cut_in_lines}
use Rattle.split_table.specs.Text.{branch_line}
use Rattle.split_table.proofs.text.put_branches.Goals as goal

-- where the lines before a branch are cut, so are the lines of all of them
pub returns-in_err-make_room-clause-text : goal.returns-in_err-make_room-clause-text
returns-in_err-make_room-clause-text g c =
    let p = err_from_is_err_and c.from_residual.result c.from_residual.ensures.1 in
    rw p.1 (cut_in_lines branch_line c.args.branches.now c.loop-branch.branch-index _ _ _ _ _ c.loop-branch.invariant.so_far c.in_err-make_room.ensures.text)

-- with the next line the lines of one branch more are on their way
pub loop-branch-preserved : goal.loop-branch-preserved
loop-branch-preserved g c =
    record {
      unfailed = search rules;
      so_far =
          line_passes branch_line c.args.branches.now c.loop-branch.branch-index _ _ _ _ _ _ _ _ c.loop-branch-test.true c.branch-item.is
          c.loop-branch.invariant.so_far c.in_ok-make_room.ensures.text c.add_branch.ensures.text;
    }
