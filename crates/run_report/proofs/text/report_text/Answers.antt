use Rattle.std.proofs.Common.{[], ◌++◌, flat_map, append_assoc}
use Rattle.std.proofs.lemmas.Result.{err_from_is_err_and}
use Rattle.hot_io.proofs.Texts.{behind_one, behind_two}
use Rattle.hot_io.proofs.Blocks.{passes_added, passes_next, passes_more, cut_behind, cut_before, ends}
use Rattle.run_report.specs.Text.{first_line, rank_line, branch_line, totals_line, last_line}
use Rattle.run_report.proofs.text.report_text.Goals as goal

-- a cut in the lines of the ranks is a cut in the whole report
pub returns-in_err-put_efforts-clause-text : goal.returns-in_err-put_efforts-clause-text
returns-in_err-put_efforts-clause-text g c =
    let p = err_from_is_err_and c.from_residual.result c.from_residual.ensures.1 in
    let t = c.args.report.now in
    let ranks = flat_map rank_line c.efforts.result.now in
    let begun = passes_added _ [] _ first_line (rw c.new-block.ensures.empty at c.push.ensures.bytes) in
    let whole = behind_one first_line ranks (flat_map branch_line t.branches) (totals_line t) last_line in
    rw (p.1, ← c.efforts.ensures.value) (cut_behind _ _ _ [] _ _ first_line ranks _ whole begun c.in_err-put_efforts.ensures.text)

-- a cut in the lines of the branches is a cut in the whole report
pub returns-in_err-put_branches-clause-text : goal.returns-in_err-put_branches-clause-text
returns-in_err-put_branches-clause-text g c =
    let p = err_from_is_err_and c.from_residual-in_err-put_branches.result c.from_residual-in_err-put_branches.ensures.1 in
    let ranks = flat_map rank_line c.efforts.result.now in
    let branches = flat_map branch_line c.branches.result.now in
    let begun = passes_added _ [] _ first_line (rw c.new-block.ensures.empty at c.push.ensures.bytes) in
    let first = passes_next _ _ _ [] _ _ first_line ranks begun c.in_ok-put_efforts.ensures.text in
    let whole = behind_two first_line ranks branches (totals_line c.args.report.now) last_line in
    rw (p.1, ← c.efforts.ensures.value, ← c.branches.ensures.value)
    (cut_behind _ _ _ [] _ _ (first_line ++ ranks) branches _ whole first c.in_err-put_branches.ensures.text)

-- a cut before the line of totals is a cut in the whole report
pub returns-in_err-make_room-clause-text : goal.returns-in_err-make_room-clause-text
returns-in_err-make_room-clause-text g c =
    let p = err_from_is_err_and c.from_residual-in_err-make_room.result c.from_residual-in_err-make_room.ensures.1 in
    let ranks = flat_map rank_line c.efforts.result.now in
    let branches = flat_map branch_line c.branches.result.now in
    let totals = totals_line c.args.report.now in
    let begun = passes_added _ [] _ first_line (rw c.new-block.ensures.empty at c.push.ensures.bytes) in
    let first = passes_next _ _ _ [] _ _ first_line ranks begun c.in_ok-put_efforts.ensures.text in
    let second = passes_next _ _ _ [] _ _ (first_line ++ ranks) branches first c.in_ok-put_branches.ensures.text in
    rw (p.1, ← c.efforts.ensures.value, ← c.branches.ensures.value)
    (cut_before _ _ _ [] _ _ (first_line ++ ranks ++ branches) (totals ++ last_line) (append_assoc (first_line ++ ranks ++ branches) totals last_line) second c.in_err-make_room.ensures.text)

-- behind all these lines the totals and the last line, whole or cut, make the report so
pub returns-clause-text : goal.returns-clause-text
returns-clause-text g c =
    let ranks = flat_map rank_line c.efforts.result.now in
    let branches = flat_map branch_line c.branches.result.now in
    let totals = totals_line c.args.report.now in
    let begun = passes_added _ [] _ first_line (rw c.new-block.ensures.empty at c.push.ensures.bytes) in
    let first = passes_next _ _ _ [] _ _ first_line ranks begun c.in_ok-put_efforts.ensures.text in
    let second = passes_next _ _ _ [] _ _ (first_line ++ ranks) branches first c.in_ok-put_branches.ensures.text in
    let third = passes_more _ _ _ [] _ _ _ (first_line ++ ranks ++ branches) totals second c.in_ok-make_room.ensures.text c.add_totals.ensures.text in
    let all = passes_next _ _ _ [] _ _ (first_line ++ ranks ++ branches ++ totals) last_line third (passes_added _ _ _ last_line c.push-2.ensures.bytes) in
    rw (← c.efforts.ensures.value, ← c.branches.ensures.value)
    (ends _ _ _ _ _ c.finish.result all c.finish.ensures.text)
