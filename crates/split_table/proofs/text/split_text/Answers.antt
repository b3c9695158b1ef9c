use Rattle.std.proofs.Common.{[], ◌++◌, flat_map, refl}
use Rattle.std.proofs.lemmas.Result.{err_from_is_err_and}
use Rattle.hot_io.proofs.Texts.{behind_one, behind_two, behind_three}
use Rattle.hot_io.proofs.Blocks.{passes_added, passes_next, passes_more, cut_behind, cut_before, ends}
use Rattle.split_table.specs.Text.{first_line, share_line, branch_line, top_line, last_line}
use Rattle.split_table.proofs.text.split_text.Goals as goal

-- a cut in the lines of the ranks is a cut in the whole text
pub returns-in_err-put_shares-clause-text : goal.returns-in_err-put_shares-clause-text
returns-in_err-put_shares-clause-text g c =
    let p = err_from_is_err_and c.from_residual.result c.from_residual.ensures.1 in
    let t = c.args.table.now in
    let shares = flat_map share_line c.shares.result.now in
    let begun = passes_added _ [] _ first_line (rw c.new-block.ensures.empty at c.push.ensures.bytes) in
    let whole = behind_one first_line shares (flat_map branch_line t.branches) (flat_map top_line t.tops) last_line in
    rw (p.1, ← c.shares.ensures.value) (cut_behind _ _ _ [] _ _ first_line shares _ whole begun c.in_err-put_shares.ensures.text)

-- a cut in the lines of the branches is a cut in the whole text
pub returns-in_err-put_branches-clause-text : goal.returns-in_err-put_branches-clause-text
returns-in_err-put_branches-clause-text g c =
    let p = err_from_is_err_and c.from_residual-in_err-put_branches.result c.from_residual-in_err-put_branches.ensures.1 in
    let shares = flat_map share_line c.shares.result.now in
    let branches = flat_map branch_line c.branches.result.now in
    let begun = passes_added _ [] _ first_line (rw c.new-block.ensures.empty at c.push.ensures.bytes) in
    let first = passes_next _ _ _ [] _ _ first_line shares begun c.in_ok-put_shares.ensures.text in
    let whole = behind_two first_line shares branches (flat_map top_line c.args.table.now.tops) last_line in
    rw (p.1, ← c.shares.ensures.value, ← c.branches.ensures.value)
    (cut_behind _ _ _ [] _ _ (first_line ++ shares) branches _ whole first c.in_err-put_branches.ensures.text)

-- a cut in the lines of the top cells is a cut in the whole text
pub returns-in_err-put_tops-clause-text : goal.returns-in_err-put_tops-clause-text
returns-in_err-put_tops-clause-text g c =
    let p = err_from_is_err_and c.from_residual-in_err-put_tops.result c.from_residual-in_err-put_tops.ensures.1 in
    let shares = flat_map share_line c.shares.result.now in
    let branches = flat_map branch_line c.branches.result.now in
    let tops = flat_map top_line c.tops.result.now in
    let begun = passes_added _ [] _ first_line (rw c.new-block.ensures.empty at c.push.ensures.bytes) in
    let first = passes_next _ _ _ [] _ _ first_line shares begun c.in_ok-put_shares.ensures.text in
    let second = passes_next _ _ _ [] _ _ (first_line ++ shares) branches first c.in_ok-put_branches.ensures.text in
    let whole = behind_three first_line shares branches tops last_line in
    rw (p.1, ← c.shares.ensures.value, ← c.branches.ensures.value, ← c.tops.ensures.value)
    (cut_behind _ _ _ [] _ _ (first_line ++ shares ++ branches) tops _ whole second c.in_err-put_tops.ensures.text)

-- a cut before the last line is a cut in the whole text
pub returns-in_err-make_room-clause-text : goal.returns-in_err-make_room-clause-text
returns-in_err-make_room-clause-text g c =
    let p = err_from_is_err_and c.from_residual-in_err-make_room.result c.from_residual-in_err-make_room.ensures.1 in
    let shares = flat_map share_line c.shares.result.now in
    let branches = flat_map branch_line c.branches.result.now in
    let tops = flat_map top_line c.tops.result.now in
    let begun = passes_added _ [] _ first_line (rw c.new-block.ensures.empty at c.push.ensures.bytes) in
    let first = passes_next _ _ _ [] _ _ first_line shares begun c.in_ok-put_shares.ensures.text in
    let second = passes_next _ _ _ [] _ _ (first_line ++ shares) branches first c.in_ok-put_branches.ensures.text in
    let third = passes_next _ _ _ [] _ _ (first_line ++ shares ++ branches) tops second c.in_ok-put_tops.ensures.text in
    rw (p.1, ← c.shares.ensures.value, ← c.branches.ensures.value, ← c.tops.ensures.value)
    (cut_before _ _ _ [] _ _ (first_line ++ shares ++ branches ++ tops) last_line refl third c.in_err-make_room.ensures.text)

-- behind all these lines the last line, whole or cut, makes the text so
pub returns-clause-text : goal.returns-clause-text
returns-clause-text g c =
    let shares = flat_map share_line c.shares.result.now in
    let branches = flat_map branch_line c.branches.result.now in
    let tops = flat_map top_line c.tops.result.now in
    let begun = passes_added _ [] _ first_line (rw c.new-block.ensures.empty at c.push.ensures.bytes) in
    let first = passes_next _ _ _ [] _ _ first_line shares begun c.in_ok-put_shares.ensures.text in
    let second = passes_next _ _ _ [] _ _ (first_line ++ shares) branches first c.in_ok-put_branches.ensures.text in
    let third = passes_next _ _ _ [] _ _ (first_line ++ shares ++ branches) tops second c.in_ok-put_tops.ensures.text in
    let all = passes_more _ _ _ [] _ _ _ (first_line ++ shares ++ branches ++ tops) last_line third c.in_ok-make_room.ensures.text c.push-2.ensures.bytes in
    rw (← c.shares.ensures.value, ← c.branches.ensures.value, ← c.tops.ensures.value)
    (ends _ _ _ _ _ c.finish.result all c.finish.ensures.text)
