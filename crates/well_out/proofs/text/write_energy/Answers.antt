use Rattle.std.proofs.Common.{length, [], ◌++◌, append_assoc, refl}
use Rattle.std.proofs.lemmas.Result.{err_from_is_err_and}
use Rattle.hot_io.proofs.Blocks.{passes_added, passes_next, passes_more, cut_behind, cut_before, ends}
use Rattle.well_out.specs.EnergyText.{first_line, body_lines, sum_line, last_line}
use Rattle.well_out.proofs.text.write_energy.Goals as goal

-- a cut in the lines of the bodies is a cut in the whole text
pub returns-in_err-put_bodies-clause-text : goal.returns-in_err-put_bodies-clause-text
returns-in_err-put_bodies-clause-text g c =
    let p = err_from_is_err_and c.from_residual.result c.from_residual.ensures.1 in
    let lines = body_lines c.args.idents.now c.args.wells.now in
    let last = sum_line c.args.sums.0 c.args.sums.1 ++ last_line (length c.args.wells.now) in
    let first = passes_added _ [] _ first_line (rw c.new-block.ensures.empty at c.push.ensures.bytes) in
    rw p.1 (cut_behind _ _ _ [] _ _ first_line lines last (append_assoc first_line lines last) first c.in_err-put_bodies.ensures.text)

-- a cut before the last two lines is a cut in the whole text
pub returns-in_err-make_room-clause-text : goal.returns-in_err-make_room-clause-text
returns-in_err-make_room-clause-text g c =
    let p = err_from_is_err_and c.from_residual-in_err-make_room.result c.from_residual-in_err-make_room.ensures.1 in
    let lines = body_lines c.args.idents.now c.args.wells.now in
    let last = sum_line c.args.sums.0 c.args.sums.1 ++ last_line (length c.args.wells.now) in
    let first = passes_added _ [] _ first_line (rw c.new-block.ensures.empty at c.push.ensures.bytes) in
    let before = passes_next _ _ _ [] _ _ first_line lines first c.in_ok-put_bodies.ensures.text in
    rw p.1 (cut_before _ _ _ [] _ _ (first_line ++ lines) last refl before c.in_err-make_room.ensures.text)

-- behind the lines of the bodies the last two lines, whole or cut, make the text so
pub returns-clause-text : goal.returns-clause-text
returns-clause-text g c =
    let lines = body_lines c.args.idents.now c.args.wells.now in
    let last = sum_line c.args.sums.0 c.args.sums.1 ++ last_line (length c.args.wells.now) in
    let first = passes_added _ [] _ first_line (rw c.new-block.ensures.empty at c.push.ensures.bytes) in
    let before = passes_next _ _ _ [] _ _ first_line lines first c.in_ok-put_bodies.ensures.text in
    let all = passes_more _ _ _ [] _ _ _ (first_line ++ lines) last before c.in_ok-make_room.ensures.text c.add_ends.ensures.text in
    ends _ _ _ _ _ c.finish.result all c.finish.ensures.text
