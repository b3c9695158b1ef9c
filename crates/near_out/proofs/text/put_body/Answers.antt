use Rattle.std.proofs.Common.{◌≡◌, [], ◌++◌, length, flat_map, refl, append_assoc, rules}
use mir.Syntax.{w128}
use mir.Val.{of_z, to_z}
use Rattle.std.proofs.lemmas.Result.{err_from_is_err_and}
use Rattle.hot_io.specs.Writing.{line_end}
use Rattle.hot_io.proofs.Blocks.{passes_added, passes_next, passes_more, cut_behind, cut_before, cut_first}
use Rattle.near_out.specs.NearText.{line_front, row_word}
use Rattle.near_out.proofs.text.put_body.Goals as goal

-- where what was held is cut, so is the line
pub returns-in_err-make_room-clause-text : goal.returns-in_err-make_room-clause-text
returns-in_err-make_room-clause-text g c =
    let p = err_from_is_err_and c.from_residual.result c.from_residual.ensures.1 in
    rw p.1 (cut_first _ _ _ _ c.in_err-make_room.ensures.text)

-- where the rows are cut, so is the line
pub returns-in_err-put_rows-clause-text : goal.returns-in_err-put_rows-clause-text
returns-in_err-put_rows-clause-text g c =
    let p = err_from_is_err_and c.from_residual-in_err-put_rows.result c.from_residual-in_err-put_rows.ensures.1 in
    let name : to_z w128 (of_z w128 c.args.ident) ≡ c.args.ident = search rules in
    let front = line_front c.args.ident (length c.args.rows.now) in
    let rows = flat_map row_word c.args.rows.now in
    let begun = passes_next _ _ _ _ _ _ [] front c.in_ok-make_room.ensures.text (passes_added _ _ _ front (rw name at c.add_front.ensures.text)) in
    rw p.1 (cut_behind _ _ _ _ _ _ front rows line_end (append_assoc front rows line_end) begun c.in_err-put_rows.ensures.text)

-- where the line is cut before its end, it is cut
pub returns-in_err-make_room-2-clause-text : goal.returns-in_err-make_room-2-clause-text
returns-in_err-make_room-2-clause-text g c =
    let p = err_from_is_err_and c.from_residual-in_err-make_room-2.result c.from_residual-in_err-make_room-2.ensures.1 in
    let name : to_z w128 (of_z w128 c.args.ident) ≡ c.args.ident = search rules in
    let front = line_front c.args.ident (length c.args.rows.now) in
    let rows = flat_map row_word c.args.rows.now in
    let begun = passes_next _ _ _ _ _ _ [] front c.in_ok-make_room.ensures.text (passes_added _ _ _ front (rw name at c.add_front.ensures.text)) in
    let before = passes_next _ _ _ _ _ _ front rows begun c.in_ok-put_rows.ensures.text in
    rw p.1 (cut_before _ _ _ _ _ _ (front ++ rows) line_end refl before c.in_err-make_room-2.ensures.text)

-- with its end the line is on its way
pub returns-clause-text : goal.returns-clause-text
returns-clause-text g c =
    let name : to_z w128 (of_z w128 c.args.ident) ≡ c.args.ident = search rules in
    let front = line_front c.args.ident (length c.args.rows.now) in
    let rows = flat_map row_word c.args.rows.now in
    let begun = passes_next _ _ _ _ _ _ [] front c.in_ok-make_room.ensures.text (passes_added _ _ _ front (rw name at c.add_front.ensures.text)) in
    let before = passes_next _ _ _ _ _ _ front rows begun c.in_ok-put_rows.ensures.text in
    passes_more _ _ _ _ _ _ _ (front ++ rows) line_end before c.in_ok-make_room-2.ensures.text c.push.ensures.bytes
