use Rattle.std.proofs.Common.{map, length, [], ◌++◌, append_assoc, refl}
use Rattle.std.proofs.lemmas.List.{length-map}
use Rattle.std.proofs.lemmas.Result.{err_from_is_err_and}
use Rattle.hot_io.proofs.Blocks.{passes_added, passes_next, passes_more, cut_behind, cut_before, ends}
use Rattle.near_out.specs.NearText.{first_line, body_lines, last_line}
use Rattle.near_out.proofs.text.write_near.Goals as goal

-- a cut in the lines of the bodies is a cut in the whole text
pub returns-in_err-put_bodies-clause-text : goal.returns-in_err-put_bodies-clause-text
returns-in_err-put_bodies-clause-text g c =
    let p = err_from_is_err_and c.from_residual.result c.from_residual.ensures.1 in
    let lists = map (λ v. v.items) c.args.lists.now in
    let lines = body_lines c.args.idents.now lists in
    let last = last_line (length lists) in
    let first = passes_added _ [] _ first_line (rw c.new-block.ensures.empty at c.push.ensures.bytes) in
    rw p.1 (cut_behind _ _ _ [] _ _ first_line lines last (append_assoc first_line lines last) first c.in_err-put_bodies.ensures.text)

-- a cut before the last line is a cut in the whole text
pub returns-in_err-make_room-clause-text : goal.returns-in_err-make_room-clause-text
returns-in_err-make_room-clause-text g c =
    let p = err_from_is_err_and c.from_residual-in_err-make_room.result c.from_residual-in_err-make_room.ensures.1 in
    let lists = map (λ v. v.items) c.args.lists.now in
    let lines = body_lines c.args.idents.now lists in
    let last = last_line (length lists) in
    let first = passes_added _ [] _ first_line (rw c.new-block.ensures.empty at c.push.ensures.bytes) in
    let before = passes_next _ _ _ [] _ _ first_line lines first c.in_ok-put_bodies.ensures.text in
    rw p.1 (cut_before _ _ _ [] _ _ (first_line ++ lines) last refl before c.in_err-make_room.ensures.text)

-- behind all these lines the last line, whole or cut, makes the text so
pub returns-clause-text : goal.returns-clause-text
returns-clause-text g c =
    let lists = map (λ v. v.items) c.args.lists.now in
    let lines = body_lines c.args.idents.now lists in
    let last = last_line (length c.args.lists.now) in
    let first = passes_added _ [] _ first_line (rw c.new-block.ensures.empty at c.push.ensures.bytes) in
    let before = passes_next _ _ _ [] _ _ first_line lines first c.in_ok-put_bodies.ensures.text in
    let all = passes_more _ _ _ [] _ _ _ (first_line ++ lines) last before c.in_ok-make_room.ensures.text c.add_end.ensures.text in
    rw (length-map c.args.lists.now (λ v. v.items)) (ends _ _ _ _ _ c.finish.result all c.finish.ensures.text)
