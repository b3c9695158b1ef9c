use Rattle.std.proofs.Common.{[], ◌++◌, flat_map, append-nil, sym, ap}
use Rattle.std.proofs.lemmas.Result.{err_from_is_err_and}
use Rattle.hot_io.proofs.Blocks.{passes_added, passes_next, cut_behind, ends}
use Rattle.body_maker.specs.Generator.{places}
use Rattle.body_maker.specs.Made.{header, row_bytes, made_file}
use Rattle.body_maker.proofs.file.write_made.Goals as goal

-- where the header or the rows are cut, so is the file
pub returns-in_err-put_rows-clause-text : goal.returns-in_err-put_rows-clause-text
returns-in_err-put_rows-clause-text g c =
    let p = err_from_is_err_and c.from_residual.result c.from_residual.ensures.1 in
    let first = header c.args.bodies in
    let rows = flat_map row_bytes (places c.args.bodies c.args.seed) in
    rw p.1 (cut_behind _ _ _ [] _ (made_file c.args.bodies c.args.seed) first rows [] (ap (λ l. first ++ l) (sym (append-nil rows))) (passes_added _ [] _ first c.header-block.ensures.header) c.in_err-put_rows.ensures.text)

-- behind the header the rows make the file, whole or cut
pub returns-clause-text : goal.returns-clause-text
returns-clause-text g c =
    let first = header c.args.bodies in
    let rows = flat_map row_bytes (places c.args.bodies c.args.seed) in
    ends _ _ _ _ _ c.finish.result (passes_next _ _ _ [] _ _ first rows (passes_added _ [] _ first c.header-block.ensures.header) c.in_ok-put_rows.ensures.text) c.finish.ensures.text
