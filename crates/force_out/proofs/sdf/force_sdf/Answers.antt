use Rattle.std.proofs.Common.{[], ◌++◌, length, append-nil, sym, ap}
use Rattle.std.proofs.lemmas.Result.{err_from_is_err_and}
use Rattle.hot_io.proofs.Blocks.{passes_added, passes_next, cut_behind, ends}
use Rattle.force_out.specs.ForcesSdf.{header, body_rows, forces_sdf}
use Rattle.force_out.proofs.sdf.force_sdf.Goals as goal

-- where the header or the rows are cut, so is the file
pub returns-in_err-put_rows-clause-file : goal.returns-in_err-put_rows-clause-file
returns-in_err-put_rows-clause-file g c =
    let p = err_from_is_err_and c.from_residual.result c.from_residual.ensures.1 in
    let first = header (length c.args.forces.now) in
    let rows = body_rows c.args.idents.now c.args.forces.now in
    rw p.1 (cut_behind _ _ _ [] _ (forces_sdf c.args.idents.now c.args.forces.now) first rows [] (ap (λ l. first ++ l) (sym (append-nil rows))) (passes_added _ [] _ first c.header-block.ensures.header) c.in_err-put_rows.ensures.rows)

-- behind the header the rows make the file, whole or cut
pub returns-clause-file : goal.returns-clause-file
returns-clause-file g c =
    let first = header (length c.args.forces.now) in
    let rows = body_rows c.args.idents.now c.args.forces.now in
    ends _ _ _ _ _ c.finish.result (passes_next _ _ _ [] _ _ first rows (passes_added _ [] _ first c.header-block.ensures.header) c.in_ok-put_rows.ensures.rows) c.finish.ensures.text
