use Rattle.std.proofs.Common.{[], ◌∙◌, append-nil, refl, sym, ap}
use Rattle.std.proofs.lemmas.Result.{err_from_is_err_and}
use Rattle.sdf_header.specs.Layouts.{LayoutValue}
use Rattle.body_file.specs.Faults.{differs, set_before}
use Rattle.body_file.proofs.Headers.{whole_refused, cube_refused}
use Rattle.body_file.proofs.Takings.{rows_begun, rows_stop}
use Rattle.body_file.proofs.reader.begin_rows.Goals as goal

-- a whole header that gives no layout stops the reading, whatever follows
pub returns-in-Err : goal.returns-in-Err
returns-in-Err c =
    let whole = c.requires.whole in
    rw c.header_error.ensures (whole_refused c.args.before whole.0 c.args.header c.args.piece.now c.in-Err.error whole.1 c.in-Err.ensures.value)

-- another cube stops it, whatever follows
pub returns-in_default : goal.returns-in_default
returns-in_default c =
    let whole = c.requires.whole in
    cube_refused c.args.before c.in-Ok.layout c.args.header c.args.piece.now
    (record { text = whole.0; whole = whole.1; gives = c.in-Ok.ensures.value; len = c.in-Ok.ensures.header_len })
    (ap (λ (v : LayoutValue). differs c.args.before v.cube) (sym c.layout.view_is) ∙ c.in_default.ensures)

-- the new reader of rows and the set of the files before stand at the same bytes behind a header
pub take_rows-requires : goal.take_rows-requires
take_rows-requires c =
    let begun = rows_begun c.args.before c.in-Ok.layout c.layout.inside.cube c.from_row-rows.result c.in-Some.set c.len.result (ap (λ (v : LayoutValue). v.cube) c.layout.view_is) c.requires.before c.in-Ok.ensures.facts c.in-Some.ensures c.len.ensures.value c.from_row-rows.ensures.empty in
    record { fed = (set_before c.args.before c.in-Ok.layout.cube, c.in-Ok.layout, [], begun.1) }

-- where the rows stop at the piece, the reader stops at header and piece
pub returns-in_err-take_rows : goal.returns-in_err-take_rows
returns-in_err-take_rows c =
    let p = err_from_is_err_and c.from_residual.result c.from_residual.ensures.1 in
    let whole = c.requires.whole in
    let begun = rows_begun c.args.before c.in-Ok.layout c.layout.inside.cube c.from_row-rows.result c.in-Some.set c.len.result (ap (λ (v : LayoutValue). v.cube) c.layout.view_is) c.requires.before c.in-Ok.ensures.facts c.in-Some.ensures c.len.ensures.value c.from_row-rows.ensures.empty in
    rw (p.1, p.2) (rows_stop c.args.before c.in-Ok.layout c.args.header [] c.args.piece.now c.args.header c.in_err-take_rows.field-0.0
    (record { text = whole.0; whole = whole.1; gives = c.in-Ok.ensures.value; len = c.in-Ok.ensures.header_len }) begun.0 (sym (append-nil c.args.header))
    (c.in_err-take_rows.ensures (set_before c.args.before c.in-Ok.layout.cube) c.in-Ok.layout [] begun.1))

-- where the rows take the piece, the reader was given header and piece
pub returns : goal.returns
returns c =
    let whole = c.requires.whole in
    let begun = rows_begun c.args.before c.in-Ok.layout c.layout.inside.cube c.from_row-rows.result c.in-Some.set c.len.result (ap (λ (v : LayoutValue). v.cube) c.layout.view_is) c.requires.before c.in-Ok.ensures.facts c.in-Some.ensures c.len.ensures.value c.from_row-rows.ensures.empty in
    record {
      layout = c.in-Ok.layout;
      front = c.args.header;
      body = c.args.piece.now;
      all = refl;
      header = record { text = whole.0; whole = whole.1; gives = c.in-Ok.ensures.value; len = c.in-Ok.ensures.header_len };
      same = begun.0;
      rows = c.in_ok-take_rows.ensures (set_before c.args.before c.in-Ok.layout.cube) c.in-Ok.layout [] begun.1;
    }
