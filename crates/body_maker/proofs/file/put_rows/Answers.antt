use Rattle.std.proofs.Common.{[], ◌+◌, rules, refl, ap, ◌∙◌, arith, sym, append-nil}
use Rattle.std.proofs.lemmas.Result.{err_from_is_err_and}
use Rattle.hot_io.proofs.Blocks.{passes_added, passes_more}
use Rattle.body_maker.specs.Generator.{place_from}
use Rattle.body_maker.proofs.Making.{rows-none, rows-more, cut-rows, state-none, state-more}
use Rattle.body_maker.proofs.file.put_rows.Goals as goal

-- at first no row is on its way, and the state is the seed
pub loop-k-init : goal.loop-k-init
loop-k-init g c = record { unfailed = refl; state = state-none c.args.seed; so_far = rw (rows-none c.args.seed) (passes_added _ _ _ [] (sym (append-nil _))) }

-- where the rows before a body are cut, so are the rows of all bodies
pub returns-in_err-make_room-clause-text : goal.returns-in_err-make_room-clause-text
returns-in_err-make_room-clause-text g c =
    let p = err_from_is_err_and c.from_residual.result c.from_residual.ensures.1 in
    rw p.1 (cut-rows c.args.seed c.loop-k._k c.args.bodies _ _ _ _ _ c.loop-k-test.true c.loop-k.invariant.so_far c.in_err-make_room.ensures.text)

-- with the next row the rows of one body more are on their way, and the state is past its draws
pub loop-k-preserved : goal.loop-k-preserved
loop-k-preserved g c = record {
  unfailed = search rules;
  state = state-more c.args.seed c.loop-k._k _ c.loop-k.state c.draw_place-next.result.1 c.loop-k.invariant.state c.draw_place-next.ensures.state (omega arith);
  so_far = rw (rows-more c.args.seed c.loop-k._k (c.loop-k._k + 1) c.draw_place-next.result.0 (c.draw_place-next.ensures.place ∙ ap place_from c.loop-k.invariant.state) (omega arith)) (passes_more _ _ _ _ _ _ _ _ _ c.loop-k.invariant.so_far c.in_ok-make_room.ensures.text c.add_row.ensures.row);
}
