use Rattle.std.proofs.Common.{◌≡◌, rules, [], refl, take, take_all, arith}
use Rattle.std.proofs.lemmas.Result.{err_from_is_err_and}
use Rattle.hot_io.proofs.Blocks.{passes_added, passes_next, ends}
use Rattle.hot_io.proofs.Pieces.{bytes_in, bytes_in-take, cut_at}
use Rattle.hot_io.proofs.writers.write_pieces.Goals as goal

pub loop-piece-init : goal.loop-piece-init
loop-piece-init g c = record { unfailed = refl; so_far = passes_added _ [] _ [] c.new-block.ensures.empty }

pub returns-in_err-put-clause-bytes : goal.returns-in_err-put-clause-bytes
returns-in_err-put-clause-bytes g c =
    let p = err_from_is_err_and c.from_residual.result c.from_residual.ensures.1 in
    rw p.1 (cut_at c.args.pieces.now c.loop-piece.piece-index _ _ _ _ _ c.loop-piece-test.true c.loop-piece.invariant.so_far c.in_err-put.ensures.text)

pub loop-piece-preserved : goal.loop-piece-preserved
loop-piece-preserved g c = record {
  unfailed = search rules;
  so_far =
      rw (bytes_in-take c.args.pieces.now c.loop-piece.piece-index (record { ref_ptr = (0, 0); now = [] }) c.loop-piece-test.true)
      (passes_next _ _ _ [] _ _ (bytes_in (take c.loop-piece.piece-index c.args.pieces.now)) _ c.loop-piece.invariant.so_far c.in_ok-put.ensures.text);
}

pub returns-clause-bytes : goal.returns-clause-bytes
returns-clause-bytes g c =
    let all : take c.loop-piece.piece-index c.args.pieces.now ≡ c.args.pieces.now = take_all _ _ (omega arith) in
    rw all at (ends _ _ _ _ _ c.finish.result c.loop-piece.invariant.so_far c.finish.ensures.text)
