use Rattle.std.proofs.lemmas.Result.{err_from_is_err_and}
use Rattle.hot_io.proofs.Blocks.{cut_first, none_held, sent_past}
use Rattle.hot_io.proofs.block.Block.put.Goals as goal

pub returns-in_err-make_room-clause-text : goal.returns-in_err-make_room-clause-text
returns-in_err-make_room-clause-text g c =
    let p = err_from_is_err_and c.from_residual.result c.from_residual.ensures.1 in
    rw p.1 (cut_first _ _ _ c.args.bytes.now c.in_err-make_room.ensures.text)

pub returns-then-bytes-gt-BLOCK-clause-text : goal.returns-then-bytes-gt-BLOCK-clause-text
returns-then-bytes-gt-BLOCK-clause-text g c =
    sent_past _ _ _ _ _ c.args.bytes.now c.write_all.result c.in_ok-make_room.ensures.text (none_held _ _ c.in_ok-make_room.ensures.free) c.write_all.ensures.bytes

pub returns-in_err-make_room-2-clause-text : goal.returns-in_err-make_room-2-clause-text
returns-in_err-make_room-2-clause-text g c =
    let p = err_from_is_err_and c.from_residual-in_err-make_room-2.result c.from_residual-in_err-make_room-2.ensures.1 in
    rw p.1 (cut_first _ _ _ c.args.bytes.now c.in_err-make_room-2.ensures.text)
