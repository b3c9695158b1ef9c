use Rattle.std.proofs.Common.{◌≡◌, ◌<◌, pos, length, get_or, refl, sym, ◌∙◌, rules, arith}
use mir.Syntax.{w128}
use mir.Val.{of_z, to_z}
use Rattle.std.proofs.lemmas.Result.{err_from_is_err_and}
use Rattle.hot_io.proofs.Blocks.{passes_more}
use Rattle.leap_frog.specs.Leap.{Moving}
use Rattle.leap_frog.specs.States.{vector_of}
use Rattle.state_file.proofs.Writing.{row-of-state, rows-take, cut-in-rows, rows-none, body-there, velocity-there, writable-at}
use Rattle.state_file.proofs.text.put_rows.Goals as goal

pub loop-i-init : goal.loop-i-init
loop-i-init g c = record { unfailed = refl; so_far = rows-none (g.O.Sink.written c.args.out.now) c.args.block.now }

pub unwrap-body-requires : goal.unwrap-body-requires
unwrap-body-requires g c = body-there c.args.state.now c.loop-i.i c.body.result (record { body = record { x = 0; y = 0; z = 0; mass = 0; row = 0 }; velocity = record { x = pos 0; y = pos 0; z = pos 0 } }) c.body.ensures.value (omega (arith, c.requires.idents_too))

pub unwrap-v-requires : goal.unwrap-v-requires
unwrap-v-requires g c = velocity-there c.args.state.now c.loop-i.i c.velocity.result c.velocity.ensures.value (omega (arith, c.requires.idents_too))

pub add_row-requires-clause-slow : goal.add_row-requires-clause-slow
add_row-requires-clause-slow g c =
    let s = c.args.state.now in
    let i = c.loop-i.i in
    let within : i < length s = omega (arith, c.requires.idents_too) in
    let e = rw c.unwrap-body.ensures at c.body.ensures.value in
    let f = sym c.unwrap-v.ensures ∙ c.velocity.ensures.value in
    let m : Moving = record { body = c.unwrap-body.result.now; velocity = vector_of c.unwrap-v.result } in
    let there = row-of-state s i c.unwrap-body.result.now c.unwrap-v.result e f in
    writable-at s i m c.requires.slow within there

pub returns-in_err-make_room-clause-text : goal.returns-in_err-make_room-clause-text
returns-in_err-make_room-clause-text g c =
    let p = err_from_is_err_and c.from_residual.result c.from_residual.ensures.1 in
    rw p.1 (cut-in-rows c.args.state.now c.args.idents.now c.loop-i.i _ _ _ _ _ c.loop-i.invariant.so_far c.in_err-make_room.ensures.text)

pub loop-i-preserved : goal.loop-i-preserved
loop-i-preserved g c =
    let s = c.args.state.now in
    let i = c.loop-i.i in
    let within : i < length s = omega (arith, c.requires.idents_too) in
    let e = rw c.unwrap-body.ensures at c.body.ensures.value in
    let f = sym c.unwrap-v.ensures ∙ c.velocity.ensures.value in
    let m : Moving = record { body = c.unwrap-body.result.now; velocity = vector_of c.unwrap-v.result } in
    let there = row-of-state s i c.unwrap-body.result.now c.unwrap-v.result e f in
    let read : to_z w128 (of_z w128 (get_or c.args.idents.now i (pos 0))) ≡ get_or c.args.idents.now i (pos 0) = search rules in
    record {
      unfailed = search rules;
      so_far =
          rw (rows-take s c.args.idents.now i m (to_z w128 (of_z w128 (get_or c.args.idents.now i (pos 0)))) within c.loop-i-test.true there read)
          (passes_more _ _ _ _ _ _ _ _ _ c.loop-i.invariant.so_far c.in_ok-make_room.ensures.text c.add_row.ensures.text);
    }
