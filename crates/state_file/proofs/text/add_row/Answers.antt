use Rattle.std.proofs.Common.{◌≡◌, pos, get_or, rules, ap, ◌∙◌}
use mir.Syntax.{w128}
use mir.Val.{of_z, to_z}
use Rattle.std.proofs.lemmas.Int.{to_z-of_z}
use Rattle.byteorder.specs.Endian.{little_bytes}
use Rattle.hot_units.specs.Values.{BodyValue}
use Rattle.leap_frog.specs.States.{vector_of}
use Rattle.state_file.specs.Texts.{bits_of}
use Rattle.state_file.proofs.Writing.{row-added}
use Rattle.state_file.proofs.text.add_row.Goals as goal

pub returns : goal.returns
returns c =
    let view = c.body.view_is in
    let x : c.to_le_bytes.result ≡ little_bytes 4 c.args.body.now.x = c.to_le_bytes.ensures ∙ ap (λ (b : BodyValue). little_bytes 4 b.x) view in
    let y : c.to_le_bytes-2.result ≡ little_bytes 4 c.args.body.now.y = c.to_le_bytes-2.ensures ∙ ap (λ (b : BodyValue). little_bytes 4 b.y) view in
    let z : c.to_le_bytes-3.result ≡ little_bytes 4 c.args.body.now.z = c.to_le_bytes-3.ensures ∙ ap (λ (b : BodyValue). little_bytes 4 b.z) view in
    let mass : c.to_le_bytes-4.result ≡ little_bytes 4 c.args.body.now.mass = c.to_le_bytes-4.ensures ∙ ap (λ (b : BodyValue). little_bytes 4 b.mass) view in
    let i : c.to_le_bytes-5.result ≡ little_bytes 8 (bits_of c.args.ident) = c.to_le_bytes-5.ensures ∙ ap (little_bytes 8) (c.bits.ensures ∙ ap bits_of (to_z-of_z w128 c.args.ident c.ranges.ident)) in
    let read-x : to_z w128 (of_z w128 (get_or c.args.v.now 0 (pos 0))) ≡ get_or c.args.v.now 0 (pos 0) = search rules in
    let read-y : to_z w128 (of_z w128 (get_or c.args.v.now 1 (pos 0))) ≡ get_or c.args.v.now 1 (pos 0) = search rules in
    let read-z : to_z w128 (of_z w128 (get_or c.args.v.now 2 (pos 0))) ≡ get_or c.args.v.now 2 (pos 0) = search rules in
    let vx = c.to_le_bytes-6.ensures ∙ ap (little_bytes 8) (c.bits-2.ensures ∙ ap bits_of read-x) in
    let vy = c.to_le_bytes-7.ensures ∙ ap (little_bytes 8) (c.bits-3.ensures ∙ ap bits_of read-y) in
    let vz = c.to_le_bytes-8.ensures ∙ ap (little_bytes 8) (c.bits-4.ensures ∙ ap bits_of read-z) in
    record {
      text =
          row-added (record { body = c.args.body.now; velocity = vector_of c.args.v.now }) c.args.ident _ _ _ _ _ _ _ _ _ _ _ _ _ _ _ _ _ x y z mass i vx vy vz
          c.push.ensures.bytes c.push-2.ensures.bytes c.push-3.ensures.bytes c.push-4.ensures.bytes c.push-5.ensures.bytes c.push-6.ensures.bytes c.push-7.ensures.bytes c.push-8.ensures.bytes;
    }
