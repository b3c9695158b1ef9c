use Rattle.std.proofs.Common.{◌≡◌, rules}
use mir.Syntax.{w128}
use mir.Val.{of_z, to_z}
use Rattle.force_out.proofs.Lines.{line_joined}
use Rattle.force_out.proofs.text.add_body.Goals as goal

-- the block has gained the ident and the three components of the force
pub returns : goal.returns
returns c =
    let name : to_z w128 (of_z w128 c.args.ident) ≡ c.args.ident = search rules in
    let x : to_z w128 (of_z w128 c.force.inside.ax) ≡ c.args.force.now.ax = search rules in
    let y : to_z w128 (of_z w128 c.force.inside.ay) ≡ c.args.force.now.ay = search rules in
    let z : to_z w128 (of_z w128 c.force.inside.az) ≡ c.args.force.now.az = search rules in
    record {
      text =
          rw (← name, ← x, ← y, ← z)
          (line_joined _ _ _ _ _ _ _ _ _ _ c.add.ensures.text c.add-2.ensures.text c.add-3.ensures.text c.add-4.ensures.text c.push.ensures.bytes);
    }
