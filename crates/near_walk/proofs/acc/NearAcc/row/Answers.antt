use Rattle.std.proofs.Common.{ap, sym, ◌∙◌, arith, ◌≤◌, length}
use Rattle.std.specs.List.{slice_get}
use Rattle.near_walk.specs.Near.{NearValue}
use Rattle.near_walk.proofs.Picks.{pick-past}
use Rattle.near_walk.proofs.acc.NearAcc.row.Goals as goal

pub returns-else-i-len : goal.returns-else-i-len
returns-else-i-len c =
    let h : length c.self.inside.rows.items ≤ c.args.i = omega (arith, c.self.inside.rows.ok.0) in
    record {
      value = sym (pick-past c.self.inside.rows.items c.args.i h) ∙ ap (λ (v : NearValue). slice_get v.rows c.args.i) c.self.view_is;
    }
