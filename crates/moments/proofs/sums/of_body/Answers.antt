use Rattle.std.proofs.Common.{◌≡◌, true, sym, subst}
use Rattle.hot_units.specs.Values.{BodyValue}
use Rattle.hot_units.specs.Keys.{contains}
use Rattle.moments.proofs.Joins.{one-facts}
use Rattle.moments.proofs.sums.of_body.Goals as goal

pub new-requires : goal.new-requires
new-requires c =
    let i = c.b.inside in
    let b : BodyValue = record { x = i.x; y = i.y; z = i.z; mass = i.mass; row = i.row } in
    let h = c.b.invariant in
    record {
      facts =
          one-facts c.args.cell b c.from.result c.from-mass.result c.from-x.result c.from-y.result c.from-z.result
          c.from.ensures c.from-mass.ensures c.from-x.ensures c.from-y.ensures c.from-z.ensures
          c.requires.cell (record { x_in = h.0; y_in = h.1; z_in = h.2; weighs = h.3; light = h.4 })
          (subst (λ (v : BodyValue). contains c.args.cell v ≡ true) (sym c.b.view_is) c.requires.contained);
    }
