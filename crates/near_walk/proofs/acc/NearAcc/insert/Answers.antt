use Rattle.std.proofs.Common.{ap, ◌∙◌, List, ℕ}
use Rattle.near_walk.specs.Ascending.{ascending, inserted}
use Rattle.near_walk.specs.Near.{near_value, NearValue}
use Rattle.near_walk.proofs.Insertions.{ascending-push}
use Rattle.near_walk.proofs.acc.NearAcc.insert.Goals as goal

pub returns : goal.returns
returns c = record {
  inserted_or_unchanged = ap (λ (rows : List ℕ). near_value c.self.inside.seen (ascending rows)) c.in_ok-push.ensures.items
      ∙ (ap (near_value c.self.inside.seen) (ascending-push c.self.inside.rows.items c.args.row)
      ∙ ap (λ (v : NearValue). near_value v.seen (inserted c.args.row v.rows)) c.self.view_is);
}
