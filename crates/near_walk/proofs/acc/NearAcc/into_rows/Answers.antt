use Rattle.std.proofs.Common.{ap, ◌∙◌}
use Rattle.near_walk.specs.Near.{NearValue}
use Rattle.near_walk.proofs.Insertions.{sorted-is}
use Rattle.near_walk.proofs.acc.NearAcc.into_rows.Goals as goal

pub returns : goal.returns
returns c = record {
  value = sorted-is _ _ c.sort_unstable.ensures.permutation c.sort_unstable.ensures.sorted ∙ ap (λ (v : NearValue). v.rows) c.self.view_is;
}
