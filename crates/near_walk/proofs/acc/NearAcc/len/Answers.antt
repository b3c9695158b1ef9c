use Rattle.std.proofs.Common.{ap, sym, ◌∙◌, length}
use Rattle.near_walk.specs.Near.{NearValue}
use Rattle.near_walk.proofs.Insertions.{length-ascending}
use Rattle.near_walk.proofs.acc.NearAcc.len.Goals as goal

pub returns : goal.returns
returns c = record { value = c.len.ensures ∙ (c.self.inside.rows.ok.0 ∙ (sym (length-ascending _) ∙ ap (λ (v : NearValue). length v.rows) c.self.view_is)) }
