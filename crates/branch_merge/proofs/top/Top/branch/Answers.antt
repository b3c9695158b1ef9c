use Rattle.std.proofs.Common.{ap, ◌∙◌}
use Rattle.branch_merge.specs.declared.listed.Listed.{Listed}
use Rattle.branch_merge.proofs.Holding.{unlisted, unheld}
use Rattle.branch_merge.proofs.top.Top.branch.Goals as goal
use Rattle.branch_merge.proofs.top.Top.branch.Goals.{in_default-via-in-Some+else-x-key, in_default-via-in_default}

pub returns-in_default : goal.returns-in_default
returns-in_default c = record {
  listed = elim c.in_default.branch [
    | in_default-via-in-Some+else-x-key w ↦ unlisted c.args.self.now c.args.key w.in-Some.x c.requires.cell w.in-Some.ensures.holder (λ e. w.if-x-key.false (ap (λ (x : Listed). x.rec.key) w.x.view_is ∙ e))
    | in_default-via-in_default w ↦ unheld c.args.self.now c.args.key c.requires.cell w.in_default.ensures.holder
  ];
}
