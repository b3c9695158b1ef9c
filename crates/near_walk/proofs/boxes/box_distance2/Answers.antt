use Rattle.std.proofs.Common.{ap, ◌∙◌, ◌-◌, ℕ}
use Rattle.hot_units.specs.Values.{CellValue, point_at}
use Rattle.hot_units.specs.Keys.{level}
use Rattle.near_walk.proofs.Gaps.{box-by}
use Rattle.near_walk.proofs.boxes.box_distance2.Goals as goal

pub returns : goal.returns
returns c = record {
  value = box-by (point_at c.args.p) (point_at c.centre-inside.result) c.args.c.now.key (29 - c.level-below.result) _ _ _
      (c.centre-inside.ensures.in_cell c.requires.not_empty)
      (ap (λ (n : ℕ). 29 - n) (c.level-below.ensures.value ∙ ap (λ (v : CellValue). level v.key) c.c.view_is))
      c.gap2.ensures.value c.gap2-2.ensures.value c.gap2-3.ensures.value;
}
