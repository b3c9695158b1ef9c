use Rattle.std.proofs.Common.{◌≡◌, ℕ, take}
use Rattle.rank_model.specs.World.{World, bodies_in}
use Rattle.rank_model.specs.Needs.{part_of}
use Rattle.rank_model.specs.declared.part.Part.TheVariants.{Leaf}
use Rattle.defer_walk.proofs.groups.read_leaf.Given as goal

abbrev pub invariant-loop-i : goal.invariant-loop-i
invariant-loop-i g l = (w : World) (me : ℕ) → g.C.Cells.stands l.cells w me → part_of w me l.key ≡ Leaf → l.leaf.items ≡ take l.i (bodies_in w l.key)
