-- What is true of a world: answers.
use Rattle.std.specs.Prelude.{ℕ, if◌then◌else◌, List, flat_map, option_to_list}
use Rattle.hot_units.specs.Values.{BodyValue, CellValue}
use Rattle.hot_units.specs.Keys.{digits, child}
use Rattle.hot_model.specs.Trees.{inside, record_at, leaf_at}
use Rattle.hot_model.specs.declared.answer.Answer.{Answer}
use Rattle.hot_model.specs.declared.answer.Answer.TheVariants.{Children, Bodies}
use Rattle.rank_model.specs.World.{World}

-- the records of the children that have bodies, by ascending key
abbrev pub children_at : List BodyValue → ℕ → List CellValue
children_at bodies c = flat_map (λ d. option_to_list (record_at bodies (child c d))) digits

-- the bodies of a leaf, else the records of the children
abbrev pub answer_at : ℕ → List BodyValue → ℕ → Answer
answer_at leaf bodies c = if leaf_at leaf bodies c then Bodies (inside bodies c) else Children (children_at bodies c)

-- the records of the children that have bodies of the world
abbrev pub child_records : World → ℕ → List CellValue
child_records w c = children_at w.bodies c

-- the answer of the owner
abbrev pub true_answer : World → ℕ → Answer
true_answer w c = answer_at w.leaf w.bodies c
