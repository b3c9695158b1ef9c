use Rattle.std.proofs.Common.{◌-◌, ◌∙◌, ℕ, List, map, length, take, drop, take_all, length-drop, arith, ap}
use Rattle.hot_units.specs.Values.{BodyValue}
use Rattle.hot_units.specs.Numbers.{greatest, least}
use Rattle.hot_units.specs.Keys.{key_of_body}
use Rattle.work_split.specs.Splits.{ranks_of}
use Rattle.work_split.proofs.Lists.{starts-say, left-front, right-back}
use Rattle.work_split.proofs.pieces.Pieces.neighbours.Goals as goal

-- the greatest key before the rank's start is its left neighbour
pub returns-clause-left : goal.returns-clause-left
returns-clause-left c =
    let ranks = ranks_of c.args.self.now in
    let say = starts-say c.args.set.now c.args.self.now ranks c.args.q c.requires.same c.requires.rank in
    c.greatest_key.ensures.value
    ∙ (ap (λ (xs : List BodyValue). greatest (map key_of_body (take c.range-from.result.0 xs))) c.bodies-bodies.ensures.value
    ∙ left-front c.args.set.now ranks c.args.q c.range-from.result.0 c.bodies-bodies.ensures.facts (ap (λ (p : ℕ × ℕ). p.0) c.range-from.ensures.value ∙ say.0))

-- the least key from the rank's end on is its right neighbour
pub returns-clause-right : goal.returns-clause-right
returns-clause-right c =
    let ranks = ranks_of c.args.self.now in
    let say = starts-say c.args.set.now c.args.self.now ranks c.args.q c.requires.same c.requires.rank in
    let to = c.range-from.result.1 in
    let bodies = c.bodies-bodies.result.now in
    c.least_key.ensures.value
    ∙ (ap (λ (xs : List BodyValue). least (map key_of_body xs)) (take_all (length bodies - to) (drop to bodies) (omega (arith, length-drop to bodies)))
    ∙ (ap (λ (xs : List BodyValue). least (map key_of_body (drop to xs))) c.bodies-bodies.ensures.value
    ∙ right-back c.args.set.now ranks c.args.q to c.bodies-bodies.ensures.facts (ap (λ (p : ℕ × ℕ). p.1) c.range-from.ensures.value ∙ say.1)))
