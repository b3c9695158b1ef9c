use Rattle.std.proofs.Common.{ℕ, suc, ◌≡◌, ◌-◌, ◌≤◌, length, take, sym, ap, ◌∙◌, ◌<◌, arith, rules, vec_len}
use Rattle.std.proofs.lemmas.List.{take_all}
use Rattle.hot_units.specs.Keys.{height, digits, child}
use Rattle.hot_units.specs.Bodies.{mass_of, mass_of_body}
use Rattle.hot_model.specs.Trees.{inside, added}
use Rattle.hot_model.proofs.Parts.{children_share}
use Rattle.hot_model.proofs.Walks.{nothing-case, whole-case, last-case, leaf-case, parted-case, child-fits, children-value, children-sum, children-room}
use Rattle.hot_model.proofs.Heights.{height_le, height_level}
use Rattle.plain_engine.proofs.Below.{has_child, child-terms, child-bodies}
use Rattle.plain_engine.proofs.walk.+walk.Goals as goal

-- a cell without bodies: nothing was added
pub returns-then-is_empty-clause-value : goal.returns-then-is_empty-clause-value
returns-then-is_empty-clause-value g t c =
    nothing-case (g.V.Visit.adds c.args.visit.now c.args.b.now) (g.V.Visit.opens_by c.args.visit.now c.args.b.now) c.args.leaf c.args.around.now (height c.args.cell) c.args.cell c.in_ok-kept.kept.items c.in_ok-kept.rec c.args.acc.now
    (record { bodies_are = c.in_ok-kept.ensures.bodies; record_is = c.in_ok-kept.ensures.sums })
    (let e : length c.in_ok-kept.kept.items ≡ vec_len c.in_ok-kept.kept = search rules in rw e (sym c.is_empty.ensures ∙ c.if-is_empty.true))

-- a cell with bodies that is not opened: its record was added
pub returns-then-not-opens-clause-value : goal.returns-then-not-opens-clause-value
returns-then-not-opens-clause-value g t c =
    whole-case (g.V.Visit.adds c.args.visit.now c.args.b.now) (g.V.Visit.opens_by c.args.visit.now c.args.b.now) c.args.leaf c.args.around.now (height c.args.cell) c.args.cell c.in_ok-kept.kept.items c.in_ok-kept.rec c.args.acc.now c.far.new.acc
    (record { bodies_are = c.in_ok-kept.ensures.bodies; record_is = c.in_ok-kept.ensures.sums })
    (let e : length c.in_ok-kept.kept.items ≡ vec_len c.in_ok-kept.kept = search rules in rw e (sym c.is_empty.ensures ∙ c.if-is_empty.false))
    (sym c.opens.ensures.value ∙ c.if-not-opens.true)
    c.in_ok-far.ensures.added_or_unchanged

-- an opened cell of the deepest level: its bodies were added
pub returns-then-level-eq-MAX_LEVEL-clause-value : goal.returns-then-level-eq-MAX_LEVEL-clause-value
returns-then-level-eq-MAX_LEVEL-clause-value g t c =
    last-case (g.V.Visit.adds c.args.visit.now c.args.b.now) (g.V.Visit.opens_by c.args.visit.now c.args.b.now) c.args.leaf c.args.around.now (height c.args.cell) c.args.cell c.in_ok-kept.kept.items c.in_ok-kept.rec c.args.acc.now c.add_listed.new.acc
    (record { bodies_are = c.in_ok-kept.ensures.bodies; record_is = c.in_ok-kept.ensures.sums })
    (let e : length c.in_ok-kept.kept.items ≡ vec_len c.in_ok-kept.kept = search rules in rw e (sym c.is_empty.ensures ∙ c.if-is_empty.false))
    (sym c.opens.ensures.value ∙ c.if-not-opens.false)
    (let e : height c.args.cell ≡ 0 = omega (arith, c.level.ensures.value, c.if-level-eq-MAX_LEVEL.true) in e)
    (rw c.deref.ensures.value at c.in_ok-add_listed.ensures.value)

-- an opened cell with bodies within the leaf limit: they were added
pub returns-then-len-leaf-clause-value : goal.returns-then-len-leaf-clause-value
returns-then-len-leaf-clause-value g t c =
    leaf-case (g.V.Visit.adds c.args.visit.now c.args.b.now) (g.V.Visit.opens_by c.args.visit.now c.args.b.now) c.args.leaf c.args.around.now (height c.args.cell) c.args.cell c.in_ok-kept.kept.items c.in_ok-kept.rec c.args.acc.now c.add_listed-then-len-leaf.new.acc
    (record { bodies_are = c.in_ok-kept.ensures.bodies; record_is = c.in_ok-kept.ensures.sums })
    (let e : length c.in_ok-kept.kept.items ≡ vec_len c.in_ok-kept.kept = search rules in rw e (sym c.is_empty.ensures ∙ c.if-is_empty.false))
    (sym c.opens.ensures.value ∙ c.if-not-opens.false)
    (omega arith)
    (rw c.deref-then-len-leaf.ensures.value at c.in_ok-add_listed-2.ensures.value)

-- eight times the key of a cell above the deepest level fits 64 bits
pub overflow_mul-cell : goal.overflow_mul-cell
overflow_mul-cell g t c = let h = child-fits c.args.cell c.loop-d.d (height c.args.cell) (height_le c.args.cell) (omega arith) (height_level c.args.cell c.requires.cell) (omega arith) in search rules

-- the key of a child of a cell above the deepest level fits 64 bits
pub overflow_add-cell : goal.overflow_add-cell
overflow_add-cell g t c = let h = child-fits c.args.cell c.loop-d.d (height c.args.cell) (height_le c.args.cell) (omega arith) (height_level c.args.cell c.requires.cell) (omega arith) in search rules

-- a child of a cell above the deepest level is a cell
pub walk-requires-clause-cell : goal.walk-requires-clause-cell
walk-requires-clause-cell g t c κs within = (has_child c.args.cell c.loop-d.d c.requires.cell (omega (arith, c.level.ensures.value)) (omega arith)).cell

-- the mass seen so far and that of the next child are together within the limit
pub walk-requires-clause-room : goal.walk-requires-clause-room
walk-requires-clause-room g t c κs within =
    let high : 0 < height c.args.cell = omega (arith, c.level.ensures.value) in
    let kept : c.deref-in-loop-d.result.now ≡ inside c.args.around.now c.args.cell = c.deref-in-loop-d.ensures.value ∙ c.in_ok-kept.ensures.bodies in
    let mine = rw (sym kept) at (child-bodies c.args.around.now c.args.cell c.loop-d.d c.requires.cell high (omega arith)) in
    omega (arith, c.loop-d.invariant.seen, c.requires.room, ap mass_of mine, children-room c.args.around.now c.args.cell (height c.args.cell) c.loop-d.d (height_le c.args.cell) high (height_level c.args.cell c.requires.cell) (omega arith))

-- with the terms of one more child added, what holds in the loop holds again
pub loop-d-preserved : goal.loop-d-preserved
loop-d-preserved g t c =
    let high : 0 < height c.args.cell = omega (arith, c.level.ensures.value) in
    let kept : c.deref-in-loop-d.result.now ≡ inside c.args.around.now c.args.cell = c.deref-in-loop-d.ensures.value ∙ c.in_ok-kept.ensures.bodies in
    let opens = g.V.Visit.opens_by c.args.visit.now c.args.b.now in
    let terms = rw (sym kept) at (child-terms opens c.args.leaf c.args.around.now c.args.cell c.loop-d.d c.requires.cell high (omega arith)) in
    let mine = rw (sym kept) at (child-bodies c.args.around.now c.args.cell c.loop-d.d c.requires.cell high (omega arith)) in
    record {
      value = children-value (g.V.Visit.adds c.args.visit.now c.args.b.now) opens c.args.leaf c.args.around.now (height c.args.cell - 1) c.args.cell c.args.acc.now c.loop-d.acc c.walk.new.acc c.loop-d.d (omega arith) c.loop-d.invariant.value (c.in_ok-walk.ensures.value ∙ ap (added (g.V.Visit.adds c.args.visit.now c.args.b.now) c.loop-d.acc) terms);
      seen = let part : ℕ → ℕ = λ d. mass_of (inside c.args.around.now (child c.args.cell d)) in
          omega (arith, c.loop-d.invariant.seen, c.in_ok-walk.ensures.seen, ap mass_of mine, children-sum part c.loop-d.d (omega arith));
    }

-- any other cell: the terms of its children were added
pub returns-clause-value : goal.returns-clause-value
returns-clause-value g t c =
    parted-case (g.V.Visit.adds c.args.visit.now c.args.b.now) (g.V.Visit.opens_by c.args.visit.now c.args.b.now) c.args.leaf c.args.around.now (height c.args.cell) c.args.cell c.in_ok-kept.kept.items c.in_ok-kept.rec c.args.acc.now c.loop-d.acc
    (record { bodies_are = c.in_ok-kept.ensures.bodies; record_is = c.in_ok-kept.ensures.sums })
    (let e : length c.in_ok-kept.kept.items ≡ vec_len c.in_ok-kept.kept = search rules in rw e (sym c.is_empty.ensures ∙ c.if-is_empty.false))
    (sym c.opens.ensures.value ∙ c.if-not-opens.false)
    (omega arith)
    (omega arith)
    (let e : take c.loop-d.d digits ≡ digits = take_all c.loop-d.d digits (omega arith) in rw e at c.loop-d.invariant.value)

-- any other cell: the mass of its bodies was seen
pub returns-clause-seen : goal.returns-clause-seen
returns-clause-seen g t c =
    let e : take c.loop-d.d digits ≡ digits = take_all c.loop-d.d digits (omega arith) in
    let s = rw e at c.loop-d.invariant.seen in
    let n : suc (21 - (height c.args.cell)) ≤ 21 = omega arith in
    omega (arith, s, children_share mass_of_body c.args.around.now c.args.cell (21 - (height c.args.cell)) n (height_level c.args.cell c.requires.cell))
