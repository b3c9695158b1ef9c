use Rattle.std.proofs.Common.{◌≡◌, ◌<◌, ℕ, length, get_or, sym, ◌∙◌, arith, refl}
use Rattle.std.proofs.lemmas.List.{get_or_default}
use Rattle.rank_set.proofs.Settling.{Settling, astray, begins, settles, swapped, fewer}
use Rattle.rank_set.proofs.place.place_by_row.Goals as goal

-- before the first swap each result stands beside its row
pub loop-place-init : goal.loop-place-init
loop-place-init g c = begins c.args.bodies.now c.args.results.items c.args.results.items c.in_ok-rows.rows.items c.requires.paired c.requires.rows_differ c.requires.rows_in c.in_ok-rows.ensures.rows refl

module _ (g : _) (c : goal.After-swap-else-row-place g) where
  inside : c.loop-place.place < length c.loop-place.rows.items
  inside = let l = c.len.ensures in let t = c.loop-place-test.true in let k = c.loop-place.rows.ok.0 in omega (arith, l, t, k)

  below : c.loop-place.place < length c.args.bodies.now
  below = let l = c.loop-place.invariant.rows_long in let i = inside in omega (arith, l, i)

  row : get_or c.loop-place.rows.items c.loop-place.place 0 ≡ c.index.result.now
  row = get_or_default c.loop-place.rows.items c.loop-place.place 0 c.index.result.now inside ∙ sym c.index.ensures

  rows_long : length c.swap.new.self.items ≡ length c.loop-place.rows.items
  rows_long = let l = c.swap.ensures.len in let k = c.swap.new.self.ok.0 in let m = c.loop-place.rows.ok.0 in omega (arith, l, k, m)

  placed_long : length c.swap-else-row-place.new.self.items ≡ length c.loop-place.placed.items
  placed_long = let l = c.swap-else-row-place.ensures.len in let k = c.swap-else-row-place.new.self.ok.0 in let m = c.loop-place.placed.ok.0 in omega (arith, l, k, m)

  less : astray 0 c.swap.new.self.items < astray 0 c.loop-place.rows.items
  less = fewer _ _ _ _ _ _ c.loop-place.invariant below row c.if-row-place.false _ _ c.swap.ensures.by_index c.swap-else-row-place.ensures.by_index rows_long placed_long

  next : Settling c.args.bodies.now c.args.results.items c.swap.new.self.items c.swap-else-row-place.new.self.items c.loop-place.place
  next = swapped _ _ _ _ _ _ c.loop-place.invariant below row c.if-row-place.false _ _ c.swap.ensures.by_index c.swap-else-row-place.ensures.by_index rows_long placed_long

-- a swap leaves fewer rows that are not at their places
pub loop-place-smaller : goal.loop-place-smaller
loop-place-smaller g c = let l = less g c in let r = rows_long g c in omega (arith, l, r)

-- a swap leaves each result beside its row, and what stood at its place there
pub loop-place-preserved : goal.loop-place-preserved
loop-place-preserved g c = next g c

-- past the last place each result stands at the row of its body
pub returns : goal.returns
returns g c = record { placed = settles c.args.bodies.now c.args.results.items c.loop-place.rows.items c.loop-place.placed.items c.loop-place.place c.loop-place.invariant (let l = c.len.ensures in let t = c.loop-place-test.false in let k = c.loop-place.rows.ok.0 in omega (arith, l, t, k)) }
