-- One step down from a cell to a child, out of the list of the cell's own bodies.
use Rattle.std.proofs.Common.{ℕ, suc, ◌≡◌, ◌+◌, ◌-◌, ◌*◌, ◌<◌, ◌≤◌, List, ap, ◌∙◌, arith}
use Rattle.hot_units.specs.Values.{BodyValue, CellValue}
use Rattle.hot_units.specs.Keys.{HasLevel, IsCell, height, child}
use Rattle.hot_model.specs.Trees.{inside, terms_in, terms_of}
use Rattle.hot_model.proofs.Fronts.{child_cell, height_child, child_covers}
use Rattle.hot_model.proofs.Heights.{height_le, height_level}
use Rattle.hot_model.proofs.Within.{inside-within, terms-within}

-- a cell that is not of the last level, and one of its children
pub record HasChild (c d : ℕ) : Type 0 where
  pub upper : suc (21 - height c) ≤ 21
  pub cell : IsCell (child c d)
  pub lower : height c ≡ suc (height (child c d))
  pub covered : HasLevel c (21 - height c)

-- each cell above the last level, with each of its children, is such
pub has_child : (c d : ℕ) → IsCell c → 0 < height c → d < 8 → HasChild c d
has_child c d i h m =
    let s : suc (21 - height c) ≤ 21 = omega (arith, height_le c) in
    let l : HasLevel c (21 - height c) = height_level c i in
    record { upper = s; cell = child_cell c d (21 - height c) s l m; lower = height_child c d (21 - height c) s l m; covered = l }

-- of the cell's own bodies a child has the terms that it has of the whole list
pub child-terms : (opens : CellValue → _) (leaf : ℕ) (bodies : List BodyValue) (c d : ℕ) → IsCell c → 0 < height c → d < 8 → terms_of opens leaf (inside bodies c) (child c d) ≡ terms_in opens leaf bodies (height c - 1) (child c d)
child-terms opens leaf bodies c d i h m =
    let k = has_child c d i h m in
    let e : height (child c d) ≡ height c - 1 = omega (arith, k.lower) in
    terms-within opens leaf bodies c (height (child c d)) (child c d) i (height_le (child c d)) (height_level (child c d) k.cell) (child_covers c d (21 - height c) k.upper k.covered m)
    ∙ ap (λ (n : ℕ). terms_in opens leaf bodies n (child c d)) e

-- of the cell's own bodies a child has those that it has of the whole list
pub child-bodies : (bodies : List BodyValue) (c d : ℕ) → IsCell c → 0 < height c → d < 8 → inside (inside bodies c) (child c d) ≡ inside bodies (child c d)
child-bodies bodies c d i h m =
    let k = has_child c d i h m in
    inside-within bodies c (child c d) i k.cell (child_covers c d (21 - height c) k.upper k.covered m)

-- a child of a cell above the last level has fewer levels below it
pub child-lower : (c d : ℕ) → IsCell c → 0 < height c → d < 8 → height (8 * c + d) < height c
child-lower c d i h m = omega (arith, (has_child c d i h m).lower)
