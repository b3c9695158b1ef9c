use Rattle.std.proofs.Common.{◌≡◌, ℕ, List, ◌++◌, length}
use Rattle.sdf_header.specs.Layouts.{LayoutValue}
use Rattle.body_set.specs.Sets.{SetValue}
use Rattle.body_file.specs.Reading.{IsAt}
use Rattle.body_file.proofs.rows.take_rows.Given as goal

-- what was taken and the rest are the piece, and the set is that of the bytes taken
abbrev pub invariant-rows : goal.invariant-rows
invariant-rows l = (front : List ℕ) × (l.fn.piece ≡ front ++ l.rest) × ((before : SetValue) (layout : LayoutValue) (bytes : List ℕ) → IsAt before layout l.fn.rows l.fn.set bytes → IsAt before layout l.rows l.set (bytes ++ front))

-- the length of the rest
abbrev pub decreases-rows : goal.decreases-rows
decreases-rows l = length l.rest
