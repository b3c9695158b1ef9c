-- How deep a body lies in the field of the others: by one source, and by the recursive walk of the tree.
use Rattle.std.specs.Prelude.{ℕ, zero, suc, ◌+◌, ◌*◌, ◌/◌, ◌^◌, Bool, true, eqb, leb, not, if◌then◌else◌, List, length, filter, sum_by}
use Rattle.hot_units.specs.Limits.{max_level}
use Rattle.hot_units.specs.Values.{BodyValue, CellValue, Point, place}
use Rattle.hot_units.specs.Keys.{digits, child}
use Rattle.hot_model.specs.Kernel.{centre, soft2}
use Rattle.hot_model.specs.Trees.{inside, cell_record, is_empty, at_cell, Term, Far, Near, mass_of_term, Settings, opens_of}
use Rattle.fixed_kernel.specs.Softened.{scaled_root}

-- how deep the place p lies in the field of the mass m at the place c: floor(m * 2^50 / s), with s as for a pull
unfoldable pub depth : ℕ → Point → Point → ℕ → ℕ
depth eps p c m = m * 2 ^ 50 / scaled_root (soft2 eps p c)

-- how deep a body lies by a cell as one source, at its centre with its mass
abbrev pub depth_far : ℕ → BodyValue → CellValue → ℕ
depth_far eps b c = depth eps (place b) (centre c) c.mass

-- how deep a body lies by one other body
abbrev pub depth_near : ℕ → BodyValue → BodyValue → ℕ
depth_near eps b o = depth eps (place b) (place o) o.mass

-- whether a body is another one: it has another row, wherever it is
abbrev pub is_other : BodyValue → BodyValue → Bool
is_other b o = not (eqb o.row b.row)

-- how deep a body lies by the other bodies of a list
abbrev pub depth_listed : ℕ → BodyValue → List BodyValue → ℕ
depth_listed eps b xs = sum_by (depth_near eps b) (filter (is_other b) xs)

-- how deep b lies by the bodies of a cell with `deep` levels below it
unfoldable pub potential_in : Settings → List BodyValue → BodyValue → ℕ → ℕ → ℕ
potential_in s bodies b zero c =
    at_cell (is_empty (inside bodies c)) (opens_of s b (cell_record bodies c)) true
    0 (depth_far s.eps b (cell_record bodies c)) (depth_listed s.eps b (inside bodies c)) 0
potential_in s bodies b (suc deep) c =
    at_cell (is_empty (inside bodies c)) (opens_of s b (cell_record bodies c)) (leb (length (inside bodies c)) s.leaf)
    0 (depth_far s.eps b (cell_record bodies c)) (depth_listed s.eps b (inside bodies c))
    (sum_by (λ d. potential_in s bodies b deep (child c d)) digits)

-- how deep b lies in the field of all other bodies: that from the root
abbrev pub potential : Settings → List BodyValue → BodyValue → ℕ
potential s bodies b = potential_in s bodies b max_level 1

-- an accumulator: the mass seen, and how deep the body lies by it
pub record WellValue : Type 0 where
  pub seen : ℕ
  pub well : ℕ

-- an accumulator by its numbers
abbrev pub well_value : ℕ → ℕ → WellValue
well_value seen well = record { seen = seen; well = well }

-- nothing was seen yet
abbrev pub well_nothing : WellValue
well_nothing = well_value 0 0

-- how deep a body lies by a term; by itself it lies no deeper
unfoldable pub term_depth : ℕ → BodyValue → Term → ℕ
term_depth eps b (Far c) = depth_far eps b c
term_depth eps b (Near o) = if is_other b o then depth_near eps b o else 0

-- an accumulator after one more term
abbrev pub well_adds : ℕ → BodyValue → WellValue → Term → WellValue
well_adds eps b a t = well_value (a.seen + mass_of_term t) (a.well + term_depth eps b t)
