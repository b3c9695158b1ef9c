-- What a piece knows of its own cells by its two neighbouring keys.
use Rattle.std.specs.Prelude.{ℕ, Bool, true, eqb, not, ◌&&◌, ◌||◌, List, filter, map, Option, Some, None}
use Rattle.hot_units.specs.Values.{BodyValue, CellValue}
use Rattle.hot_units.specs.Keys.{covers, parent}
use Rattle.hot_model.specs.Trees.{inside, cell_record, is_empty}
use Rattle.hot_model.specs.Cells.{cells}

-- the cell does not contain the neighbouring key, if there is one
abbrev pub keeps_out : ℕ → Option ℕ → Bool
keeps_out c None = true
keeps_out c (Some k) = not (covers c k)

-- the cell has a body of the piece and contains neither neighbouring key
abbrev pub is_home : List BodyValue → Option ℕ → Option ℕ → ℕ → Bool
is_home bodies left right c = not (is_empty (inside bodies c)) && (keeps_out c left && keeps_out c right)

-- the outermost of these
abbrev pub is_home_branch : List BodyValue → Option ℕ → Option ℕ → ℕ → Bool
is_home_branch bodies left right c = is_home bodies left right c && (eqb c 1 || not (is_home bodies left right (parent c)))

-- their records, by ascending key
abbrev pub home_branches : List BodyValue → Option ℕ → Option ℕ → List CellValue
home_branches bodies left right = map (cell_record bodies) (filter (is_home_branch bodies left right) (cells bodies))
