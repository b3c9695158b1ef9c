-- The cells that have bodies of a list.
use Rattle.std.specs.Prelude.{ℕ, zero, suc, eqb, List, [], ◌++◌, map}
use Rattle.std.specs.List.{dedup}
use Rattle.hot_units.specs.Limits.{max_level}
use Rattle.hot_units.specs.Values.{BodyValue}
use Rattle.hot_units.specs.Keys.{key_of_body, front}

-- the cells of level l that have bodies of a list in order, by ascending key
abbrev pub cells_at : List BodyValue → ℕ → List ℕ
cells_at bodies l = dedup eqb (map (λ b. front l (key_of_body b)) bodies)

-- those of the levels below n
unfoldable pub cells_above : List BodyValue → ℕ → List ℕ
cells_above bodies zero = []
cells_above bodies (suc l) = cells_above bodies l ++ cells_at bodies l

-- all cells that have bodies of a list in order, by ascending key
abbrev pub cells : List BodyValue → List ℕ
cells bodies = cells_above bodies (suc max_level)
