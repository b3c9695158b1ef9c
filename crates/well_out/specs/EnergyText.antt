-- How deep bodies lie, and their sums, as text: a first line, a line for each body, a line of the sums, and a last line.
use Rattle.std.specs.Prelude.{ℕ, ℤ, List, ◌++◌, length, flat_map, codes}
use Rattle.std.specs.List.{zip}
use Rattle.std.specs.Fmt.{decimal, signed_decimal}
use Rattle.hot_io.specs.Writing.{line_end}

-- the first line says what follows
abbrev pub first_line : List ℕ
first_line = codes "# hot energy 1\n"

-- the line of a body: its ident, and how deep it lies
abbrev pub body_line : ℤ × ℕ → List ℕ
body_line p = signed_decimal p.0 ++ codes " " ++ decimal p.1 ++ line_end

-- the lines of the bodies, in their order
abbrev pub body_lines : List ℤ → List ℕ → List ℕ
body_lines idents wells = flat_map body_line (zip idents wells)

-- the line of the sums: of mass times depth, and of mass times the square of the speed
abbrev pub sum_line : ℕ → ℕ → List ℕ
sum_line well speed = codes "sum " ++ decimal well ++ codes " " ++ decimal speed ++ line_end

-- the last line says how many bodies there are
abbrev pub last_line : ℕ → List ℕ
last_line count = codes "# end " ++ decimal count ++ line_end

-- the text of how deep bodies with these idents lie, and of the two sums over them
abbrev pub energy_text : List ℤ → List ℕ → ℕ → ℕ → List ℕ
energy_text idents wells well speed = first_line ++ body_lines idents wells ++ (sum_line well speed ++ last_line (length wells))
