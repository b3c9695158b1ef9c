-- Forces as text: a first line, a line for each body, and a last line.
use Rattle.std.specs.Prelude.{ℕ, ℤ, List, [], ◌∷◌, ◌++◌, length, map, flat_map, codes}
use Rattle.std.specs.List.{zip, join_with_byte}
use Rattle.std.specs.Fmt.{decimal, signed_decimal}
use Rattle.hot_io.specs.Writing.{line_end}
use Rattle.hot_units.specs.Values.{Acc3Value}

-- the first line says what follows
abbrev pub first_line : List ℕ
first_line = codes "# hot forces 1\n"

-- a line of numbers, with a space between each two
abbrev pub number_line : List ℤ → List ℕ
number_line numbers = join_with_byte 32 (map signed_decimal numbers) ++ line_end

-- the line of a body: its ident, and the three components of the force on it
abbrev pub body_line : ℤ × Acc3Value → List ℕ
body_line p = number_line (p.0 ∷ p.1.ax ∷ p.1.ay ∷ p.1.az ∷ [])

-- the lines of the bodies, in their order
abbrev pub body_lines : List ℤ → List Acc3Value → List ℕ
body_lines idents forces = flat_map body_line (zip idents forces)

-- the last line says how many bodies there are
abbrev pub last_line : ℕ → List ℕ
last_line count = codes "# end " ++ decimal count ++ line_end

-- the text of the forces on bodies with these idents
abbrev pub forces_text : List ℤ → List Acc3Value → List ℕ
forces_text idents forces = first_line ++ body_lines idents forces ++ last_line (length forces)
