-- Neighbours as text: a first line, a line for each body, and a last line.
use Rattle.std.specs.Prelude.{ℕ, ℤ, List, ◌++◌, length, flat_map, codes}
use Rattle.std.specs.List.{zip}
use Rattle.std.specs.Fmt.{decimal, signed_decimal}
use Rattle.hot_io.specs.Writing.{line_end}

-- the first line says what follows
abbrev pub first_line : List ℕ
first_line = codes "# hot near 1\n"

-- a row that is near a body: a space, and the row's number
abbrev pub row_word : ℕ → List ℕ
row_word row = codes " " ++ decimal row

-- the front of a body's line: its ident, and how many rows are near it
abbrev pub line_front : ℤ → ℕ → List ℕ
line_front ident count = signed_decimal ident ++ codes " " ++ decimal count

-- the line of a body: its front, and the rows that are near it
abbrev pub body_line : ℤ × List ℕ → List ℕ
body_line p = line_front p.0 (length p.1) ++ flat_map row_word p.1 ++ line_end

-- the lines of the bodies, in their order
abbrev pub body_lines : List ℤ → List (List ℕ) → List ℕ
body_lines idents lists = flat_map body_line (zip idents lists)

-- the last line says how many bodies there are
abbrev pub last_line : ℕ → List ℕ
last_line count = codes "# end " ++ decimal count ++ line_end

-- the text of the rows near bodies with these idents, a list of them for each body
abbrev pub near_text : List ℤ → List (List ℕ) → List ℕ
near_text idents lists = first_line ++ body_lines idents lists ++ last_line (length lists)
