-- A split as text: a first line, a line for each rank, for each branch and for each top cell, and a last line.
use Rattle.std.specs.Prelude.{ℕ, List, ◌++◌, flat_map, codes, decimal}
use Rattle.hot_io.specs.Writing.{line_end}
use Rattle.hot_units.specs.Values.{CellValue}
use Rattle.branch_merge.specs.declared.listed.Listed.{Listed}
use Rattle.split_table.specs.declared.share.Share.{Share}
use Rattle.split_table.specs.Table.{TableValue}

-- the first line says what follows
abbrev pub first_line : List ℕ
first_line = codes "# hot split 1\n"

-- the line of a rank
abbrev pub share_line : Share → List ℕ
share_line s =
    codes "rank " ++ decimal s.rank ++ codes " bodies " ++ decimal s.bodies ++ codes " weight " ++ decimal s.weight
    ++ codes " branches " ++ decimal s.branches ++ line_end

-- the numbers of a record: how many bodies, their mass, and the sums of mass times coordinate
abbrev pub numbers_of : CellValue → List ℕ
numbers_of c =
    codes " count " ++ decimal c.count ++ codes " mass " ++ decimal c.mass
    ++ codes " sum " ++ decimal c.sx ++ codes " " ++ decimal c.sy ++ codes " " ++ decimal c.sz ++ line_end

-- the line of a branch: its key, its rank and its numbers
abbrev pub branch_line : Listed → List ℕ
branch_line b = codes "branch " ++ decimal b.rec.key ++ codes " rank " ++ decimal b.rank ++ numbers_of b.rec

-- the line of a top cell: its key and its numbers
abbrev pub top_line : CellValue → List ℕ
top_line c = codes "top " ++ decimal c.key ++ numbers_of c

-- the last line
abbrev pub last_line : List ℕ
last_line = codes "# end split\n"

-- the text of a split
abbrev pub table_text : TableValue → List ℕ
table_text t = first_line ++ flat_map share_line t.shares ++ flat_map branch_line t.branches ++ flat_map top_line t.tops ++ last_line
