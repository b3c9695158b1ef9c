-- The version of letters, and the sizes of their parts.
use Rattle.std.specs.Prelude.{ℕ, ◌*◌, ◌^◌}

-- the version of letters
abbrev pub version : ℕ
version = 2

-- how many bytes the version, a kind and a tag have
abbrev pub mark_size : ℕ
mark_size = 1

-- how many bytes a count has
abbrev pub count_size : ℕ
count_size = 4

-- a count is below this number
abbrev pub count_end : ℕ
count_end = 2 ^ (8 * count_size)

-- how many bytes a key has
abbrev pub key_size : ℕ
key_size = 8

-- how many bytes the mass of a record has
abbrev pub mass_size : ℕ
mass_size = 8

-- how many bytes each sum of a record has
abbrev pub sum_size : ℕ
sum_size = 16

-- how many sums a record has
abbrev pub sums_count : ℕ
sums_count = 9

-- how many bytes each number of a body has
abbrev pub field_size : ℕ
field_size = 4

-- the kind of a branches letter
abbrev pub branches_kind : ℕ
branches_kind = 1

-- the kind of an asks letter
abbrev pub asks_kind : ℕ
asks_kind = 2

-- the kind of an answers letter
abbrev pub answers_kind : ℕ
answers_kind = 3

-- the tag of an answer with children
abbrev pub children_tag : ℕ
children_tag = 1

-- the tag of an answer with bodies
abbrev pub bodies_tag : ℕ
bodies_tag = 2

-- the most children of a cell
abbrev pub max_children : ℕ
max_children = 8
