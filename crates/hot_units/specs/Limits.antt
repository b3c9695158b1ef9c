-- The limits of bodies, cells, commands and files, each by its name. Proofs cite the name and not the number.
use Rattle.std.specs.Prelude.{ℕ, ◌-◌, ◌^◌}

-- how many bits a fine coordinate has
abbrev pub fine_bits : ℕ
fine_bits = 29

-- how many levels of cells lie below the root
abbrev pub max_level : ℕ
max_level = 21

-- at most so many bodies
abbrev pub max_bodies : ℕ
max_bodies = 1048576

-- at most so many generated bodies
abbrev pub max_generated : ℕ
max_generated = 262144

-- the largest mass of one body
abbrev pub max_body_mass : ℕ
max_body_mass = 2 ^ 32 - 1

-- the largest work weight of one body
abbrev pub max_work : ℕ
max_work = 2 ^ 32 - 1

-- the largest mass of all bodies together
abbrev pub max_all_mass : ℕ
max_all_mass = 2 ^ 40

-- the most ranks of a run
abbrev pub max_ranks : ℕ
max_ranks = 64

-- the largest leaf limit
abbrev pub max_leaf : ℕ
max_leaf = 64

-- the largest number on either side of an opening ratio
abbrev pub max_ratio : ℕ
max_ratio = 1024

-- the largest softening, in fine units
abbrev pub max_softening : ℕ
max_softening = 2 ^ 28

-- the longest header of a body file, in bytes
abbrev pub max_header_bytes : ℕ
max_header_bytes = 65536

-- the most columns of a body file
abbrev pub max_columns : ℕ
max_columns = 64

-- the longest row of a body file, in bytes
abbrev pub max_row_bytes : ℕ
max_row_bytes = 1024

-- the most body files of a run
abbrev pub max_files : ℕ
max_files = 16
