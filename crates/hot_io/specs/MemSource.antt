-- What a source in memory holds, and what a read of it gives.
use Rattle.std.specs.Prelude.{◌≡◌, ℕ, ◌+◌, ◌-◌, ◌*◌, ◌^◌, ◌≤◌, ◌<◌, min, List, [], length, drop, if◌then◌else◌, Bool, Option, Some, None, unwrap_or, slice_get, find}
use Rattle.std.specs.Option.{ForSome, option_map}
use Rattle.std.specs.Str.{bytes_eq}
use Rattle.hot_io.specs.declared.mem_source.Place.{Place}

-- a file in memory
pub record NamedBytes : Type 0 where
  pub name : List ℕ
  pub bytes : List ℕ

-- a source in memory, as its callers see it
pub record MemFiles : Type 0 where
  pub files : List NamedBytes
  pub chunk : ℕ  -- the most bytes that a read gives
  pub stop : Option ℕ  -- how many bytes are given before a read fails
  pub given : ℕ  -- the bytes given so far, over all files
  pub left : Option (List ℕ)  -- the bytes left of the open file
  pub opens : ℕ
  pub faults : ℕ

-- the file has this name
abbrev pub is_named : List ℕ → NamedBytes → Bool
is_named name file = bytes_eq file.name name

-- the bytes of the file of this name
abbrev pub file_of : List NamedBytes → List ℕ → Option (List ℕ)
file_of files name = option_map (λ (f : NamedBytes). f.bytes) (find (is_named name) files)

-- the file of this name has these bytes, and all other names stay as they were
abbrev pub PutsFile : List NamedBytes → List NamedBytes → List ℕ → List ℕ → Type 0
PutsFile old new name bytes = (query : List ℕ) → file_of new query ≡ (if bytes_eq name query then Some bytes else file_of old query)

-- the bytes left of the open file, and none where no file is open
abbrev pub bytes_left : MemFiles → List ℕ
bytes_left s = unwrap_or s.left []

-- the smaller of a number and what is left to a limit, where there is one
abbrev pub up_to : Option ℕ → ℕ → ℕ → ℕ
up_to None so_far n = n
up_to (Some limit) so_far n = min (limit - so_far) n

-- how many bytes a read gives: the smallest of the room, the chunk, the bytes left and those to the stop
abbrev pub read_size : MemFiles → ℕ → ℕ
read_size s room = min (up_to s.stop s.given (min s.chunk room)) (length (bytes_left s))

-- the bytes of the file of this number
abbrev pub bytes_at : List NamedBytes → ℕ → List ℕ
bytes_at files i = unwrap_or (option_map (λ (f : NamedBytes). f.bytes) (slice_get files i)) []

-- the bytes left at a place
abbrev pub left_at : List NamedBytes → Option Place → Option (List ℕ)
left_at files place = option_map (λ (p : Place). drop p.at (bytes_at files p.file)) place

-- what a source in memory keeps: its place is in a file, the stop is ahead, and the count of bytes fits
pub record IsSteady (files : List NamedBytes) (chunk : ℕ) (stop : Option ℕ) (given : ℕ) (place : Option Place) (opens : ℕ) : Type 0 where
  pub gives : 1 ≤ chunk
  pub ahead : ForSome stop (λ limit. given ≤ limit)
  pub in_file : ForSome place (λ p. p.file < length files)
  pub in_bytes : ForSome place (λ p. p.at ≤ p.end)
  pub to_end : ForSome place (λ p. p.end ≡ length (bytes_at files p.file))
  pub countable : given + length (unwrap_or (left_at files place) []) ≤ opens * 2 ^ 64
