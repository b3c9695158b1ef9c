-- Where a header ends.
use Rattle.std.specs.Prelude.{◌≡◌, ℕ, ◌+◌, ◌<◌, ◌≤◌, Bool, true, false, ◌&&◌, ◌||◌, List, [], ◌∷◌, ◌++◌, length, drop, Option, Some, None, Result, Ok, Err, nat_eq, nat_le, ◌==◌, if◌then◌else◌, codes}
use Rattle.std.specs.List.{starts_with}
use Rattle.hot_units.specs.Limits.{max_header_bytes}
use Rattle.sdf_header.specs.declared.header_fault.HeaderFault.{HeaderFault}
use Rattle.sdf_header.specs.declared.header_fault.HeaderFault.TheVariants.{NoMagic, TooLong}
use Rattle.sdf_tokens.specs.Numbers.{begins_with}

-- the bytes agree with the word as far as both go
abbrev pub agrees : List ℕ → List ℕ → Bool
agrees [] bytes = true
agrees (m ∷ word) [] = true
agrees (m ∷ word) (b ∷ bytes) = b == m && agrees word bytes

-- the first bytes of every body file
abbrev pub magic : List ℕ
magic = codes "# SDF"

-- the word stands somewhere in the bytes
abbrev pub contains : List ℕ → List ℕ → Bool
contains word [] = false
contains word (b ∷ bytes) = starts_with nat_eq (b ∷ bytes) word || contains word bytes

-- the line begins with # and contains SDF-EOH
abbrev pub is_ending : List ℕ → Bool
is_ending line = begins_with 35 line && contains (codes "SDF-EOH") line

-- the byte ends this line, which is an ending line
abbrev pub closes : ℕ → List ℕ → Bool
closes b line = b == 10 && is_ending line

-- where the line begins that is not whole behind a byte
abbrev pub line_behind : ℕ → ℕ → ℕ → ℕ
line_behind line b len = if b == 10 then len else line

-- the lines that end with a newline, without it; the first one begins with this part
abbrev pub whole_lines : List ℕ → List ℕ → List (List ℕ)
whole_lines part [] = []
whole_lines part (b ∷ bytes) = if b == 10 then part ∷ whole_lines [] bytes else whole_lines (part ++ b ∷ []) bytes

-- where the first ending line begins, and the place behind its newline
abbrev pub first_ending : ℕ → List (List ℕ) → Option (ℕ × ℕ)
first_ending place [] = None
first_ending place (line ∷ lines) =
    if is_ending line then Some (place, place + length line + 1) else first_ending (place + length line + 1) lines

-- where the first ending line of the input begins, and the place behind its newline
abbrev pub ending : List ℕ → Option (ℕ × ℕ)
ending bytes = first_ending 0 (whole_lines [] bytes)

-- what the bytes so far show: a fault, or the end place and the length of the header, or neither
pub data Extent : Type 0 where
  Faulty : HeaderFault → Extent
  Ends : ℕ → ℕ → Extent
  Open : Extent

-- the header must end within its longest length
abbrev pub extent_from : ℕ → Option (ℕ × ℕ) → Extent
extent_from len None = if nat_le max_header_bytes len then Faulty TooLong else Open
extent_from len (Some e) = if nat_le e.1 max_header_bytes then Ends e.0 e.1 else Faulty TooLong

-- the first bytes decide first, and then the first ending line
unfoldable pub extent : List ℕ → Extent
extent bytes = if agrees magic bytes then extent_from (length bytes) (ending bytes) else Faulty NoMagic

-- ---- what is known of the bytes so far, however they go on

-- however the bytes go on, they show this
abbrev pub Shows : List ℕ → Extent → Type 0
Shows bytes e = (more : List ℕ) → extent (bytes ++ more) ≡ e

-- Nothing is decided yet, and the line that is not whole begins at this place.
pub record Scans (bytes : List ℕ) (line : ℕ) : Type 0 where
  pub begins : agrees magic bytes ≡ true
  pub ends : (more : List ℕ) → ending (bytes ++ more) ≡ first_ending line (whole_lines (drop line bytes) more)
  pub within : line ≤ length bytes
  pub short : length bytes < max_header_bytes

-- what the reader has found of the bytes so far
abbrev pub Stands : Result (Option ℕ) HeaderFault → List ℕ → ℕ → Type 0
Stands (Ok None) bytes line = Scans bytes line
Stands (Ok (Some text)) bytes line = Shows bytes (Ends text (length bytes))
Stands (Err f) bytes line = Shows bytes (Faulty f)
