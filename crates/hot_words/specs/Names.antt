-- The names of a command's files, over the list of words.
use Rattle.std.specs.Prelude.{◌≡◌, ℕ, ◌+◌, ◌≤◌, Bool, false, ◌&&◌, ◌||◌, nat_le, List, length, take, drop, All, codes}
use Rattle.std.specs.List.{count_by}
use Rattle.std.specs.Str.{bytes_eq}
use Rattle.hot_units.specs.Limits.{max_files}
use Rattle.hot_words.specs.Places.{begins_option}

-- the names of so many files: the words from this place on
abbrev pub names_at : ℕ → ℕ → List (List ℕ) → List (List ℕ)
names_at first files words = take files (drop first words)

-- whether a word names standard input
abbrev pub is_input : List ℕ → Bool
is_input word = bytes_eq word (codes "-")

-- whether a word is a word too many behind so many files, among which standard input is or is not: it looks like an
-- option, there are as many files as there may be, or it names standard input again
abbrev pub is_extra : ℕ → Bool → List ℕ → Bool
is_extra files has_input word = begins_option word || nat_le max_files files || (is_input word && has_input)

-- so many words from a place on name files: they are there, no more than there may be, none looks like an option, and
-- standard input is named at most once
pub record AreNames (words : List (List ℕ)) (first files : ℕ) : Type 0 where
  pub within : first + files ≤ length words
  pub few : files ≤ max_files
  pub plain : All (λ name. begins_option name ≡ false) (names_at first files words)
  pub once : count_by is_input (names_at first files words) ≤ 1
