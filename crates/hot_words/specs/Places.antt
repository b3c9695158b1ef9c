-- The words by their places, counted from 0: which are options, which are values of options, and where the files begin.
use Rattle.std.specs.Prelude.{ℕ, zero, suc, ◌+◌, Bool, false, not, ◌&&◌, ◌==◌, nat_eq, List, [], length, ◌-◌, slice_index_or, Option, is_some, codes}
use Rattle.std.specs.Option.{option_map}
use Rattle.std.specs.List.{find, starts_with, range_with_len}
use Rattle.std.specs.Str.{bytes_eq}
use Rattle.hot_words.specs.declared.table.CommandName.{CommandName}
use Rattle.hot_words.specs.Options.{takes_value}

-- the word at a place; behind the last the empty one
abbrev pub word_of : List (List ℕ) → ℕ → List ℕ
word_of words k = slice_index_or words k []

-- whether a place is that of the last word
abbrev pub is_last : List (List ℕ) → ℕ → Bool
is_last words k = k + 1 == length words

-- whether a word looks like an option
abbrev pub begins_option : List ℕ → Bool
begins_option word = starts_with nat_eq word (codes "--")

-- whether the word at a place is a value: the word before it is an option that takes one, and is no value itself
abbrev pub stands_as_value : CommandName → List (List ℕ) → ℕ → Bool
stands_as_value name words zero = false
stands_as_value name words (suc k) = takes_value name (word_of words k) && not (stands_as_value name words k)

-- whether the files may begin at a place: it holds neither a value nor a word that looks like an option
abbrev pub begins_files : CommandName → List (List ℕ) → ℕ → Bool
begins_files name words k = not (stands_as_value name words k) && not (begins_option (word_of words k))

-- the first such place behind the command: from there on all words are files
abbrev pub files_place : CommandName → List (List ℕ) → Option ℕ
files_place name words = find (begins_files name words) (range_with_len 1 (length words - 1))

-- whether a place holds an option of this name
abbrev pub holds_option : CommandName → List (List ℕ) → List ℕ → ℕ → Bool
holds_option name words option k = bytes_eq (word_of words k) option && not (stands_as_value name words k)

-- the first place before another one that holds an option
abbrev pub place_before : CommandName → List (List ℕ) → List ℕ → ℕ → Option ℕ
place_before name words option end = find (holds_option name words option) (range_with_len 0 end)

-- whether an option was given before a place
abbrev pub is_given : CommandName → List (List ℕ) → List ℕ → ℕ → Bool
is_given name words option end = is_some (place_before name words option end)

-- the value of an option, the word behind it, where it is given
abbrev pub value_of : CommandName → List (List ℕ) → List ℕ → Option (List ℕ)
value_of name words option = option_map (λ k. word_of words (k + 1)) (place_before name words option (length words))
