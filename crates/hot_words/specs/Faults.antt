-- The faults of words behind a command.
use Rattle.std.specs.Prelude.{ℕ, ◌+◌, ◌-◌, Bool, not, ◌&&◌, ◌==◌, nat_lt, List, length, codes, if◌then◌else◌, Option, Some, None}
use Rattle.std.specs.Option.{option_map}
use Rattle.std.specs.List.{filter_map, list_any, range_with_len, slice_get}
use Rattle.hot_words.specs.declared.table.CommandName.{CommandName}
use Rattle.hot_words.specs.declared.faults.WordCode.{WordCode}
use Rattle.hot_words.specs.declared.faults.WordCode.TheVariants.{A3, A4, A5, A6, A7, A8}
use Rattle.hot_words.specs.declared.faults.WordFault.{WordFault}
use Rattle.hot_words.specs.Options.{has_option, takes_value, has_file, is_good}
use Rattle.hot_words.specs.Places.{word_of, is_last, stands_as_value, place_before, is_given, files_place}
use Rattle.hot_words.specs.Names.{names_at, is_input, is_extra}
use Rattle.hot_words.specs.Settings.{ratio_given, moments_given}

-- why a value is refused: it is not good for the option before it
abbrev pub value_fault : List (List ℕ) → ℕ → Option WordCode
value_fault words k = if is_good (word_of words (k - 1)) (word_of words k) then None else Some A6

-- why an option is refused: the command has none of its name, or it was given before, or its value is missing
abbrev pub option_fault : CommandName → List (List ℕ) → ℕ → Option WordCode
option_fault name words k =
    if not (has_option name (word_of words k)) then Some A3
    else (if is_given name words (word_of words k) k then Some A5
    else (if takes_value name (word_of words k) && is_last words k then Some A4 else None))

-- why a word before the files is refused
abbrev pub setting_fault : CommandName → List (List ℕ) → ℕ → Option WordCode
setting_fault name words k = if stands_as_value name words k then value_fault words k else option_fault name words k

-- why a word is refused from the first file on: the command takes no files, or it is a word too many
abbrev pub file_fault : CommandName → List (List ℕ) → ℕ → ℕ → Option WordCode
file_fault name words first k =
    if has_file name && not (is_extra (k - first) (list_any is_input (names_at first (k - first) words)) (word_of words k)) then None else Some A7

-- why the word at a place is refused, where the files begin here
abbrev pub code_by : CommandName → List (List ℕ) → Option ℕ → ℕ → Option WordCode
code_by name words None k = setting_fault name words k
code_by name words (Some first) k = if nat_lt k first then setting_fault name words k else file_fault name words first k

-- why the word at a place is refused
abbrev pub code_of : CommandName → List (List ℕ) → ℕ → Option WordCode
code_of name words k = code_by name words (files_place name words) k

-- the fault of the word at a place
abbrev pub fault_of : CommandName → List (List ℕ) → ℕ → Option WordFault
fault_of name words k = option_map (λ code. record { code = code; place = k }) (code_of name words k)

-- the faults of the words from a place on, from the left
abbrev pub faults_from : CommandName → List (List ℕ) → ℕ → List WordFault
faults_from name words k = filter_map (fault_of name words) (range_with_len k (length words - k))

-- the first fault of the words behind the command
abbrev pub fault_listed : CommandName → List (List ℕ) → Option WordFault
fault_listed name words = slice_get (faults_from name words 1) 0

-- whether the ratio is above 1 with second moments
abbrev pub is_too_wide : CommandName → List (List ℕ) → Bool
is_too_wide name words = (moments_given name words == 2) && nat_lt (ratio_given name words).den (ratio_given name words).num

-- then the value of the ratio is at fault
abbrev pub ratio_fault : CommandName → List (List ℕ) → Option WordFault
ratio_fault name words = if is_too_wide name words
    then option_map (λ k. record { code = A8; place = k + 1 }) (place_before name words (codes "--theta") (length words))
    else None

-- the first of two faults
abbrev pub first_of : Option WordFault → Option WordFault → Option WordFault
first_of None other = other
first_of (Some fault) other = Some fault

-- the fault that decides: the first of the words each by itself, and behind them the ratio's
abbrev pub fault_first : CommandName → List (List ℕ) → Option WordFault
fault_first name words = first_of (fault_listed name words) (ratio_fault name words)
