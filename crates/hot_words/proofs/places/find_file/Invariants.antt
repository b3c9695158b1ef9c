use Rattle.std.proofs.Common.{◌≡◌, ◌-◌, length}
use Rattle.std.specs.List.{find, range_with_len}
use Rattle.hot_words.specs.Places.{stands_as_value, begins_files, files_place}
use Rattle.hot_words.proofs.places.find_file.Given as goal

-- whether this place holds a value is known, and the place of the first file is not passed
abbrev pub invariant-loop-place : goal.invariant-loop-place
invariant-loop-place l = record {
  value : l.is_value ≡ stands_as_value l.name l.words l.place;
  rest : find (begins_files l.name l.words) (range_with_len l.place (length l.words - l.place)) ≡ files_place l.name l.words;
}
