use Rattle.std.proofs.Common.{◌≡◌, ◌-◌, length}
use Rattle.std.specs.List.{find, range_with_len}
use Rattle.hot_words.specs.Places.{stands_as_value, begins_files, files_place}
use Rattle.hot_words.specs.Faults.{faults_from}
use Rattle.hot_words.proofs.faults.first_word_fault.Given as goal

-- whether this place holds a value is known, the place of the first file is not passed, and all faults stand from it on
abbrev pub invariant-loop-place : goal.invariant-loop-place
invariant-loop-place l = record {
  value : l.holds_value ≡ stands_as_value l.name l.words l.place;
  files : find (begins_files l.name l.words) (range_with_len l.place (length l.words - l.place)) ≡ files_place l.name l.words;
  rest : faults_from l.name l.words l.place ≡ faults_from l.name l.words 1;
}
