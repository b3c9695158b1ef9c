use Rattle.std.proofs.Common.{◌≡◌, ◌-◌}
use Rattle.std.specs.List.{list_any}
use Rattle.hot_words.specs.Names.{names_at, is_input}
use Rattle.hot_words.specs.Faults.{faults_from}
use Rattle.hot_words.proofs.faults.first_file_fault.Given as goal

-- whether standard input is among the files before this place is known, and all faults of the files stand from it on
abbrev pub invariant-loop-place : goal.invariant-loop-place
invariant-loop-place l = record {
  input : l.has_input ≡ list_any is_input (names_at l.first (l.place - l.first) l.words);
  rest : faults_from l.name l.words l.place ≡ faults_from l.name l.words l.first;
}
