use Rattle.std.proofs.Common.{◌≡◌, ◌-◌}
use Rattle.std.specs.List.{find, range_with_len}
use Rattle.hot_words.specs.Places.{stands_as_value, holds_option, place_before}
use Rattle.hot_words.proofs.places.find_option.Given as goal

-- whether this place holds a value is known, and the first place of the option is not passed
abbrev pub invariant-loop-place : goal.invariant-loop-place
invariant-loop-place l = record {
  value : l.is_value ≡ stands_as_value l.name l.words l.place;
  rest : find (holds_option l.name l.words l.option) (range_with_len l.place (l.end - l.place)) ≡ place_before l.name l.words l.option l.end;
}
