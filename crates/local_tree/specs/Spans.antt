-- Where the bodies of a cell stand, and the records made of them.
use Rattle.std.specs.Prelude.{◌≡◌, ◌+◌, ◌<◌, List}
use Rattle.hot_units.specs.Values.{BodyValue}
use Rattle.hot_units.specs.Keys.{IsCell}
use Rattle.morton_key.specs.Ranges.{count_below, first_key, last_key}
use Rattle.local_tree.specs.declared.spans.Span.{Span}

-- in a list in order the bodies of a cell stand from the first place to the second, exclusive, and there is one at least
pub record IsSpan (bodies : List BodyValue) (s : Span) : Type 0 where
  pub cell : IsCell s.key
  pub low : s.from ≡ count_below (first_key s.key) bodies
  pub high : s.to ≡ count_below (last_key s.key + 1) bodies
  pub some : s.from < s.to
